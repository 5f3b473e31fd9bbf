-- `format::fill::mark` meets its contract. Assumes nothing.
use Rattle.format.proofs.Letters.{reads}
use Rattle.format.proofs.fill.mark.Goals as goal

pub returns-then-t-i : goal.returns-then-t-i
returns-then-t-i c = search reads

pub returns-then-t-i-eq125 : goal.returns-then-t-i-eq125
returns-then-t-i-eq125 c = search reads

pub returns-then-k-eq123 : goal.returns-then-k-eq123
returns-then-k-eq123 c = search reads

pub returns : goal.returns
returns c = search reads
