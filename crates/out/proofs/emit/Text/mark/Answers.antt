use Rattle.out.specs.Marks.{marks}
use Rattle.out.proofs.emit.Text.mark.Goals as goal

pub returns-then-t-i : goal.returns-then-t-i
returns-then-t-i c = search marks

pub returns-then-t-i-eq125 : goal.returns-then-t-i-eq125
returns-then-t-i-eq125 c = search marks

pub returns-then-k-eq123 : goal.returns-then-k-eq123
returns-then-k-eq123 c = search marks

pub returns : goal.returns
returns c = search marks
