-- `format::fill::brace` meets its contract. Assumes nothing.
use Rattle.out.specs.Marks.{mark_none, mark_shut, mark_doubled}
use Rattle.format.proofs.Letters.{mark_nothing}
use Rattle.format.proofs.fill.brace.Goals as goal

pub returns-then-t-i : goal.returns-then-t-i
returns-then-t-i c = search mark_none

pub returns-then-t-i-eq125 : goal.returns-then-t-i-eq125
returns-then-t-i-eq125 c = search mark_shut

pub returns-then-k-eq123 : goal.returns-then-k-eq123
returns-then-k-eq123 c = search mark_doubled

pub returns : goal.returns
returns c = search mark_nothing
