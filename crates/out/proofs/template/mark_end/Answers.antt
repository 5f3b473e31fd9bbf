use Rattle.out.specs.Marks.{size_none, size_shut, size_doubled, size_argument}
use Rattle.out.proofs.template.mark_end.Goals as goal

pub returns-then-t-i : goal.returns-then-t-i
returns-then-t-i c = search size_none

pub returns-then-t-i-eq125 : goal.returns-then-t-i-eq125
returns-then-t-i-eq125 c = search size_shut

pub returns-then-peek-eq123 : goal.returns-then-peek-eq123
returns-then-peek-eq123 c = size_doubled _ _ c.if-t-i.false c.if-t-i-eq125.false _ c.peek.ensures c.if-peek-eq123.true

pub returns : goal.returns
returns c = size_argument _ _ c.if-t-i.false c.if-t-i-eq125.false _ c.peek.ensures c.if-peek-eq123.false
