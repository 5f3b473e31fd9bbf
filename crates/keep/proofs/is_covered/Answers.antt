use Rattle.keep.proofs.Aims.{seek_start, seek_here, seek_on, seek_other, row_few, row_more, row_left, seeks}
use borrow.Author.Rules.{rules}
use Rattle.keep.proofs.is_covered.Goals as goal

pub loop-k-init : goal.loop-k-init
loop-k-init c = seek_start _ _ _ _ _

pub is_other-requires : goal.is_other-requires
is_other-requires c = row_few _ _ c.requires.0 c.loop-k-test.true

pub loop-k-preserved-then-is_other : goal.loop-k-preserved-then-is_other
loop-k-preserved-then-is_other c = seek_other _ _ _ _ _ _ _ _ c.loop-k.invariant c.loop-k-test.true c.requires.1 c.is_other.ensures c.if-is_other.true

pub is_row-requires : goal.is_row-requires
is_row-requires c = row_few _ _ c.requires.0 c.loop-k-test.true

pub returns-then-is_row : goal.returns-then-is_row
returns-then-is_row c = seek_here _ _ _ _ _ _ c.loop-k.invariant c.loop-k-test.true _ c.is_row.ensures c.if-is_row.true

pub loop-k-preserved : goal.loop-k-preserved
loop-k-preserved c = seek_on _ _ _ _ _ _ c.loop-k.invariant c.loop-k-test.true _ c.is_row.ensures c.if-is_row.false
