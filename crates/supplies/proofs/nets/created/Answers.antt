use native.Mathlib.Omega.{arith}
use borrow.Author.Rules.{rules}
use Rattle.supplies.proofs.Tables.{created_start, created_row, created_room, created_stores, created_step, created_done}
use Rattle.supplies.proofs.nets.created.Goals as goal

pub loop-i-init : goal.loop-i-init
loop-i-init c = (search rules, created_start _ _ _)

pub bounds-t-i : goal.bounds-t-i
bounds-t-i c = omega (arith, c.loop-i-test.true, c.requires.nets.sized.count)

pub put_row-requires : goal.put_row-requires
put_row-requires c = search (created_row, created_room, created_stores)

pub loop-i-preserved : goal.loop-i-preserved
loop-i-preserved c = (search rules, search created_step)

pub returns : goal.returns
returns c = search created_done
