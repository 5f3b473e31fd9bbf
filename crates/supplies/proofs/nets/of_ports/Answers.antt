use borrow.Author.Rules.{rules}
use native.Mathlib.Omega.{arith}
use Rattle.supplies.proofs.Tables.{ported_start, ported_long, ported_one, ported_step, ported_done}
use Rattle.supplies.proofs.nets.of_ports.Goals as goal

pub loop-i-init : goal.loop-i-init
loop-i-init c = (search rules, ported_start _ _ _ _ _)

pub bounds-t-i : goal.bounds-t-i
bounds-t-i c = omega (arith, c.loop-i-test.true, c.requires.ports.sized.count)

pub add_port-k-requires : goal.add_port-k-requires
add_port-k-requires c = search ported_one

pub loop-i-preserved : goal.loop-i-preserved
loop-i-preserved c = (search rules, search ported_step)

pub shape_of-table : goal.shape_of-table
shape_of-table c = search ported_long

pub returns : goal.returns
returns c = search ported_done
