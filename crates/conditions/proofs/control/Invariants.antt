-- `conditions::control` meets its contract: the ports that are left, behind what was found, have the answer. Assumes nothing.
use Prim.Native.Nat.{◌-◌}
use mathlib.Core.List.{◌++◌}
use Rattle.refs.specs.Text.{text_of}
use Rattle.conditions.proofs.Words.{Controls, controls}
use Rattle.conditions.proofs.control.Given as goal

abbrev pub invariant-loop-i : goal.invariant-loop-i
invariant-loop-i l = Controls (l.mem.files.now ++ l.mem.area.now) l.controls.rows.now l.controls.n (text_of l.job (l.mem.files.now ++ l.mem.area.now) l.w) l.found l.i

abbrev pub decreases-loop-i : goal.decreases-loop-i
decreases-loop-i l = l.controls.n - l.i
