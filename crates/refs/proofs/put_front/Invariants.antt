-- `refs::put_front` meets its contract: what is left of the first bytes is written behind what was. Assumes nothing.
use Rattle.std.specs.Prelude.{◌-◌, ◌++◌, take}
use Rattle.out.specs.Bytewise.{flat, becomes}
use Rattle.out.specs.Emit.{emit}
use Rattle.out.specs.Text.{shown, SameRoom}
use Rattle.names.specs.Name.{name_of}
use Rattle.refs.proofs.Written.{Fronts}
use Rattle.refs.proofs.put_front.Given as goal

abbrev pub invariant-loop-i : goal.invariant-loop-i
invariant-loop-i l = SameRoom l.initial.to l.to × Fronts (l.mem.files.now ++ l.mem.area.now) (becomes l.m) (emit (shown l.initial.to) (flat (becomes l.m) (take l.upto (name_of (l.mem.files.now ++ l.mem.area.now) l.initial.x)))) (shown l.to) l.x (l.upto - l._i)
