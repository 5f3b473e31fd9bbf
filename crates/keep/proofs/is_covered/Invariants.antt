-- `keep::is_covered` meets its contract: the ports passed are not this one. Assumes nothing.
use mathlib.Core.List.{◌++◌}
use Rattle.refs.specs.Text.{text_of}
use Rattle.keep.proofs.Aims.{Seeks}
use Prim.Native.Nat.{◌-◌}
use Rattle.keep.proofs.is_covered.Given as goal

abbrev pub invariant-loop-k : goal.invariant-loop-k
invariant-loop-k l = Seeks l.job (l.mem.files.now ++ l.mem.area.now) l.ports.rows.now l.ports.n (text_of l.job (l.mem.files.now ++ l.mem.area.now) l.p) l.k
