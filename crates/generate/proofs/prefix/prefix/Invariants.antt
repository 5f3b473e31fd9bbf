-- `generate::prefix::prefix` meets its contract: what is left of the parts is added to what was. Assumes nothing.
use Prim.Native.Nat.{◌-◌}
use lib.ListN.{length}
use Rattle.generate.proofs.Prefixes.{Adding}
use Rattle.generate.proofs.prefix.prefix.Given as goal

abbrev pub invariant-loop-part : goal.invariant-loop-part
invariant-loop-part l = Adding l.path l.from l.n l.i

abbrev pub decreases-loop-part : goal.decreases-loop-part
decreases-loop-part l = length l.path - l.i
