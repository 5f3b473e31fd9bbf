use Rattle.std.specs.Prelude.{◌≤◌}
use Rattle.std.proofs.Common.{arith}
use Rattle.substitution.proofs.Writing.{copies}
use Rattle.substitution.proofs.put.copy.Goals as goal

pub dropped-e-requires : goal.dropped-e-requires
dropped-e-requires c = search copies

pub loop-k-preserved : goal.loop-k-preserved
loop-k-preserved c = (search copies, search copies)

pub returns : goal.returns
returns c = let h : c.loop-k.k ≤ c.args.n = omega arith in search copies
