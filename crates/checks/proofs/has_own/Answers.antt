use mathlib.Core.Path.{refl}
use Rattle.checks.proofs.Owns.{seeks}
use Rattle.checks.proofs.has_own.Goals as goal

pub loop-j-init : goal.loop-j-init
loop-j-init c = record { left = refl }
