use mathlib.Core.Path.{refl}
use Rattle.names.proofs.Parted.{takes}
use Rattle.names.proofs.part.stepped_part.Goals as goal

pub loop-c-init : goal.loop-c-init
loop-c-init c = record { keeps = refl }

pub loop-c-preserved : goal.loop-c-preserved
loop-c-preserved c = search takes
