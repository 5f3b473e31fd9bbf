use mathlib.Core.Path.{refl}
use Rattle.clamps.proofs.Streams.{puts}
use Rattle.clamps.proofs.put_lowered.Goals as goal

pub loop-b-init : goal.loop-b-init
loop-b-init c = (refl, record { keeps = refl })

pub loop-b-preserved : goal.loop-b-preserved
loop-b-preserved c = (search puts, search puts)

pub returns : goal.returns
returns c = (search puts, search puts)
