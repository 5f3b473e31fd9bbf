use mathlib.Core.Path.{refl}
use Rattle.format.proofs.Scopes.{slices}
use Rattle.format.proofs.path.put_each.Goals as goal

pub loop-b-init : goal.loop-b-init
loop-b-init c = (refl, record { keeps = refl })

pub loop-b-preserved : goal.loop-b-preserved
loop-b-preserved c = search slices

pub returns : goal.returns
returns c = search slices
