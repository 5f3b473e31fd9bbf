use mathlib.Core.Path.{refl}
use Rattle.format.proofs.Scopes.{leads}
use Rattle.format.proofs.path.put_parts.Goals as goal

pub loop-p-init : goal.loop-p-init
loop-p-init c = (refl, record { keeps = refl })

pub loop-p-smaller : goal.loop-p-smaller
loop-p-smaller c = search leads

pub loop-p-preserved : goal.loop-p-preserved
loop-p-preserved c = search leads

pub returns : goal.returns
returns c = search leads
