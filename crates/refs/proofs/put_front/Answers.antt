use mathlib.Core.Path.{refl}
use Rattle.refs.proofs.Written.{fronts, front_start}
use Rattle.refs.proofs.put_front.Goals as goal

pub loop-i-init : goal.loop-i-init
loop-i-init c = (refl, front_start _ _ _ _ _)

pub loop-i-preserved : goal.loop-i-preserved
loop-i-preserved c = search fronts

pub returns : goal.returns
returns c = search fronts

pub returns-in_default : goal.returns-in_default
returns-in_default c = search fronts
