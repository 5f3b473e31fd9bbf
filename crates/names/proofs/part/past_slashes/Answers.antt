use mathlib.Core.Path.{refl}
use Rattle.names.proofs.Parted.{trims}
use Rattle.names.proofs.part.past_slashes.Goals as goal

pub loop-b-init : goal.loop-b-init
loop-b-init c = record { keeps = refl }

pub returns-then-b-ne47 : goal.returns-then-b-ne47
returns-then-b-ne47 c = search trims

pub loop-b-preserved : goal.loop-b-preserved
loop-b-preserved c = search trims

pub returns : goal.returns
returns c = search trims
