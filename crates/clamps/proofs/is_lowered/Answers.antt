use mathlib.Core.Path.{refl}
use Rattle.clamps.proofs.Streams.{lows}
use Rattle.clamps.proofs.is_lowered.Goals as goal

pub loop-c-init : goal.loop-c-init
loop-c-init c = record { keeps = refl }

pub returns-then-lower-c : goal.returns-then-lower-c
returns-then-lower-c c = search lows

pub loop-c-preserved : goal.loop-c-preserved
loop-c-preserved c = search lows
