-- The loop ends: fewer numbers are left at each turn.
use Rattle.std.proofs.Common.{◌-◌, length}
use Rattle.replay.proofs.all_zero.Given as goal
