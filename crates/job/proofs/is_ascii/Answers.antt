use Rattle.job.proofs.Lows.{lows}
use Rattle.job.proofs.is_ascii.Goals as goal

pub loop-i-init : goal.loop-i-init
loop-i-init c = search lows

pub overflow_sub-job : goal.overflow_sub-job
overflow_sub-job c = search lows

pub eight_low-requires : goal.eight_low-requires
eight_low-requires c = search lows

pub each_low-requires : goal.each_low-requires
each_low-requires c = search lows

pub returns-then-not-eight_low : goal.returns-then-not-eight_low
returns-then-not-eight_low c = search lows

pub overflow_add-i : goal.overflow_add-i
overflow_add-i c = search lows

pub loop-i-smaller : goal.loop-i-smaller
loop-i-smaller c = search lows

pub loop-i-preserved : goal.loop-i-preserved
loop-i-preserved c = search lows

pub each_low-requires-2 : goal.each_low-requires-2
each_low-requires-2 c = search lows

pub returns : goal.returns
returns c = search lows
