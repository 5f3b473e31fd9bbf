-- Each turn adds one case, and at most two differences.
use Rattle.std.proofs.Common.{◌+◌, ◌-◌, ◌≤◌}
use Rattle.replay.proofs.replay.Given as goal

abbrev pub invariant-loop-jobs : goal.invariant-loop-jobs
invariant-loop-jobs g l = (l.jobs ≤ 100000) × (l.differences ≤ l.jobs + l.jobs)

abbrev pub decreases-loop-jobs : goal.decreases-loop-jobs
decreases-loop-jobs g l = 100000 - l.jobs
