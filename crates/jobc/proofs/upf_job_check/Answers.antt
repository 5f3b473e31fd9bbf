-- `jobc::upf_job_check` meets its contract.
-- Assumes nothing.
use borrow.Author.Rules.{rules}
use Rattle.jobc.proofs.Telling.{tell_short, tell_refused, tell_taken, line_small}
use Rattle.jobc.proofs.upf_job_check.Goals as goal

pub returns-then-index-lt1280 : goal.returns-then-index-lt1280
returns-then-index-lt1280 c = search tell_short

pub overflow_add-result : goal.overflow_add-result
overflow_add-result c = let l = line_small _ _ _ _ c.read_job.ensures _ c.in-Err.is in search rules

pub returns-in-Err : goal.returns-in-Err
returns-in-Err c = search tell_refused

pub returns-in-Ok : goal.returns-in-Ok
returns-in-Ok c = search tell_taken
