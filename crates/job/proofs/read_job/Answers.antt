-- `job::read_job` meets its contract.
-- Assumes nothing.
use Rattle.std.proofs.Common.{rules}
use Rattle.job.proofs.Whole.{job_long, job_not_ascii, job_refused, job_listed}
use Rattle.job.proofs.read_job.Goals as goal

pub returns-then-job-gt65536 : goal.returns-then-job-gt65536
returns-then-job-gt65536 c = search job_long

pub returns-then-not-is_ascii : goal.returns-then-not-is_ascii
returns-then-not-is_ascii c = search job_not_ascii

pub returns-in_err-head : goal.returns-in_err-head
returns-in_err-head c = job_refused _ _ c.if-job-gt65536.false _ c.is_ascii.ensures (search rules) _ _ c.lines.ensures _ c.in_err-head.was _ c.from_residual.ensures.1

pub returns : goal.returns
returns c = job_listed _ _ c.if-job-gt65536.false _ c.is_ascii.ensures (search rules) _ _ c.lines.ensures _ c.in_ok-head.was _ c.listed.ensures
