use Rattle.walkc.proofs.Telling.{tell_taken}
use Rattle.walkc.proofs.walkc_index.Goals as goal

pub returns-in-Ok : goal.returns-in-Ok
returns-in-Ok c = tell_taken _ _ _ _ c.read_job.ensures _ c.in-Ok.is
