-- `job::listed` meets its contract.
-- Assumes nothing.
use Rattle.job.proofs.Whole.{start_not, top_not, listed_on}
use Rattle.job.proofs.listed.Goals as goal

pub returns-in_default : goal.returns-in_default
returns-in_default c = start_not _ _ _ _ c.part-path.ensures c.in_default.ensures

pub returns-in_default-row_of : goal.returns-in_default-row_of
returns-in_default-row_of c = top_not _ _ _ _ c.part-path.ensures _ c.in-Some.ensures _ c.part-name.ensures c.in_default-row_of.ensures

pub returns : goal.returns
returns c = listed_on _ _ _ _ c.part-path.ensures _ c.in-Some.ensures _ c.part-name.ensures _ c.in-Some-row_of.ensures c.requires
