-- The modules of a job and its index. Assumes nothing.
use Rattle.std.specs.Prelude.{ℕ}
use Rattle.joblines.specs.Job.{Module}
use Rattle.jobindex.specs.Index.{module_row}
use Rattle.jobindex.specs.declared.Index.{Index}

-- the module of row k
abbrev pub module_in : Index → ℕ → Module
module_in i k = module_row i.job.now i.rows.now k
