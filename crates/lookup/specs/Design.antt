-- The modules of a job and its index. Assumes nothing.
use Rattle.std.specs.Prelude.{List}
use Rattle.joblines.specs.Job.{Module}
use Rattle.lookup.specs.Rows.{modules}
use Rattle.jobindex.specs.declared.Design.{Design}

-- those that there are
abbrev pub modules_in : Design → List Module
modules_in d = modules d.index.job.now d.index.rows.now d.count
