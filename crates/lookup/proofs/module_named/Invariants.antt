use Rattle.design.specs.Lookup.{module_named}
use Rattle.lookup.specs.Rows.{modules}
use mathlib.Core.Path.{◌≡◌}
use lib.ListN.{drop}
use Rattle.lookup.proofs.module_named.Given as goal

abbrev pub invariant-loop-k : goal.invariant-loop-k
invariant-loop-k l = module_named (modules l.design.index.job.now l.design.index.rows.now l.design.count) l.name ≡ module_named (drop l.k (modules l.design.index.job.now l.design.index.rows.now l.design.count)) l.name
