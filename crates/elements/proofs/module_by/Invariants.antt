-- `elements::module_by` meets its contract: the lookup of the whole element is that of what is left of it, from the module at hand. Assumes nothing.
use lib.ListN.{length}
use mathlib.Core.List.{◌++◌}
use Rattle.jobindex.specs.Index.{module_row}
use Rattle.design.specs.Lookup.{module_at}
use Rattle.design.specs.Paths.{filled_parts}
use Rattle.lookup.specs.Rows.{modules}
use Rattle.names.specs.Name.{name_of}
use Rattle.elements.proofs.Turns.{Going}
use Rattle.elements.proofs.module_by.Given as goal

abbrev pub invariant-loop-memo : goal.invariant-loop-memo
invariant-loop-memo l = Going l.design.index.job.now l.design.index.rows.now l.design.count (module_at (modules l.design.index.job.now l.design.index.rows.now l.design.count) (module_row l.design.index.job.now l.design.index.rows.now l.k) (filled_parts (name_of (l.mem.files.now ++ l.mem.area.now) l.fn.e))) l.m (name_of (l.mem.files.now ++ l.mem.area.now) l.x) l.memo

abbrev pub decreases-loop-memo : goal.decreases-loop-memo
decreases-loop-memo l = length (name_of (l.mem.files.now ++ l.mem.area.now) l.x)
