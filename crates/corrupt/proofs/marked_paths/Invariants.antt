-- `corrupt::marked_paths` meets its contract: the domain is what was listed so far and what the elements left come to. Assumes nothing.
use mathlib.Core.List.{[], ◌++◌}
use Rattle.jobindex.specs.Index.{module_row}
use Rattle.lookup.specs.Rows.{modules}
use Rattle.nametable.specs.Table.{table_names}
use Rattle.walk.specs.Walk.{domain_list, domain_entered}
use Rattle.paths.specs.Pieces.{entries_below}
use Rattle.corrupt.proofs.Domain.{Elements}
use Rattle.corrupt.proofs.marked_paths.Given as goal

abbrev pub invariant-loop-i : goal.invariant-loop-i
invariant-loop-i l = Elements l.design.index.job.now l.design.index.rows.now l.design.count l.k l.table l.mem.files.now l.mem.area.now l.retained.n (entries_below l.below (table_names (l.mem.files.now ++ l.mem.area.now) l.retained.rows.now l.retained.n)) l.elements.rows.now l.elements.n l.prefix l.initial.tail l.initial.text l.initial.ends (domain_entered (modules l.design.index.job.now l.design.index.rows.now l.design.count) (module_row l.design.index.job.now l.design.index.rows.now l.k) [] (entries_below l.below (table_names (l.mem.files.now ++ l.mem.area.now) l.retained.rows.now l.retained.n)) (table_names (l.mem.files.now ++ l.mem.area.now) l.elements.rows.now l.elements.n)) (domain_list (modules l.design.index.job.now l.design.index.rows.now l.design.count) (module_row l.design.index.job.now l.design.index.rows.now l.k) [] (entries_below l.below (table_names (l.mem.files.now ++ l.mem.area.now) l.retained.rows.now l.retained.n)) (table_names (l.mem.files.now ++ l.mem.area.now) l.elements.rows.now l.elements.n)) l.text l.ends l.w l.i
