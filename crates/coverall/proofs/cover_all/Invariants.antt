-- `coverall::cover_all` meets its contract: what is left to gain is that of the elements left. Assumes nothing.
use Prim.Native.Nat.{◌-◌}
use mathlib.Core.Path.{◌≡◌}
use mathlib.Core.List.{◌++◌}
use lib.ListN.{length}
use Rattle.jobindex.specs.Index.{module_row}
use Rattle.lookup.specs.Rows.{modules}
use Rattle.names.specs.Name.{name_of}
use Rattle.coverall.specs.Elements.{aims_for}
use Rattle.coverall.proofs.Turns.{Alls}
use Rattle.coverall.proofs.cover_all.Given as goal

abbrev pub invariant-loop-i : goal.invariant-loop-i
invariant-loop-i l = (length l.out ≡ length l.initial.out)
    × ((length l.ports ≡ length l.initial.ports)
    × Alls l.design.index.job.now (l.mem.files.now ++ l.mem.area.now) l.warn l.initial.x l.initial.out l.initial.ports l.s.number (name_of (l.mem.files.now ++ l.mem.area.now) l.s.name) (aims_for l.outputs (modules l.design.index.job.now l.design.index.rows.now l.design.count) (module_row l.design.index.job.now l.design.index.rows.now l.k)) l.table.rows.now l.table.n l.x l.out l.ports l.i)
