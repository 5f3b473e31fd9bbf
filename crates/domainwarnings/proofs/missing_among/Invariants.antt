-- `domainwarnings::missing_among` meets its contract: the warnings about the elements left are told behind what was. Assumes nothing.
use Prim.Native.Nat.{◌+◌, ◌≤◌}
use mathlib.Core.List.{◌++◌}
use lib.ListN.{length}
use Rattle.out.specs.Emit.{emit}
use Rattle.out.specs.Text.{shown, SameRoom}
use Rattle.out.specs.Items.{each}
use Rattle.jobindex.specs.Index.{module_row}
use Rattle.lookup.specs.Rows.{modules}
use Rattle.nametable.specs.Table.{table_names}
use Rattle.texts.specs.Texts.{warning_line}
use Rattle.store.specs.Strings.{string}
use Rattle.domainwarnings.specs.Missing.{missing}
use Rattle.domainwarnings.proofs.Tells.{Among}
use Rattle.domainwarnings.proofs.missing_among.Given as goal

abbrev pub invariant-loop-i : goal.invariant-loop-i
invariant-loop-i l = SameRoom l.initial.to l.to
    × ((l.i ≤ l.elements.n)
    × ((l.told ≤ l.initial.told + l.i)
    × Among (modules l.design.index.job.now l.design.index.rows.now l.design.count) (module_row l.design.index.job.now l.design.index.rows.now l.k) (l.mem.files.now ++ l.mem.area.now) (string (l.mem.files.now ++ l.mem.area.now) l.domain) l.elements.rows.now l.elements.n
    (emit (shown l.initial.to) (each warning_line (missing (modules l.design.index.job.now l.design.index.rows.now l.design.count) (module_row l.design.index.job.now l.design.index.rows.now l.k) (string (l.mem.files.now ++ l.mem.area.now) l.domain) (table_names (l.mem.files.now ++ l.mem.area.now) l.elements.rows.now l.elements.n))))
    (l.initial.told + length (missing (modules l.design.index.job.now l.design.index.rows.now l.design.count) (module_row l.design.index.job.now l.design.index.rows.now l.k) (string (l.mem.files.now ++ l.mem.area.now) l.domain) (table_names (l.mem.files.now ++ l.mem.area.now) l.elements.rows.now l.elements.n)))
    (shown l.to) l.told l.i))
