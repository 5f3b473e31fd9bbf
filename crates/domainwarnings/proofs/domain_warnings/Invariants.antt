-- `domainwarnings::domain_warnings` meets its contract: the warnings about the domains left are told behind what was. Assumes nothing.
use Prim.Native.Nat.{◌+◌, ◌*◌, ◌≤◌}
use mathlib.Core.List.{◌++◌, flat_map}
use lib.ListN.{length, take}
use Rattle.out.specs.Emit.{emit}
use Rattle.out.specs.Text.{shown, SameRoom}
use Rattle.out.specs.Items.{each}
use Rattle.jobindex.specs.Index.{module_row}
use Rattle.lookup.specs.Rows.{modules}
use Rattle.texts.specs.Texts.{warning_line}
use Rattle.store.specs.View.{domain_of}
use Rattle.domainwarnings.specs.Missing.{remarks}
use Rattle.domainwarnings.proofs.Tells.{Domained}
use Rattle.domainwarnings.proofs.domain_warnings.Given as goal

abbrev pub invariant-loop-i : goal.invariant-loop-i
invariant-loop-i l = SameRoom l.initial.to l.to
    × ((l.i ≤ l.m)
    × ((l.told ≤ l.initial.told + 65 * l.i)
    × Domained (l.mem.files.now ++ l.mem.area.now) (modules l.design.index.job.now l.design.index.rows.now l.design.count) (module_row l.design.index.job.now l.design.index.rows.now l.k) l.t
    (emit (shown l.initial.to) (each warning_line (flat_map (λ d. remarks (modules l.design.index.job.now l.design.index.rows.now l.design.count) (module_row l.design.index.job.now l.design.index.rows.now l.k) (domain_of (l.mem.files.now ++ l.mem.area.now) d)) (take l.t.n l.t.all))))
    (l.initial.told + length (flat_map (λ d. remarks (modules l.design.index.job.now l.design.index.rows.now l.design.count) (module_row l.design.index.job.now l.design.index.rows.now l.k) (domain_of (l.mem.files.now ++ l.mem.area.now) d)) (take l.t.n l.t.all)))
    (shown l.to) l.told l.i))
