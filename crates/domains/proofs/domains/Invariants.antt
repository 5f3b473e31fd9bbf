-- `domains::domains` meets its contract: what is written of the domains passed, then the texts of those left, is the whole; and those passed fit. Assumes nothing.
use Rattle.out.specs.Emit.{◌▸◌}
use Rattle.domains.proofs.Turns.{Telling}
use Prim.Native.Nat.{◌-◌}
use mathlib.Core.Path.{◌≡◌}
use lib.ListN.{length}
use Rattle.domains.proofs.domains.Given as goal

abbrev pub invariant-loop-i : goal.invariant-loop-i
invariant-loop-i l = (length l.tail ≡ length l.initial.tail) × ((length l.text ≡ length l.initial.text) × ((length l.ends ≡ length l.initial.ends) × ((length l.glue ≡ length l.initial.glue) × ((length l.report ≡ length l.initial.report) × Telling l.src.design.index.job.now l.src.design.index.rows.now l.src.design.count l.k l.src.mem.files.now l.src.mem.area.now l.src.scope.over.now l.src.scope.from l.src.top.now l.s l.ports.rows.now l.ports.n (l.initial.glue ▸ l.initial.o.glue) l.glue (l.initial.report ▸ l.initial.o.report) l.report l.o l.i))))
