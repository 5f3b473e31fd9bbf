-- `isolation::round` meets its contract: what is left to gain is that of the strategies left. Assumes nothing.
use Prim.Native.Nat.{◌-◌}
use mathlib.Core.Path.{◌≡◌}
use mathlib.Core.List.{◌++◌, map}
use lib.ListN.{length, take}
use Rattle.jobindex.specs.Index.{module_row}
use Rattle.lookup.specs.Rows.{modules}
use Rattle.store.specs.View.{domain_of}
use Rattle.isolation.proofs.Rounds.{Rounds}
use Rattle.isolation.proofs.round.Given as goal

abbrev pub invariant-loop-i : goal.invariant-loop-i
invariant-loop-i l = (length l.out ≡ length l.initial.out)
    × ((length l.ports ≡ length l.initial.ports)
    × Rounds l.design.index.job.now (l.mem.files.now ++ l.mem.area.now) l.warn l.initial.a l.initial.out l.initial.ports (modules l.design.index.job.now l.design.index.rows.now l.design.count) (module_row l.design.index.job.now l.design.index.rows.now l.k) (map (domain_of (l.mem.files.now ++ l.mem.area.now)) (take l.domains.n l.domains.all)) l.having l.t l.a l.out l.ports l.i)
