-- Isolation by the stored records: laws as the needs of `isolate` ask them, and what every caller finds in its answer. Assumes nothing.
use Rattle.store.specs.declared.state.Few.{Few}
use Rattle.store.specs.declared.state.Domain.{Domain}
use Rattle.store.specs.declared.state.Isolation.{Isolation}
use Prim.Native.Nat.{ℕ, ◌+◌, ◌≤◌}
use native.Mathlib.Omega.{arith}
use mathlib.Core.Path.{◌≡◌}
use mathlib.Core.Bool.{Bool, false}
use mathlib.Core.List.{List, [], ◌++◌, map}
use lib.ListN.{take}
use Rattle.text.specs.Ascii.{Bytes}
use Rattle.out.specs.Emit.{Out, ◌▸◌}
use Rattle.jobindex.specs.Index.{module_row}
use Rattle.lookup.specs.Rows.{modules}
use Rattle.store.specs.View.{domain_of, isolation_of}
use Rattle.store.specs.declared.state.State.{State}
use Rattle.setting.specs.Stands.{setting_at, stands_at}
use Rattle.keep.specs.Covered.{Answer}
use Rattle.keep.specs.declared.Cover.{Cover}
use Rattle.alike.specs.Ruled.{Ruled}
use Rattle.strategies.specs.Gains.{isolation_gain}
use Rattle.isolation.specs.Asked.{OfIsolation, start_at, Isolated}
use Rattle.isolation.specs.Told.{orders_isolation, isolated_told}
use Rattle.generate.specs.Generates.{Asks}
use Rattle.generate.specs.Steps.{Isolates, AllIsolated}

pub asks_isolates : (job : Bytes) (nums : List ℕ) (count k : ℕ) (files area path : Bytes) (s : State) → Asks job nums count k files area path s → Isolates job nums count k files area s
asks_isolates job nums count k files area path s a = record { few = a.few; row = a.row; job_small = omega (arith, a.job_short); small = a.memory_small; orders = a.orders }

module _ (job : Bytes) (nums : List ℕ) (count k : ℕ) (files area : Bytes) (s : State) (g : Isolates job nums count k files area s) where
  pub isolation_asked : (is : Few Isolation) (ds : Few Domain) → is ≡ s.isolations → ds ≡ s.domains → OfIsolation job files area count k is ds
  isolation_asked is ds ei ed = rw (ei, ed) (orders_isolation job nums count k files area s g.orders g.few g.row g.job_small g.small)

  pub all_isolated : (is : Few Isolation) (ds : Few Domain) → is ≡ s.isolations → ds ≡ s.domains → (warn : Bool) (at : ℕ) (out₀ out : Bytes) (ports : List ℕ) (r : Cover)
      → Answer job (files ++ area) warn (start_at at) out₀ (isolation_gain (modules job nums count) (module_row job nums k) (map (domain_of (files ++ area)) (take ds.n ds.all)) (map (isolation_of (files ++ area)) (take is.n is.all)) []) r out ports
      → AllIsolated job nums count k files area s warn (out₀ ▸ at) out ports r
  all_isolated is ds ei ed warn at out₀ out ports r a path from top t st = isolated_told job nums count k files area path from top s t st g.orders warn at out₀ r out ports (rw (ei, ed) at a)

-- ---- what does not look at the setting
module _ (job : Bytes) (nums : List ℕ) (count k : ℕ) (files area : Bytes) (s : State) (warn : Bool) (o : Out) (out : Bytes) (ports : List ℕ) (r : Cover) (h : AllIsolated job nums count k files area s warn o out ports r) (go : r.over ≡ false) where
  some_isolated : Isolated (setting_at job nums count k files area [] 0 [] s []) job (files ++ area) s.isolations warn o out ports r
  some_isolated = h [] 0 [] (setting_at job nums count k files area [] 0 [] s []) (stands_at job nums count k files area [] 0 [] s [])

  pub isolated_ruled : Ruled (files ++ area) s.isolations ports r.ports
  isolated_ruled = some_isolated.ruled go

  pub isolated_few : r.warnings ≤ 513
  isolated_few = omega (arith, some_isolated.count go)
