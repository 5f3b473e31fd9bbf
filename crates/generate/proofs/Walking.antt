-- What the domains ask: laws as the needs of `walked` and its parts ask them. Assumes nothing.
use Rattle.store.specs.declared.state.Few.{Few}
use Rattle.store.specs.declared.state.Retention.{Retention}
use Prim.Native.Nat.{ℕ, ◌+◌, ◌≤◌}
use native.Mathlib.Omega.{arith}
use mathlib.Core.Path.{◌≡◌, ap, ◌∙◌}
use mathlib.Core.List.{List, ◌++◌}
use lib.ListN.{length}
use Rattle.text.specs.Ascii.{Bytes}
use Rattle.store.specs.declared.state.State.{State}
use Rattle.modtable.specs.Table.{names_at, Tabled}
use Rattle.modtable.specs.Making.{MakeGiven}
use Rattle.alike.specs.Ruled.{Ruled}
use Rattle.domainlists.specs.Lists.{all_entries, OfRetentions, Names}
use Rattle.domainlists.specs.Seen.{retained_few, orders_retentions}
use Rattle.domains.specs.Told.{OfDomains, WalkRoom}
use Rattle.generate.specs.Generates.{Asks}
use Rattle.generate.specs.Steps.{Prefixed, Retains}

module _ (job : Bytes) (nums : List ℕ) (count k : ℕ) (files area path : Bytes) (s : State) (a : Asks job nums count k files area path s) where
  make_asked : (inputs table : List ℕ) → 384 ≤ length inputs → names_at count ≤ length table → MakeGiven job nums count inputs table
  make_asked inputs table hi ht = record { inputs_long = hi; few = a.few; long = ht; small = omega (arith, a.job_short); limited = a.within }

  pub make_few : (inputs table : List ℕ) → 384 ≤ length inputs → count ≤ 8 → 4624 ≤ length table → MakeGiven job nums count inputs table
  make_few inputs table hi h ht = make_asked inputs table hi (omega (arith, h, ht))

  pub make_some : (inputs table : List ℕ) → 384 ≤ length inputs → count ≤ 40 → 23120 ≤ length table → MakeGiven job nums count inputs table
  make_some inputs table hi h ht = make_asked inputs table hi (omega (arith, h, ht))

  pub make_many : (inputs table : List ℕ) → 384 ≤ length inputs → 73984 ≤ length table → MakeGiven job nums count inputs table
  make_many inputs table hi ht = make_asked inputs table hi (omega (arith, a.few, ht))

  module _ (rs : Few Retention) (e : rs ≡ s.retentions) where
    pub retained_asked : (kept : List ℕ) → 5120 ≤ length kept → OfRetentions files area rs kept
    retained_asked kept h = rw e (orders_retentions files area nums s a.orders kept h)

    pub retains : (kept₀ kept : List ℕ) (r : ℕ) → Names (files ++ area) (all_entries (files ++ area) rs) kept₀ kept r → Retains files area s kept r
    retains kept₀ kept r n =
        let q : all_entries (files ++ area) rs ≡ all_entries (files ++ area) s.retentions = ap (all_entries (files ++ area)) e in
        record { are = n.are ∙ q; few = omega (arith, n.count ∙ ap length q, retained_few files area nums s a.orders) }

  pub domains_asked : (table : List ℕ) (from prefix : ℕ) (kept : List ℕ) (r : ℕ) (ports : List ℕ) (m : ℕ) → Tabled job nums count table → Prefixed path from prefix → Retains files area s kept r → Ruled (files ++ area) s.isolations ports m
      → OfDomains job nums count k table files area path from prefix s kept r ports m
  domains_asked table from prefix kept r ports m tb p rt ru =
      record {
        few = a.few;
        row = a.row;
        job_small = omega (arith, a.job_short);
        short = a.short;
        filled = a.filled;
        tabled = tb;
        orders = a.orders;
        prefix_is = p.is;
        prefix_small = p.small;
        kept_are = rt.are;
        kept_few = rt.few;
        ruled = ru;
      }

pub walk_room : (tail text : Bytes) (ends : List ℕ) → 2112 ≤ length tail → 32768 ≤ length text → 17408 ≤ length ends → WalkRoom tail text ends
walk_room tail text ends ht hx he = record { tail_long = omega arith; text_long = omega arith; ends_long = omega arith }
