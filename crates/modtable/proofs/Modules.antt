-- The table, module by module: what is stored stays. Assumes nothing.
use Prim.Native.Nat.{ℕ, ◌+◌, ◌≤◌, ◌<◌, ◌^◌}
use mathlib.Core.Path.{◌≡◌, refl, ◌∙◌}
use mathlib.Core.Logic.{⊎_elim}
use mathlib.Core.List.{List}
use native.Mathlib.Omega.{arith}
use native.Mathlib.Nat.{eq-or-lt_of_le}
use lib.ListN.{length}
use borrow.Author.Rules.{rules}
use Rattle.text.specs.Ascii.{Bytes}
use Rattle.jobindex.specs.Index.{num}
use Rattle.jobindex.specs.Rows.{rows_same}
use Rattle.modtable.specs.Table.{names_at, name_place, ways_at, way_place, name_in, way_in, names_of, ways_of, ModuleTabled, Tabled}
use Rattle.modtable.specs.Making.{InputsGiven, InputsPut, NamesGiven, NamesPut, WaysGiven, WaysPut, MakeGiven}
use Rattle.modtable.proofs.Numbers.{num_front}

module _ (job : Bytes) (t t' : List ℕ) (k : ℕ) where
  names_same : ((i : ℕ) → i < ways_at k → num t' i ≡ num t i) → num t (names_at k) ≤ 192 → names_of job t' k ≡ names_of job t k
  names_same s few = rw (s (names_at k) (omega arith)) (rows_same (name_in job t' k) (name_in job t k) (num t (names_at k)) (λ i l. rw (s (name_place k i) (omega (arith, l, few)), s (name_place k i + 1) (omega (arith, l, few)))))

  module _ (index : List ℕ) (count : ℕ) (s : (i : ℕ) → i < names_at (k + 1) → num t' i ≡ num t i) where
    ways_same : num t (ways_at k) ≤ 64 → ways_of job index t' k ≡ ways_of job index t k
    ways_same few =
        rw (s (ways_at k) (omega arith)) (rows_same (way_in job index t' k) (way_in job index t k) (num t (ways_at k))
        (λ j l. rw (s (way_place k j) (omega (arith, l, few)), s (way_place k j + 1) (omega (arith, l, few)), s (way_place k j + 2) (omega (arith, l, few)))))

    tabled_same : ModuleTabled job index count t k → ModuleTabled job index count t' k
    tabled_same h =
        record {
          names = names_same (λ i l. s i (omega (arith, l))) h.names_few ∙ h.names;
          ways = ways_same h.ways_few ∙ h.ways;
          names_few = rw (s (names_at k) (omega arith)) h.names_few;
          ways_few = rw (s (ways_at k) (omega arith)) h.ways_few;
          within = λ j l.
              let g : j < num t (ways_at k) = rw (s (ways_at k) (omega arith)) at l in
              rw (s (way_place k j + 2) (omega (arith, g, h.ways_few))) (h.within j g);
        }

-- the modules before k are stored
pub record Made (job : Bytes) (index : List ℕ) (count : ℕ) (inputs₀ inputs table₀ table : List ℕ) (k : ℕ) : Type 0 where
  pub done : (j : ℕ) → j < k → ModuleTabled job index count table j
  pub long : length table ≡ length table₀
  pub inputs_long : length inputs ≡ length inputs₀
  pub given : MakeGiven job index count inputs₀ table₀

module _ (job : Bytes) (index : List ℕ) (count : ℕ) (inputs₀ table₀ : List ℕ) where
  pub made_start : MakeGiven job index count inputs₀ table₀ → Made job index count inputs₀ inputs₀ table₀ table₀ 0
  made_start g = record { done = λ j l. absurd (omega (arith, l)); long = refl; inputs_long = refl; given = g }

  module _ (inputs table : List ℕ) (k : ℕ) (inv : Made job index count inputs₀ inputs table₀ table k) where
    pub made_end : count ≤ k → Tabled job index count table
    made_end h j l = inv.done j (omega (arith, l, h))

    pub made_fits : k < count → k + 1 < 2 ^ 64
    made_fits h = omega (arith, h, inv.given.few)

    module _ (h : k < count) where
      pub made_inputs : InputsGiven job index k inputs
      made_inputs = record { row = omega (arith, h, inv.given.few); long = omega (arith, inv.given.inputs_long, inv.inputs_long); small = inv.given.small; few = (inv.given.limited k h).inputs_few }

      module _ (inputs₁ : List ℕ) (n : ℕ) (ip : InputsPut job index k inputs₁ n) where
        pub made_names : NamesGiven job index k inputs₁ n table
        made_names = record { put = ip; row = omega (arith, h, inv.given.few); long = omega (arith, inv.given.long, inv.long); small = inv.given.small; few = (inv.given.limited k h).names_few }

      module _ (t₁ : List ℕ) (np : NamesPut job index k table t₁) (l₁ : length t₁ ≡ length table) where
        pub made_ways : WaysGiven job index count k t₁
        made_ways = record { count_few = inv.given.few; row = omega (arith, h, inv.given.few); long = omega (arith, inv.given.long, inv.long, l₁); small = inv.given.small; few = (inv.given.limited k h).insts_few }

        module _ (t₂ : List ℕ) (wp : WaysPut job index count k t₁ t₂) (l₂ : length t₂ ≡ length t₁) where
          before : (i : ℕ) → i < names_at k → num t₂ i ≡ num table i
          before i l = num_front (ways_at k) t₁ t₂ wp.front i (omega (arith, l)) ∙ num_front (names_at k) table t₁ np.front i l

          this : ModuleTabled job index count t₂ k
          this =
              let s : (i : ℕ) → i < ways_at k → num t₂ i ≡ num t₁ i = num_front (ways_at k) t₁ t₂ wp.front in
              record {
                names = names_same job t₁ t₂ k s np.few ∙ np.names;
                ways = wp.ways;
                names_few = rw (s (names_at k) (omega arith)) np.few;
                ways_few = wp.few;
                within = wp.within;
              }

          low : (j : ℕ) → j < k + 1 → j ≤ k
          low j l = omega arith

          pub made_next : (inputs₁ : List ℕ) → length inputs₁ ≡ length inputs → Made job index count inputs₀ inputs₁ table₀ t₂ (k + 1)
          made_next inputs₁ li =
              record {
                done = λ j l.
                    ⊎_elim (λ e. rw e this) (λ g. tabled_same job table t₂ j index count (λ i b. before i (omega (arith, b, g))) (inv.done j g)) (eq-or-lt_of_le (low j l));
                long = l₂ ∙ l₁ ∙ inv.long;
                inputs_long = li ∙ inv.inputs_long;
                given = inv.given;
              }

pub ruleset mades = (rules, made_start, made_end, made_fits, made_inputs, made_names, made_ways, made_next)
