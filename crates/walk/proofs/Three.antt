-- Laws: three retention lists, the third being the two others joined. Of two chains to one path the one that begins deeper is clear of both lists.
-- Assumes nothing.
use Rattle.std.specs.Prelude.{ℕ, ◌≤◌, ◌⊎◌, length}
use Rattle.std.proofs.Common.{sym, ◌∙◌, ⊎_elim, le_of_lt}
use Rattle.std.proofs.Math.Logic.{⊎_map, ⊎_swap}
use mathlib.Core.List.Memᴰ.{cast}
use mathlib.Core.List.Memᴰ.{map as mem-map}
use mathlib.Core.List.{List, Memᴰ as Mem}
use Rattle.text.specs.Ascii.{Bytes}
use Rattle.joblines.specs.Job.{Module}
use Rattle.design.specs.Paths.{element_path, retained_path, filled_parts}
use Rattle.design.specs.Laws.{le_or_lt, map_mem}
use Rattle.design.specs.Losables.{module_at_mem}
use Rattle.design.specs.AcceptedNames.{Plain}
use Rattle.walk.specs.Walk.{retained_paths}
use Rattle.walk.specs.Reach.{on_way, Reaches, DomainReaches, Joined}
use Rattle.walk.specs.Chains.{Dotless}
use Rattle.walk.proofs.Chains.{way_both, leads_mem, leads_all}

-- r₁ begins no deeper than r₂, so r₂'s chain is clear of both
both_at : {d : List Module} {R₁ R₂ R₃ : List Bytes} {k : ℕ} {m₁ m₂ : Module} {p₁ p₂ q : Bytes} → Plain d → ((v : Bytes) → Mem v R₃ → Mem v R₁ ⊎ Mem v R₂) → Mem m₁ d → length p₁ ≤ length p₂ → Reaches d R₁ k m₁ p₁ q → Reaches d R₂ k m₂ p₂ q → Reaches d R₃ k m₂ p₂ q
both_at {d} {R₁} {R₂} {R₃} {k} {m₁} {m₂} {p₁} {p₂} {q} ok from at le r₁ r₂ =
    record {
      chain = r₂.chain;
      short = r₂.short;
      last = r₂.last;
      leads = r₂.leads;
      clear = λ v way ret. ⊎_elim (λ in₁. r₁.clear v (met v way) in₁) (λ in₂. r₂.clear v way in₂) (from v ret);
      name = r₂.name;
      loses = r₂.loses;
      written = r₂.written;
    }
  where
    met : (v : Bytes) → Mem v (on_way p₂ r₂.chain) → Mem v (on_way p₁ r₁.chain)
    met =
        way_both p₁ p₂ r₁.chain r₂.chain r₁.name r₂.name
        (leads_all d (λ i. Dotless i.name) ok.inst_dotless m₁ r₁.chain r₁.last at r₁.leads)
        (ok.name_dotless r₁.last (leads_mem d m₁ r₁.chain r₁.last at r₁.leads) r₁.name r₁.loses)
        (sym r₁.written ∙ r₂.written) le

module _ (d : List Module) (base : Module) (scope : List Bytes) (ok : Plain d) (at : Mem base d) where
  joined_from : {E₁ E₂ E₃ : List Bytes} → Joined E₁ E₂ E₃ → (v : Bytes) → Mem v (retained_paths scope E₃) → Mem v (retained_paths scope E₁) ⊎ Mem v (retained_paths scope E₂)
  joined_from {E₁} {E₂} {E₃} j v m =
      let r = map_mem (retained_path scope) E₃ m in
      ⊎_map (λ n. cast r.2 (mem-map (retained_path scope) n)) (λ n. cast r.2 (mem-map (retained_path scope) n)) (j.from r.0 r.1)

  start_at_lem : {E es : List Bytes} {q : Bytes} (r : DomainReaches d base scope E es q) → Mem r.reached.start d
  start_at_lem r = module_at_mem d base (filled_parts r.element) at r.reached.found

  pub both_reach : {E₁ E₂ E₃ es : List Bytes} {q : Bytes} → Joined E₁ E₂ E₃ → DomainReaches d base scope E₁ es q → DomainReaches d base scope E₂ es q → DomainReaches d base scope E₃ es q
  both_reach {E₁} {E₂} {E₃} j r₁ r₂ =
      ⊎_elim
      (λ le. record {
        element = r₂.element;
        has = r₂.has;
        reached = record {
          start = r₂.reached.start;
          found = r₂.reached.found;
          reaches = both_at ok (joined_from j) (start_at_lem r₁) le r₁.reached.reaches r₂.reached.reaches;
        };
      })
      (λ lt. record {
        element = r₁.element;
        has = r₁.has;
        reached = record {
          start = r₁.reached.start;
          found = r₁.reached.found;
          reaches = both_at ok (λ v ret. ⊎_swap (joined_from j v ret)) (start_at_lem r₂) (le_of_lt lt) r₂.reached.reaches r₁.reached.reaches;
        };
      })
      (le_or_lt (length (element_path scope r₁.element)) (length (element_path scope r₂.element)))
