-- The walk's answer, by the definitions with the real scope: it is a refusal exactly where `walk_fits` is false; else the paths, with the scope's path put
-- before each, are the domain's list.
-- Assumes nothing.
use Rattle.std.specs.Prelude.{ℕ, ◌+◌, ◌<◌, ◌≡◌, refl, Bool, true, false, not, ◌&&◌, leb, take, Result, Ok, Err, is_err}
use Rattle.std.proofs.Math.Path.{sym, ap}
use Rattle.std.proofs.Common.{ap₂, ◌∙◌, arith, length-take-le, le-leb, leb-true}
use mathlib.Core.List.{List, [], ◌∷◌, map, Memᴰ as Mem}
use Rattle.std.proofs.Math.ListN.{length, length-map}
use Rattle.text.specs.Ascii.{Bytes}
use Rattle.text.specs.Sames.{both}
use Rattle.joblines.specs.Job.{Module}
use Rattle.design.specs.Paths.{child_path, scope_path}
use Rattle.walk.specs.Limits.{most_entered, most_paths, most_path_bytes}
use Rattle.walk.specs.Walk.{sum_over, path_bytes, domain_list, domain_entered, walk_fits}
use Rattle.walk.specs.Relative.{Filled, filled_entries}
use Rattle.walk.proofs.Relative.{relative_list, relative_entered, relative_bytes}
use Rattle.listing.specs.declared.TooMany.{TooMany}
use Rattle.listing.specs.declared.Walk.{Walk}
use Rattle.listing.specs.Listing.{paths_of, cost, cut_length, Within, Listed, Answer}

-- the limits as one test
abbrev within : ℕ → ℕ → List Bytes → Bool
within prefix v ps = leb v most_entered && (leb (length ps) most_paths && leb (cost prefix ps) most_path_bytes)

test_within : (prefix v : ℕ) (ps : List Bytes) → within prefix v ps ≡ true → Within prefix v ps
test_within prefix v ps e =
    let a = both (leb v most_entered) (leb (length ps) most_paths && leb (cost prefix ps) most_path_bytes) e in
    let b = both (leb (length ps) most_paths) (leb (cost prefix ps) most_path_bytes) a.1 in
    record { entered = leb-true v most_entered a.0; paths = leb-true (length ps) most_paths b.0; bytes = leb-true (cost prefix ps) most_path_bytes b.1 }

within_test : (prefix v : ℕ) (ps : List Bytes) → Within prefix v ps → within prefix v ps ≡ true
within_test prefix v ps w = rw (le-leb v most_entered w.entered, le-leb (length ps) most_paths w.paths, le-leb (cost prefix ps) most_path_bytes w.bytes)

module _ (prefix v : ℕ) (ps : List Bytes) (text : Bytes) (ends : List ℕ) where
  kept_within : (w : Walk) → Listed prefix v ps w text ends → Within prefix v ps
  kept_within w a =
      let d = a.ready in
      let n : length (paths_of text ends w.count) ≡ w.count = cut_length text 0 (take w.count ends) ∙ length-take-le w.count ends (omega (arith, d.few, d.ends_long)) in
      let c : cost prefix ps ≡ w.used = ap (cost prefix) (sym a.paths_are) ∙ sym d.used_is in
      record {
        entered = omega (arith, d.entered_few, a.entered_is);
        paths = omega (arith, d.few, n, ap length a.paths_are);
        bytes = omega (arith, d.used_low, c);
      }

  pub over_is : (r : Result Walk TooMany) → Answer prefix v ps r text ends → is_err r ≡ not (within prefix v ps)
  over_is (Ok w) a = rw (within_test prefix v ps (kept_within w a)) refl
  over_is (Err x) a = go (within prefix v ps) refl
    where
      go : (t : Bool) → within prefix v ps ≡ t → true ≡ not t
      go true f = absurd (a (test_within prefix v ps f))
      go false f = refl

-- the walk behind an answer that is no refusal
listed_by : (prefix v : ℕ) (ps : List Bytes) (r : Result Walk TooMany) (text : Bytes) (ends : List ℕ) → Answer prefix v ps r text ends → (w : Walk) → r ≡ Ok w → Listed prefix v ps w text ends
listed_by prefix v ps r text ends a w e = rw e at a

cost_none : (ps : List Bytes) → cost 0 ps ≡ path_bytes ps
unfolding cost path_bytes sum_over
cost_none [] = refl
cost_none (p ∷ ps) = let h : cost 0 ps ≡ path_bytes ps = cost_none ps in ap₂ ◌+◌ (omega arith) h

-- at the top
module _ (d : List Module) (base : Module) (entries es : List Bytes) (r : Result Walk TooMany) (text : Bytes) (ends : List ℕ) (a : Answer 0 (domain_entered d base [] entries es) (domain_list d base [] entries es) r text ends) where
  pub top_over : is_err r ≡ not (walk_fits d base [] entries es)
  top_over = over_is 0 (domain_entered d base [] entries es) (domain_list d base [] entries es) text ends r a ∙ rw (cost_none (domain_list d base [] entries es))

  pub top_paths : (w : Walk) → r ≡ Ok w → paths_of text ends w.count ≡ domain_list d base [] entries es
  top_paths w o = (listed_by 0 (domain_entered d base [] entries es) (domain_list d base [] entries es) r text ends a w o).paths_are

-- below a scope: the empty entries equal no path, and each path gets the scope's path and a dot
module _ (d : List Module) (base : Module) (scope entries es : List Bytes) (ok : Filled d) (at : Mem base d) (long : 0 < length (scope_path scope)) (r : Result Walk TooMany) (text : Bytes) (ends : List ℕ)
    (a : Answer (length (scope_path scope) + 1) (domain_entered d base [] (filled_entries entries) es) (domain_list d base [] (filled_entries entries) es) r text ends) where
  abbrev near : List Bytes
  near = domain_list d base [] (filled_entries entries) es

  pub scope_over : is_err r ≡ not (walk_fits d base scope entries es)
  unfolding cost
  scope_over =
      let n : length (domain_list d base scope entries es) ≡ length near = ap length (relative_list d base scope entries es ok at long) ∙ length-map near (child_path (scope_path scope)) in
      over_is (length (scope_path scope) + 1) (domain_entered d base [] (filled_entries entries) es) near text ends r a
      ∙ sym (rw (relative_entered d base scope entries es ok at long, n, relative_bytes d base scope entries es ok at long))

  pub scope_paths : (w : Walk) → r ≡ Ok w → map (child_path (scope_path scope)) (paths_of text ends w.count) ≡ domain_list d base scope entries es
  scope_paths w o =
      ap (map (child_path (scope_path scope))) (listed_by (length (scope_path scope) + 1) (domain_entered d base [] (filled_entries entries) es) near r text ends a w o).paths_are ∙ sym (relative_list d base scope entries es ok at long)
