-- Laws: the listed paths of a domain's walk, below the scope, are the paths that the domain loses. `prefix` is what the scope's path adds to each.
-- Assumes nothing.
use Rattle.std.specs.Prelude.{ℕ, ◌+◌, ◌<◌, ◌≡◌, refl, true, not, ltb, length, drop, Result, Ok, is_err}
use Rattle.std.proofs.Common.{ap, ◌∙◌, arith, length-append, lt-ltb}
use mathlib.Core.List.{List, [], ◌∷◌, map, Memᴰ as Mem}
use Rattle.text.specs.Ascii.{Bytes, byte}
use Rattle.text.specs.Compare.{same}
use Rattle.text.specs.Scan.{split_at}
use Rattle.joblines.specs.Job.{Module}
use Rattle.design.specs.Lists.{those}
use Rattle.design.specs.Paths.{child_path, scope_path}
use Rattle.walk.specs.Walk.{domain_list, domain_entered, walk_fits}
use Rattle.walk.specs.Relative.{Filled}
use Rattle.listing.specs.declared.TooMany.{TooMany}
use Rattle.listing.specs.declared.Walk.{Walk}
use Rattle.listing.specs.Listing.{paths_of, Answer}
use Rattle.walkfits.specs.Exact.{top_over, top_paths, scope_over, scope_paths}
use Rattle.paths.specs.Pieces.{entries_below, stem}
use Rattle.texts.specs.Scope.{slash_of}
use Rattle.scope.specs.Parts.{parts}
use Rattle.pathlines.specs.Lines.{below}

-- no part of an override is empty, so only the top has an empty path
bare_parts : (xs : List Bytes) → scope_path (those (λ (q : Bytes). not (same q [])) xs) ≡ [] → those (λ (q : Bytes). not (same q [])) xs ≡ []
unfolding those same
bare_parts [] e = refl
bare_parts ([] ∷ xs) e = bare_parts xs e
bare_parts ((b ∷ x) ∷ xs) e = absurd (let z : ◌≡◌ {A = ℕ} 1 0 = ap (λ (l : Bytes). some_length l) e in omega arith)
  where
    some_length : Bytes → ℕ
    some_length [] = 0
    some_length (c ∷ l) = 1

pub parts_bare : (over : Bytes) (from : ℕ) → scope_path (parts over from) ≡ [] → parts over from ≡ []
parts_bare over from e = bare_parts (split_at (byte "/") (map slash_of (drop from over))) e

below_top_lem : (qs : List Bytes) → map (child_path []) qs ≡ qs
below_top_lem [] = refl
below_top_lem (q ∷ qs) = ap (λ (l : List Bytes). q ∷ l) (below_top_lem qs)

module _ (d : List Module) (base : Module) (scope entries es : List Bytes) (ok : Filled d) (at : Mem base d) (bare : scope_path scope ≡ [] → scope ≡ []) (prefix : ℕ) (pre : prefix ≡ length (stem (scope_path scope))) (r : Result Walk TooMany) (text : Bytes) (ends : List ℕ)
    (a : Answer prefix (domain_entered d base [] (entries_below (ltb 0 prefix) entries) es) (domain_list d base [] (entries_below (ltb 0 prefix) entries) es) r text ends) where
  at_top : scope_path scope ≡ [] → Answer 0 (domain_entered d base [] entries es) (domain_list d base [] entries es) r text ends
  at_top e = let z : prefix ≡ 0 = pre ∙ rw e in rw z at a

  at_scope : 0 < length (scope_path scope) → Answer (length (scope_path scope) + 1) (domain_entered d base [] (entries_below true entries) es) (domain_list d base [] (entries_below true entries) es) r text ends
  at_scope l =
      let z : prefix ≡ length (scope_path scope) + 1 = pre ∙ stem_long (scope_path scope) l in
      let t : ltb 0 (length (scope_path scope) + 1) ≡ true = lt-ltb 0 (length (scope_path scope) + 1) (omega arith) in
      rw (z, t) at a
    where
      stem_long : (p : Bytes) → 0 < length p → length (stem p) ≡ length p + 1
      stem_long [] h = absurd (omega arith)
      stem_long (b ∷ p) h = length-append (b ∷ p) (byte "." ∷ [])

  -- a limit is passed exactly where the walk does not fit
  pub lost_over : is_err r ≡ not (walk_fits d base scope entries es)
  lost_over = go (scope_path scope) refl
    where
      go : (p : Bytes) → scope_path scope ≡ p → is_err r ≡ not (walk_fits d base scope entries es)
      go [] e = rw (bare e) (top_over d base entries es r text ends (at_top e))
      go (b ∷ p) e = let l : 0 < length (scope_path scope) = rw e (omega arith) in scope_over d base scope entries es ok at l r text ends (at_scope l)

  -- else the listed paths are those that are lost
  pub lost_are : (w : Walk) → r ≡ Ok w → below scope (paths_of text ends w.count) ≡ domain_list d base scope entries es
  lost_are w o = go (scope_path scope) refl
    where
      go : (p : Bytes) → scope_path scope ≡ p → below scope (paths_of text ends w.count) ≡ domain_list d base scope entries es
      go [] e = rw (bare e) (below_top_lem (paths_of text ends w.count) ∙ top_paths d base entries es r text ends (at_top e) w o)
      go (b ∷ p) e = let l : 0 < length (scope_path scope) = rw e (omega arith) in scope_paths d base scope entries es ok at l r text ends (at_scope l) w o
