-- Laws: the walk below a scope other than the top is the walk as if the scope were the top, with the scope's path and a dot put before each path. Retained
-- entries that are empty equal no path there.
-- Assumes nothing.
use Prim.Native.Nat.{ℕ, zero, suc, ◌+◌, ◌<◌}
use Rattle.std.specs.Prelude.{◌≡◌, Bool, length, Option, None, Some}
use Rattle.std.proofs.Math.Path.{refl, sym, ap, ap₂}
use Rattle.std.proofs.Common.{◌∙◌, arith, length-append}
use Rattle.std.proofs.Math.Bool.{true, false, cond, ◌||◌}
use mathlib.Core.List.{List, [], ◌∷◌, ◌++◌, map, flat_map, append_assoc, map-append}
use mathlib.Core.List.Memᴰ.{head as here}
use mathlib.Core.List.Memᴰ.{tail as there}
use mathlib.Core.List.{Memᴰ as Mem}
use Rattle.text.specs.Ascii.{Bytes, byte}
use Rattle.text.specs.Compare.{same}
use Rattle.text.specs.Scan.{any}
use Rattle.text.specs.Sames.{differ, same_front, same_refl}
use Rattle.joblines.specs.Job.{Inst, Module}
use Rattle.design.specs.Lists.{on_some, those, is_in, add_new, add_all}
use Rattle.design.specs.Lookup.{module_at}
use Rattle.design.specs.Ports.{losable}
use Rattle.design.specs.Paths.{child_path, scope_path, dotted, element_path, filled_parts}
use Rattle.design.specs.Losables.{named_mem, module_at_mem}
use Rattle.walk.specs.Limits.{most_depth}
use Rattle.walk.specs.Walk.{entered, own, corruptible, sum_over, modules_entered, retained_paths, element_list, domain_list, element_entered, domain_entered, path_bytes}
use Rattle.walk.proofs.Listed.{entered_inv}
use Rattle.walk.specs.Relative.{filled_entries, Filled}

-- ---- the scope's path, c and s

module _ (c : ℕ) (s : Bytes) where
  abbrev S : Bytes
  S = c ∷ s

  -- a module's path, from its path below the scope
  abbrev full : Bytes → Bytes
  full [] = c ∷ s
  full (b ∷ p) = child_path (c ∷ s) (b ∷ p)

  child_full : (p n : Bytes) → child_path (full p) n ≡ child_path S (child_path p n)
  child_full [] n = refl
  child_full (b ∷ p) n = append_assoc S (byte "." ∷ b ∷ p) (byte "." ∷ n)

  full_child : (p n : Bytes) → 0 < length n → child_path (full p) n ≡ full (child_path p n)
  full_child [] [] h = absurd (omega arith)
  full_child [] (x ∷ n) h = refl
  full_child (b ∷ p) n h = append_assoc S (byte "." ∷ b ∷ p) (byte "." ∷ n)

  -- ---- tests

  same_below : (p q : Bytes) → same (child_path S p) (child_path S q) ≡ same p q
  unfolding same
  same_below p q = same_front S S (byte "." ∷ p) (byte "." ∷ q) (same_refl S)

  scope_not : (q : Bytes) → same S (child_path S q) ≡ false
  scope_not q = sym (differ S (child_path S q) (λ z. omega (arith, z, length-append s (byte "." ∷ q))))

  empty_not : (p : Bytes) → same (full p) (child_path S []) ≡ false
  unfolding same
  empty_not [] = scope_not []
  empty_not (b ∷ p) = same_below (b ∷ p) []

  entry_below : (p : Bytes) (x : ℕ) (e : Bytes) → same (full p) (child_path S (x ∷ e)) ≡ same p (x ∷ e)
  unfolding same
  entry_below [] x e = scope_not (x ∷ e)
  entry_below (b ∷ p) x e = same_below (b ∷ p) (x ∷ e)

  retained_below : (p : Bytes) (es : List Bytes) → is_in (full p) (map (λ e. child_path S (dotted e)) es) ≡ is_in p (map dotted (filled_entries es))
  unfolding any those same
  retained_below p [] = refl
  retained_below p ([] ∷ es) = rw (empty_not p) (retained_below p es)
  retained_below p ((x ∷ e) ∷ es) = ap₂ ◌||◌ (entry_below p _ (dotted e)) (retained_below p es)

  listed_below : (p : Bytes) (l : List Bytes) → is_in (child_path S p) (map (child_path S) l) ≡ is_in p l
  unfolding any
  listed_below p [] = refl
  listed_below p (q ∷ l) = ap₂ ◌||◌ (same_below p q) (listed_below p l)

  new_below : (l : List Bytes) (p : Bytes) → add_new (map (child_path S) l) (child_path S p) ≡ map (child_path S) (add_new l p)
  unfolding add_new
  new_below l p = rw (listed_below p l) (go (is_in p l))
    where
      go : (b : Bool) → cond b (map (child_path S) l) (map (child_path S) l ++ (child_path S p ∷ [])) ≡ map (child_path S) (cond b l (l ++ (p ∷ [])))
      go true = refl
      go false = sym (map-append (child_path S) l (p ∷ []))

  all_below : (l ps : List Bytes) → add_all (map (child_path S) l) (map (child_path S) ps) ≡ map (child_path S) (add_all l ps)
  unfolding add_all
  all_below l [] = refl
  all_below l (p ∷ ps) = ap (λ (x : List Bytes). add_all x (map (child_path S) ps)) (new_below l p) ∙ all_below (add_new l p) ps

  own_below : (m : Module) (p : Bytes) → own m (full p) ≡ map (child_path S) (own m p)
  own_below m p = go (losable m)
    where
      go : (l : List Bytes) → map (child_path (full p)) l ≡ map (child_path S) (map (child_path p) l)
      go [] = refl
      go (n ∷ l) = ap₂ ◌∷◌ (child_full p n) (go l)

  -- ---- the walk

  module _ (d : List Module) (es : List Bytes) (ok : Filled d) where
    abbrev far : List Bytes
    far = map (λ e. child_path S (dotted e)) es

    abbrev near : List Bytes
    near = map dotted (filled_entries es)

    -- what an instance adds, below the scope and as if the scope were the top
    abbrev far_of : ℕ → Bytes → Inst → List Bytes
    far_of left p i = on_some (entered d i) [] λ m'. corruptible d far left m' (child_path (full p) i.name)

    abbrev near_of : ℕ → Bytes → Inst → List Bytes
    near_of left p i = on_some (entered d i) [] λ m'. corruptible d near left m' (child_path p i.name)

    abbrev far_in : ℕ → Bytes → Inst → ℕ
    far_in left p i = on_some (entered d i) 0 λ m'. modules_entered d far left m' (child_path (full p) i.name)

    abbrev near_in : ℕ → Bytes → Inst → ℕ
    near_in left p i = on_some (entered d i) 0 λ m'. modules_entered d near left m' (child_path p i.name)

    enters : (i : Inst) {m : Module} → entered d i ≡ Some m → Mem m d
    enters i e = named_mem d i.type (entered_inv d i e).1

    module _ (left : ℕ) (p : Bytes) (m : Module) (at : Mem m d) where
      module _ (ih : (m' : Module) (q : Bytes) → Mem m' d → corruptible d far left m' (full q) ≡ map (child_path S) (corruptible d near left m' q)) where
        one_list : (i : Inst) → Mem i m.insts → (o : Option Module) → entered d i ≡ o → on_some o [] (λ m'. corruptible d far left m' (child_path (full p) i.name)) ≡ map (child_path S) (on_some o [] λ m'. corruptible d near left m' (child_path p i.name))
        one_list i has None e = refl
        one_list i has (Some m') e = ap (corruptible d far left m') (full_child p i.name (ok m at i has)) ∙ ih m' (child_path p i.name) (enters i e)

        each_list : (l : List Inst) → ((i : Inst) → Mem i l → Mem i m.insts) → flat_map (far_of left p) l ≡ map (child_path S) (flat_map (near_of left p) l)
        unfolding flat_map
        each_list [] sub = refl
        each_list (i ∷ l) sub = ap₂ ◌++◌ (one_list i (sub i (here refl)) (entered d i) refl) (each_list l (λ j has. sub j (there has))) ∙ sym (map-append (child_path S) (near_of left p i) (flat_map (near_of left p) l))

        all_list : (b : Bool) → cond b [] (own m (full p) ++ flat_map (far_of left p) m.insts) ≡ map (child_path S) (cond b [] (own m p ++ flat_map (near_of left p) m.insts))
        all_list true = refl
        all_list false = ap₂ ◌++◌ (own_below m p) (each_list m.insts (λ i has. has)) ∙ sym (map-append (child_path S) (own m p) (flat_map (near_of left p) m.insts))

      module _ (ih : (m' : Module) (q : Bytes) → Mem m' d → modules_entered d far left m' (full q) ≡ modules_entered d near left m' q) where
        one_in : (i : Inst) → Mem i m.insts → (o : Option Module) → entered d i ≡ o → on_some o 0 (λ m'. modules_entered d far left m' (child_path (full p) i.name)) ≡ on_some o 0 λ m'. modules_entered d near left m' (child_path p i.name)
        one_in i has None e = refl
        one_in i has (Some m') e = ap (modules_entered d far left m') (full_child p i.name (ok m at i has)) ∙ ih m' (child_path p i.name) (enters i e)

        each_in : (l : List Inst) → ((i : Inst) → Mem i l → Mem i m.insts) → sum_over (far_in left p) l ≡ sum_over (near_in left p) l
        unfolding sum_over
        each_in [] sub = refl
        each_in (i ∷ l) sub = ap₂ ◌+◌ (one_in i (sub i (here refl)) (entered d i) refl) (each_in l (λ j has. sub j (there has)))

    walk_below : (left : ℕ) (m : Module) (p : Bytes) → Mem m d → corruptible d far left m (full p) ≡ map (child_path S) (corruptible d near left m p)
    unfolding corruptible
    walk_below zero m p at = rw (retained_below p es) (go (is_in p near))
      where
        go : (b : Bool) → cond b [] (own m (full p)) ≡ map (child_path S) (cond b [] (own m p))
        go true = refl
        go false = own_below m p
    walk_below (suc left) m p at = rw (retained_below p es) (all_list left p m at (λ m' q has. walk_below left m' q has) (is_in p near))

    entered_below_lem : (left : ℕ) (m : Module) (p : Bytes) → Mem m d → modules_entered d far left m (full p) ≡ modules_entered d near left m p
    unfolding modules_entered
    entered_below_lem zero m p at = rw (retained_below p es)
    entered_below_lem (suc left) m p at =
        rw (retained_below p es)
        (ap (λ n. cond (is_in p near) 0 (1 + n)) (each_in left p m at (λ m' q has. entered_below_lem left m' q has) m.insts (λ i has. has)))

-- ---- a domain

-- the element's path below the scope, and as if the scope were the top
element_full : (c : ℕ) (s : Bytes) (scope : List Bytes) → scope_path scope ≡ c ∷ s → (e : Bytes) → element_path scope e ≡ full c s (element_path [] e)
element_full c s scope h [] = h
element_full c s scope h (b ∷ e) = rw h

retained_far : (c : ℕ) (s : Bytes) (scope : List Bytes) → scope_path scope ≡ c ∷ s → (es : List Bytes) → retained_paths scope es ≡ map (λ e. child_path (c ∷ s) (dotted e)) es
retained_far c s scope h [] = refl
retained_far c s scope h (e ∷ es) = ap₂ ◌∷◌ (rw h) (retained_far c s scope h es)

flat_map_lem : {A B C : Type 0} (f : B → C) (g : A → List C) (k : A → List B) (l : List A) → ((a : A) → g a ≡ map f (k a)) → flat_map g l ≡ map f (flat_map k l)
unfolding flat_map
flat_map_lem f g k [] h = refl
flat_map_lem f g k (a ∷ l) h = ap₂ ◌++◌ (h a) (flat_map_lem f g k l h) ∙ sym (map-append f (k a) (flat_map k l))

sum_same : {A : Type 0} (f g : A → ℕ) (l : List A) → ((a : A) → f a ≡ g a) → sum_over f l ≡ sum_over g l
unfolding sum_over
sum_same f g [] h = refl
sum_same f g (a ∷ l) h = ap₂ ◌+◌ (h a) (sum_same f g l h)

module _ (d : List Module) (base : Module) (scope entries : List Bytes) (ok : Filled d) (at : Mem base d) (c : ℕ) (s : Bytes) (h : scope_path scope ≡ c ∷ s) where
  element_list_lem : (e : Bytes) → element_list d base scope entries e ≡ map (child_path (c ∷ s)) (element_list d base [] (filled_entries entries) e)
  unfolding element_list
  element_list_lem e = rw (element_full c s scope h e, retained_far c s scope h entries) (go (module_at d base (filled_parts e)) refl)
    where
      go : (o : Option Module) → module_at d base (filled_parts e) ≡ o → on_some o [] (λ m. corruptible d (map (λ x. child_path (c ∷ s) (dotted x)) entries) most_depth m (full c s (element_path [] e))) ≡ map (child_path (c ∷ s)) (on_some o [] λ m. corruptible d (map dotted (filled_entries entries)) most_depth m (element_path [] e))
      go None f = refl
      go (Some m) f = walk_below c s d entries ok most_depth m (element_path [] e) (module_at_mem d base (filled_parts e) at f)

  element_entered_lem : (e : Bytes) → element_entered d base scope entries e ≡ element_entered d base [] (filled_entries entries) e
  unfolding element_entered
  element_entered_lem e = rw (element_full c s scope h e, retained_far c s scope h entries) (go (module_at d base (filled_parts e)) refl)
    where
      go : (o : Option Module) → module_at d base (filled_parts e) ≡ o → on_some o 0 (λ m. modules_entered d (map (λ x. child_path (c ∷ s) (dotted x)) entries) most_depth m (full c s (element_path [] e))) ≡ on_some o 0 λ m. modules_entered d (map dotted (filled_entries entries)) most_depth m (element_path [] e)
      go None f = refl
      go (Some m) f = entered_below_lem c s d entries ok most_depth m (element_path [] e) (module_at_mem d base (filled_parts e) at f)

  list_below_lem : (es : List Bytes) → domain_list d base scope entries es ≡ map (child_path (c ∷ s)) (domain_list d base [] (filled_entries entries) es)
  unfolding domain_list
  list_below_lem es =
      ap (add_all []) (flat_map_lem (child_path (c ∷ s)) (element_list d base scope entries) (element_list d base [] (filled_entries entries)) es element_list_lem)
      ∙ all_below c s [] (flat_map (element_list d base [] (filled_entries entries)) es)

  domain_below : (es : List Bytes) → domain_entered d base scope entries es ≡ domain_entered d base [] (filled_entries entries) es
  unfolding domain_entered
  domain_below es = sum_same (element_entered d base scope entries) (element_entered d base [] (filled_entries entries)) es element_entered_lem

-- what the scope's path adds to the bytes of paths
bytes_below : (c : ℕ) (s : Bytes) (qs : List Bytes) → path_bytes (map (child_path (c ∷ s)) qs) ≡ sum_over (λ (q : Bytes). (length (c ∷ s) + 1) + length q) qs
unfolding path_bytes sum_over
bytes_below c s [] = refl
bytes_below c s (q ∷ qs) = ap₂ ◌+◌ (omega (arith, length-append s (byte "." ∷ q))) (bytes_below c s qs)

module _ (d : List Module) (base : Module) (scope entries es : List Bytes) (ok : Filled d) (at : Mem base d) (long : 0 < length (scope_path scope)) where
  -- the list below a scope, by the list as if the scope were the top
  pub relative_list : domain_list d base scope entries es ≡ map (child_path (scope_path scope)) (domain_list d base [] (filled_entries entries) es)
  relative_list = go (scope_path scope) refl long
    where
      go : (p : Bytes) → scope_path scope ≡ p → 0 < length p → domain_list d base scope entries es ≡ map (child_path (scope_path scope)) (domain_list d base [] (filled_entries entries) es)
      go [] h l = absurd (omega arith)
      go (c ∷ s) h l = rw h (list_below_lem d base scope entries ok at c s h es)

  pub relative_entered : domain_entered d base scope entries es ≡ domain_entered d base [] (filled_entries entries) es
  relative_entered = go (scope_path scope) refl long
    where
      go : (p : Bytes) → scope_path scope ≡ p → 0 < length p → domain_entered d base scope entries es ≡ domain_entered d base [] (filled_entries entries) es
      go [] h l = absurd (omega arith)
      go (c ∷ s) h l = domain_below d base scope entries ok at c s h es

  -- "32,768 bytes together": each path has the scope's path and a dot before it
  pub relative_bytes : path_bytes (domain_list d base scope entries es) ≡ sum_over (λ (q : Bytes). (length (scope_path scope) + 1) + length q) (domain_list d base [] (filled_entries entries) es)
  relative_bytes = go (scope_path scope) refl long
    where
      go : (p : Bytes) → scope_path scope ≡ p → 0 < length p → path_bytes (domain_list d base scope entries es) ≡ sum_over (λ (q : Bytes). (length (scope_path scope) + 1) + length q) (domain_list d base [] (filled_entries entries) es)
      go [] h l = absurd (omega arith)
      go (c ∷ s) h l = ap path_bytes relative_list ∙ rw h (bytes_below c s (domain_list d base [] (filled_entries entries) es))
