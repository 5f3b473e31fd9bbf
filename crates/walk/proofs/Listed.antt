-- Laws: what the walk lists is what is reached, and each path one time.
-- Assumes nothing.
use Prim.Native.Nat.{ℕ, zero, suc, ◌+◌, ◌≤◌}
use Rattle.std.specs.Prelude.{◌≡◌, refl, ◌⊎◌, Bool, true, false, cond, length, None, Some}
use Rattle.std.proofs.Common.{sym, ap, ◌∙◌, inl, inr, arith}
use Rattle.std.proofs.Math.Logic.{⊎_elim}
use mathlib.Core.List.{List, [], ◌∷◌, ◌++◌, flat_map}
use mathlib.Core.List.Memᴰ.{cases_cons}
use mathlib.Core.List.Memᴰ.{head as here}
use mathlib.Core.List.Memᴰ.{not-nil}
use mathlib.Core.List.Memᴰ.{tail as there}
use mathlib.Core.List.{Memᴰ as Mem}
use mathlib.Core.List.Memᴰ.{append_cases}
use mathlib.Core.List.Memᴰ.{append_left as on-left}
use mathlib.Core.List.Memᴰ.{append_right as on-right}
use mathlib.Core.List.Memᴰ.{cast}
use mathlib.Core.List.Memᴰ.{eq_of_singleton as eq-single}
use mathlib.Core.List.Memᴰ.{map as mem-map}
use Rattle.text.specs.Ascii.{Bytes}
use Rattle.text.specs.Compare.{same}
use Rattle.text.specs.Sames.{same_eq}
use Rattle.joblines.specs.Job.{Inst, Module}
use Rattle.design.specs.Lists.{on_some, is_in, add_new, add_all}
use Rattle.design.specs.Lookup.{instances, module_named, module_at}
use Rattle.design.specs.Ports.{losable}
use Rattle.design.specs.Paths.{child_path, element_path, filled_parts}
use Rattle.design.specs.Laws.{not_both, is_same_lem, is_in_out, out_is_in, mem_cond, cond_mem, map_mem, flat_mem, mem_flat, some_mem, mem_some, add_all_new, add_all_inv}
use Rattle.walk.specs.Walk.{entered, own, corruptible, retained_paths, element_list, domain_list}
use Rattle.walk.specs.Reach.{Leads, end_of, on_way, Reaches, ElementReaches, DomainReaches, Distinct, NumberOf}

-- ---- the walk and the chains

-- the test on an instance: D 0, and its module listed
pub entered_inv : (d : List Module) (i : Inst) {m : Module} → entered d i ≡ Some m → (i.dims ≡ false) × (module_named d i.type ≡ Some m)
unfolding entered
entered_inv d i {m} = go i.dims refl
  where
    go : (b : Bool) → i.dims ≡ b → cond b None (module_named d i.type) ≡ Some m → (i.dims ≡ false) × (module_named d i.type ≡ Some m)
    go true t e = let z : ◌≡◌ {A = ℕ} 0 1 = cc in absurd (omega arith)
    go false t e = (t, e)

pub entered_is : (d : List Module) (i : Inst) {m : Module} → i.dims ≡ false → module_named d i.type ≡ Some m → entered d i ≡ Some m
unfolding entered
entered_is d i h e = rw h e

module _ (d : List Module) (R : List Bytes) where
  -- a module's own losable names
  at_own : (left : ℕ) (m : Module) (p : Bytes) {q : Bytes} → is_in p R ≡ false → Mem q (own m p) → Reaches d R left m p q
  at_own left m p {q} out h =
      let r = map_mem (child_path p) (losable m) h in
      record {
        chain = [];
        short = omega arith;
        last = m;
        leads = refl;
        clear = λ v at ret. is_in_out p R out (cast (sym (eq-single at)) ret);
        name = r.0;
        loses = r.1;
        written = r.2;
      }

  -- one instance further up
  longer : (left : ℕ) (m m' : Module) (p : Bytes) (i : Inst) {q : Bytes} → is_in p R ≡ false → Mem i (instances m) → entered d i ≡ Some m' → Reaches d R left m' (child_path p i.name) q → Reaches d R (suc left) m p q
  longer left m m' p i {q} out at e r =
      record {
        chain = i ∷ r.chain;
        short = omega (arith, r.short);
        last = r.last;
        leads = (m', at, (entered_inv d i e).0, (entered_inv d i e).1, r.leads);
        clear = λ v way ret. ⊎_elim (λ s. is_in_out p R out (cast (sym s) ret)) (λ n. r.clear v n ret) (cases_cons way);
        name = r.name;
        loses = r.loses;
        written = r.written;
      }

  -- what the walk finds below one instance
  abbrev below : ℕ → Bytes → Inst → List Bytes
  below left p i = on_some (entered d i) [] (λ m'. corruptible d R left m' (child_path p i.name))

  pub walked_reached : (left : ℕ) (m : Module) (p : Bytes) {q : Bytes} → Mem q (corruptible d R left m p) → Reaches d R left m p q
  unfolding corruptible
  walked_reached zero m p h = let c = mem_cond (is_in p R) (own m p) h in at_own zero m p c.0 c.1
  walked_reached (suc left) m p {q} h =
      let c = mem_cond (is_in p R) (own m p ++ flat_map (below left p) (instances m)) h in
      ⊎_elim (λ a. at_own (suc left) m p c.0 a)
      (λ b.
      let f = flat_mem (below left p) (instances m) b in
      let s = some_mem (entered d f.0) (λ m'. corruptible d R left m' (child_path p f.0.name)) f.2 in
      longer left m s.0 p f.0 c.0 f.1 s.1 (walked_reached left s.0 (child_path p f.0.name) s.2))
      (append_cases (own m p) c.1)

  chain_walked : (left : ℕ) (m : Module) (p : Bytes) (chain : List Inst) (last : Module) (n q : Bytes) → length chain ≤ left → Leads d m chain last → ((v : Bytes) → Mem v (on_way p chain) → Mem v R → ⊥) → Mem n (losable last) → q ≡ child_path (end_of p chain) n → Mem q (corruptible d R left m p)
  unfolding corruptible
  chain_walked zero m p [] last n q short leads clear loses written =
      cond_mem (out_is_in p R (clear p (here refl))) (cast written (mem-map (child_path p) (rw (← leads) at loses)))
  chain_walked zero m p (i ∷ is) last n q short leads clear loses written = absurd (omega arith)
  chain_walked (suc left) m p [] last n q short leads clear loses written =
      cond_mem (out_is_in p R (clear p (here refl)))
      (on-left (flat_map (below left p) (instances m)) (cast written (mem-map (child_path p) (rw (← leads) at loses))))
  chain_walked (suc left) m p (i ∷ is) last n q short leads clear loses written =
      cond_mem (out_is_in p R (clear p (here refl)))
      (on-right (own m p)
      (mem_flat (below left p) leads.1
      (mem_some (λ m'. corruptible d R left m' (child_path p i.name)) (entered_is d i leads.2 leads.3)
      (chain_walked left leads.0 (child_path p i.name) is last n q (omega arith) leads.4 (λ v way. clear v (there way)) loses written))))

  pub reached_walked : {left : ℕ} {m : Module} {p q : Bytes} → Reaches d R left m p q → Mem q (corruptible d R left m p)
  reached_walked {left} {m} {p} {q} r =
      chain_walked left m p r.chain r.last r.name q r.short r.leads r.clear r.loses r.written

-- ---- elements and domains

module _ (d : List Module) (base : Module) (scope entries : List Bytes) where
  pub element_reached : (e : Bytes) {q : Bytes} → Mem q (element_list d base scope entries e) → ElementReaches d base scope entries e q
  unfolding element_list
  element_reached e {q} h =
      let s = some_mem (module_at d base (filled_parts e)) (λ m. corruptible d (retained_paths scope entries) 32 m (element_path scope e)) h in
      record { start = s.0; found = s.1; reaches = walked_reached d (retained_paths scope entries) 32 s.0 (element_path scope e) s.2 }

  pub reached_element : (e : Bytes) {q : Bytes} → ElementReaches d base scope entries e q → Mem q (element_list d base scope entries e)
  unfolding element_list
  reached_element e r =
      mem_some (λ m. corruptible d (retained_paths scope entries) 32 m (element_path scope e)) r.found (reached_walked d (retained_paths scope entries) r.reaches)

  module _ (es : List Bytes) where
    pub listed_reached : {q : Bytes} → Mem q (domain_list d base scope entries es) → DomainReaches d base scope entries es q
    unfolding domain_list
    listed_reached {q} h =
        let w = ⊎_elim (λ n. absurd (not-nil n)) (λ n. n) (add_all_inv [] (flat_map (element_list d base scope entries) es) h) in
        let f = flat_mem (element_list d base scope entries) es w in
        record { element = f.0; has = f.1; reached = element_reached f.0 f.2 }

    pub reached_listed : {q : Bytes} → DomainReaches d base scope entries es q → Mem q (domain_list d base scope entries es)
    unfolding domain_list
    reached_listed {q} r =
        add_all_new [] (flat_map (element_list d base scope entries) es)
        (mem_flat (element_list d base scope entries) r.has (reached_element r.element r.reached))

-- ---- each path one time

distinct_snoc : (l : List Bytes) (q : Bytes) → Distinct l → (Mem q l → ⊥) → Distinct (l ++ (q ∷ []))
distinct_snoc [] q h out = (not-nil, tt)
distinct_snoc (x ∷ l) q h out = (go, distinct_snoc l q h.1 (λ m. out (there m)))
  where
    go : Mem x (l ++ (q ∷ [])) → ⊥
    go m = ⊎_elim h.0 (λ n. out (here (sym (eq-single n)))) (append_cases l m)

add_new_distinct : (l : List Bytes) (q : Bytes) → Distinct l → Distinct (add_new l q)
unfolding add_new
add_new_distinct l q h = go (is_in q l) refl
  where
    go : (b : Bool) → is_in q l ≡ b → Distinct (cond b l (l ++ (q ∷ [])))
    go true e = h
    go false e = distinct_snoc l q h (is_in_out q l e)

pub add_all_distinct : (l qs : List Bytes) → Distinct l → Distinct (add_all l qs)
unfolding add_all
add_all_distinct l [] h = h
add_all_distinct l (q ∷ qs) h = add_all_distinct (add_new l q) qs (add_new_distinct l q h)

-- ---- the number of different byte strings with a property is one number

-- k without the first q
without : Bytes → List Bytes → List Bytes
without q [] = []
without q (x ∷ k) = cond (same q x) k (x ∷ without q k)

without_length : (q : Bytes) (k : List Bytes) → Mem q k → suc (length (without q k)) ≡ length k
unfolding without
without_length q [] m = absurd (not-nil m)
without_length q (x ∷ k) m = go (same q x) refl (without_length q k)
  where
    go : (b : Bool) → same q x ≡ b → (Mem q k → suc (length (without q k)) ≡ length k) → suc (length (cond b k (x ∷ without q k))) ≡ suc (length k)
    go true e ih = refl
    go false e ih = ap suc (ih (⊎_elim (λ s. absurd (not_both (is_same_lem q x s) e)) (λ n. n) (cases_cons m)))

without_mem : (q : Bytes) (k : List Bytes) {r : Bytes} → (r ≡ q → ⊥) → Mem r k → Mem r (without q k)
unfolding without
without_mem q [] ne m = m
without_mem q (x ∷ k) {r} ne m = go (same q x) refl (without_mem q k ne) (cases_cons m)
  where
    go : (b : Bool) → same q x ≡ b → (Mem r k → Mem r (without q k)) → (r ≡ x) ⊎ Mem r k → Mem r (cond b k (x ∷ without q k))
    go true e ih (inl s) = absurd (ne (s ∙ sym (same_eq q x e)))
    go true e ih (inr n) = n
    go false e ih (inl s) = here s
    go false e ih (inr n) = there (ih n)

-- a list of different members that all are in k is no longer than k
no_longer : (l k : List Bytes) → Distinct l → ((q : Bytes) → Mem q l → Mem q k) → length l ≤ length k
no_longer [] k h sub = omega arith
no_longer (x ∷ l) k h sub =
    let shorter = no_longer l (without x k) h.1 (λ q m. without_mem x k (λ e. h.0 (cast (sym e) m)) (sub q (there m))) in
    omega (arith, without_length x k (sub x (here refl)))

pub number_unique : {P : Bytes → Type 0} {n k : ℕ} → NumberOf P n → NumberOf P k → n ≡ k
number_unique a b =
    let up = no_longer a.list b.list a.distinct (λ q m. b.all q (a.only q m)) in
    let down = no_longer b.list a.list b.distinct (λ q m. a.all q (b.only q m)) in
    omega (arith, a.many, b.many)
