-- Laws: retained paths. More of them never add a path; a module at one ends its branch; an element below one is walked.
-- Assumes nothing.
use Prim.Native.Nat.{ℕ, zero, suc, ◌+◌, ◌≤◌, ◌<◌}
use Rattle.std.specs.Prelude.{◌≡◌, ◌⊎◌, length, Option, None, Some}
use Rattle.std.proofs.Math.Path.{refl, ap}
use Rattle.std.proofs.Common.{sym, ◌∙◌, inl, ⊎_elim, arith, length-append}
use Rattle.std.proofs.Math.Logic.{inr}
use Rattle.std.proofs.Math.Bool.{cond}
use mathlib.Core.List.{List, [], ◌∷◌, ◌++◌}
use mathlib.Core.List.{Memᴰ as Mem}
use mathlib.Core.List.Memᴰ.{cast}
use mathlib.Core.List.Memᴰ.{map as mem-map}
use Rattle.text.specs.Ascii.{Bytes, byte}
use Rattle.text.specs.Scan.{any}
use Rattle.text.specs.Sames.{differ}
use Rattle.joblines.specs.Job.{Inst, Module}
use Rattle.design.specs.Lists.{on_some, is_in, add_all}
use Rattle.design.specs.Lookup.{instances, module_at}
use Rattle.design.specs.Paths.{child_path, scope_path, dotted, element_path, retained_path, filled_parts}
use Rattle.design.specs.Laws.{le_or_lt, mem_is_in, map_mem, flat_same}
use Rattle.design.specs.Losables.{named_mem, module_at_mem}
use Rattle.design.specs.AcceptedNames.{Plain}
use Rattle.walk.specs.Walk.{entered, own, corruptible, retained_paths, element_list, domain_list}
use Rattle.walk.specs.Reach.{on_way, Reaches, ElementReaches, DomainReaches, Beneath}
use Rattle.walk.specs.Chains.{Dotless}
use Rattle.walk.proofs.Chains.{child_longer, cut_before, begins, way_first, way_of_cut, leads_mem, leads_all}
use Rattle.walk.proofs.Listed.{entered_inv}

-- ---- more retained entries

fewer_at : {d : List Module} {R S : List Bytes} {k : ℕ} {m : Module} {p q : Bytes} → ((v : Bytes) → Mem v R → Mem v S) → Reaches d S k m p q → Reaches d R k m p q
fewer_at sub r =
    record {
      chain = r.chain;
      short = r.short;
      last = r.last;
      leads = r.leads;
      clear = λ v way ret. r.clear v way (sub v ret);
      name = r.name;
      loses = r.loses;
      written = r.written;
    }

-- the retained paths of fewer entries
pub paths_of_lem : (scope E F : List Bytes) → ((e : Bytes) → Mem e E → Mem e F) → (v : Bytes) → Mem v (retained_paths scope E) → Mem v (retained_paths scope F)
paths_of_lem scope E F sub v m =
    let r = map_mem (retained_path scope) E m in
    cast r.2 (mem-map (retained_path scope) (sub r.0 r.1))

pub fewer : {d : List Module} {base : Module} {scope E F es : List Bytes} {q : Bytes} → ((e : Bytes) → Mem e E → Mem e F) → DomainReaches d base scope F es q → DomainReaches d base scope E es q
fewer {d} {base} {scope} {E} {F} sub r =
    record {
      element = r.element;
      has = r.has;
      reached = record {
        start = r.reached.start;
        found = r.reached.found;
        reaches = fewer_at (paths_of_lem scope E F sub) r.reached.reaches;
      };
    }

-- ---- a module at a retained path

-- nothing is listed for it, nor for what is beneath it
pub ends_here : (d : List Module) (R : List Bytes) (left : ℕ) (m : Module) (p : Bytes) → Mem p R → corruptible d R left m p ≡ []
unfolding corruptible
ends_here d R zero m p h = rw (mem_is_in h)
ends_here d R (suc left) m p h = rw (mem_is_in h)

pub element_ends : (d : List Module) (base : Module) (scope entries : List Bytes) (e : Bytes) → Mem (element_path scope e) (retained_paths scope entries) → element_list d base scope entries e ≡ []
unfolding element_list
element_ends d base scope entries e h = go (module_at d base (filled_parts e))
  where
    go : (o : Option Module) → on_some o [] (λ m. corruptible d (retained_paths scope entries) 32 m (element_path scope e)) ≡ []
    go None = refl
    go (Some m) = ends_here d (retained_paths scope entries) 32 m (element_path scope e) h

-- an element that reaches a path beneath a retained one lies beneath it too
pub from_beneath : (d : List Module) (base : Module) (scope entries : List Bytes) (e q v : Bytes) → Plain d → Mem base d → ElementReaches d base scope entries e q → Mem v (retained_paths scope entries) → Beneath v q → Beneath v (element_path scope e)
from_beneath d base scope entries e q v ok at r ret below =
    ⊎_elim (λ le. absurd (r.reaches.clear v (met le below) ret)) (λ lt. deeper lt below) (le_or_lt (length p) (length v))
  where
    p : Bytes
    p = element_path scope e

    chain : List Inst
    chain = r.reaches.chain

    start_at_lem : Mem r.start d
    start_at_lem = module_at_mem d base (filled_parts e) at r.found

    top : v ≡ [] → (u : Bytes) → length u ≤ length v → Mem v (on_way u chain)
    top z [] h = cast z (way_first [] chain)
    top z (x ∷ u) h = absurd (omega (arith, ap length z))

    met : length p ≤ length v → Beneath v q → Mem v (on_way p chain)
    met le (inl z) = top z.0 p le
    met le (inr c) =
        way_of_cut p chain r.reaches.name v c.0
        (leads_all d (λ i. Dotless i.name) ok.inst_dotless r.start chain r.reaches.last start_at_lem r.reaches.leads)
        (ok.name_dotless r.reaches.last (leads_mem d r.start chain r.reaches.last start_at_lem r.reaches.leads) r.reaches.name r.reaches.loses)
        le (sym r.reaches.written ∙ c.1)

    deeper : length v < length p → Beneath v q → Beneath v p
    deeper lt (inl z) = inl (z.0, omega arith)
    deeper lt (inr c) =
        let b = begins p chain r.reaches.name in
        inr (cut_before p b.0 v c.0 (sym b.1 ∙ sym r.reaches.written ∙ c.1) lt)

-- ---- retained paths that no module on the way has

-- two lists of retained paths that agree wherever the walk comes to
module _ (d : List Module) (R S : List Bytes) (Q : Module → Bytes → Type 0) (agree : (m : Module) (p : Bytes) → Q m p → is_in p R ≡ is_in p S) (down : (m : Module) (p : Bytes) (i : Inst) (m' : Module) → Q m p → Mem i (instances m) → entered d i ≡ Some m' → Q m' (child_path p i.name)) where
  pub walks_agree : (left : ℕ) (m : Module) (p : Bytes) → Q m p → corruptible d R left m p ≡ corruptible d S left m p
  unfolding corruptible
  walks_agree zero m p h = rw (agree m p h)
  walks_agree (suc left) m p h =
      rw (agree m p h)
      (ap (λ (l : List Bytes). cond (is_in p S) [] (own m p ++ l))
      (flat_same
      (λ (i : Inst). on_some (entered d i) [] λ m'. corruptible d R left m' (child_path p i.name))
      (λ (i : Inst). on_some (entered d i) [] λ m'. corruptible d S left m' (child_path p i.name))
      (instances m)
      (λ i at. below i (entered d i) (λ m' e. walks_agree left m' (child_path p i.name) (down m p i m' h at e)) refl)))
    where
      below : (i : Inst) (o : Option Module) → ((m' : Module) → entered d i ≡ Some m' → corruptible d R left m' (child_path p i.name) ≡ corruptible d S left m' (child_path p i.name)) → entered d i ≡ o → on_some o [] (λ m'. corruptible d R left m' (child_path p i.name)) ≡ on_some o [] (λ m'. corruptible d S left m' (child_path p i.name))
      below i None g e = refl
      below i (Some m') g e = g m' e

-- an entry that is not the path, wherever it stands
other_entry : (scope E F : List Bytes) (r p : Bytes) → (length p ≡ length (retained_path scope r) → ⊥) → is_in p (retained_paths scope (E ++ r ∷ F)) ≡ is_in p (retained_paths scope (E ++ F))
unfolding any
other_entry scope [] F r p ne = rw (← differ p (retained_path scope r) ne)
other_entry scope (x ∷ E) F r p ne = rw (other_entry scope E F r p ne)

-- ---- an element below a retained one

child_length : (p n k : Bytes) → length n < length k → length (child_path p n) < length (child_path p k)
child_length [] n k h = h
child_length (x ∷ p) n k h = omega (arith, length-append p (byte "." ∷ n), length-append p (byte "." ∷ k))

pub length_dotted : (e : Bytes) → length (dotted e) ≡ length e
length_dotted [] = refl
length_dotted (x ∷ e) = ap suc (length_dotted e)

below_longer : (scope : List Bytes) (r rest : Bytes) → length (retained_path scope r) < length (element_path scope (r ++ byte "/" ∷ rest))
below_longer scope [] rest = child_length (scope_path scope) [] (dotted (byte "/" ∷ rest)) (omega (arith, length_dotted rest))
below_longer scope (x ∷ r) rest =
    child_length (scope_path scope) (dotted (x ∷ r)) (dotted ((x ∷ r) ++ byte "/" ∷ rest))
    (omega (arith, length_dotted (x ∷ r), length_dotted ((x ∷ r) ++ byte "/" ∷ rest), length-append (x ∷ r) (byte "/" ∷ rest)))

pub below_walked : (d : List Module) (base : Module) (scope E F : List Bytes) (r rest : Bytes) → element_list d base scope (E ++ r ∷ F) (r ++ byte "/" ∷ rest) ≡ element_list d base scope (E ++ F) (r ++ byte "/" ∷ rest)
unfolding element_list
below_walked d base scope E F r rest = go (module_at d base (filled_parts e))
  where
    e : Bytes
    e = r ++ byte "/" ∷ rest

    Q : Module → Bytes → Type 0
    Q m p = length (retained_path scope r) < length p

    go : (o : Option Module) → on_some o [] (λ m. corruptible d (retained_paths scope (E ++ r ∷ F)) 32 m (element_path scope e)) ≡ on_some o [] (λ m. corruptible d (retained_paths scope (E ++ F)) 32 m (element_path scope e))
    go None = refl
    go (Some m) =
        walks_agree d (retained_paths scope (E ++ r ∷ F)) (retained_paths scope (E ++ F)) Q
        (λ m p h. other_entry scope E F r p (λ z. omega arith))
        (λ m p i m' h at is. omega (arith, child_longer p i.name))
        32 m (element_path scope e) (below_longer scope r rest)

-- ---- the empty entry under a scope

child_two : (p n : Bytes) → 0 < length p → 0 < length n → length p + 2 ≤ length (child_path p n)
child_two [] n hp hn = absurd (omega arith)
child_two (x ∷ p) n hp hn = omega (arith, length-append p (byte "." ∷ n))

child_one : (p : Bytes) → 0 < length p → length (child_path p []) ≡ length p + 1
child_one [] h = absurd (omega arith)
child_one (x ∷ p) h = omega (arith, length-append p (byte "." ∷ []))

element_lengths : (scope : List Bytes) (e : Bytes) → 0 < length (scope_path scope) → (length (element_path scope e) ≡ length (scope_path scope)) ⊎ (length (scope_path scope) + 2 ≤ length (element_path scope e))
element_lengths scope [] h = inl refl
element_lengths scope (c ∷ e) h = inr (child_two (scope_path scope) (dotted (c ∷ e)) h (omega (arith, length_dotted (c ∷ e))))

module _ (d : List Module) (base : Module) (scope : List Bytes) (ok : Plain d) (at : Mem base d) (long : 0 < length (scope_path scope)) where
  -- the paths that the walk comes to are as long as the scope's, or longer by a dot and a byte
  Q : Module → Bytes → Type 0
  Q m p = Mem m d × ((length p ≡ length (scope_path scope)) ⊎ (length (scope_path scope) + 2 ≤ length p))

  further : (m : Module) (p : Bytes) (i : Inst) (m' : Module) → Q m p → Mem i (instances m) → entered d i ≡ Some m' → Q m' (child_path p i.name)
  unfolding Q
  further m p i m' h has is =
      let filled = ok.inst_filled m h.0 i has in (
        named_mem d i.type (entered_inv d i is).1,
        inr (⊎_elim (λ e. omega (arith, e, child_two p i.name (omega (arith, e)) filled)) (λ l. omega (arith, l, child_two p i.name (omega (arith, l)) filled)) h.1),
      )

  not_empty_entry : (p : Bytes) → (length p ≡ length (scope_path scope)) ⊎ (length (scope_path scope) + 2 ≤ length p) → length p ≡ length (retained_path scope []) → ⊥
  not_empty_entry p h e = ⊎_elim (λ x. omega (arith, child_one (scope_path scope) long, x, e)) (λ x. omega (arith, child_one (scope_path scope) long, x, e)) h

  -- it changes nothing, wherever it stands
  pub empty_element : (E F : List Bytes) (e : Bytes) → element_list d base scope (E ++ [] ∷ F) e ≡ element_list d base scope (E ++ F) e
  unfolding element_list Q
  empty_element E F e = go (module_at d base (filled_parts e)) refl
    where
      go : (o : Option Module) → module_at d base (filled_parts e) ≡ o → on_some o [] (λ m. corruptible d (retained_paths scope (E ++ [] ∷ F)) 32 m (element_path scope e)) ≡ on_some o [] (λ m. corruptible d (retained_paths scope (E ++ F)) 32 m (element_path scope e))
      go None f = refl
      go (Some m) f =
          walks_agree d (retained_paths scope (E ++ [] ∷ F)) (retained_paths scope (E ++ F)) Q
          (λ m p h. other_entry scope E F [] p (not_empty_entry p h.1))
          further 32 m (element_path scope e) (module_at_mem d base (filled_parts e) at f, element_lengths scope e long)

  pub empty_domain : (E F es : List Bytes) → domain_list d base scope (E ++ [] ∷ F) es ≡ domain_list d base scope (E ++ F) es
  unfolding domain_list
  empty_domain E F es =
      ap (add_all []) (flat_same (element_list d base scope (E ++ [] ∷ F)) (element_list d base scope (E ++ F)) es (λ e has. empty_element E F e))
