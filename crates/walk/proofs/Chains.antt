-- Laws: the paths of the modules on the way. Where names have no dot, they are those parts of the reached path, as long as the first path or
-- longer, that a dot follows; so of two chains to one path the one that begins at the longer path meets only what the other meets.
-- Assumes nothing.
use Rattle.std.specs.Prelude.{ℕ, ◌+◌, ◌≤◌, ◌<◌, ◌≡◌, refl, ◌⊎◌, List, [], ◌∷◌, ◌++◌, length}
use Rattle.std.proofs.Common.{sym, ap, ap₂, subst, ◌∙◌, inl, inr, ⊎_elim, append_assoc, arith, le_trans, length-append}
use Rattle.std.proofs.Math.Logic.{⊎_map}
use mathlib.Core.List.Memᴰ.{cases_cons}
use mathlib.Core.List.Memᴰ.{head as here}
use mathlib.Core.List.Memᴰ.{not-nil}
use mathlib.Core.List.Memᴰ.{tail as there}
use mathlib.Core.List.{Memᴰ as Mem}
use mathlib.Core.List.Memᴰ.{append_right as on-right}
use mathlib.Core.List.Memᴰ.{cast}
use mathlib.Core.List.Memᴰ.{eq_of_singleton as eq-single}
use Rattle.text.specs.Ascii.{Bytes, byte}
use Rattle.joblines.specs.Job.{Inst, Module}
use Rattle.design.specs.Lookup.{instances}
use Rattle.design.specs.Paths.{child_path}
use Rattle.design.specs.Laws.{le_or_lt}
use Rattle.design.specs.Losables.{named_mem}
use Rattle.walk.specs.Reach.{Leads, end_of, on_way}
use Rattle.walk.specs.Chains.{Dotless}

abbrev dot : ℕ
dot = byte "."

-- ---- dots in byte strings

cons_inj : {x y : ℕ} {s t : Bytes} → x ∷ s ≡ y ∷ t → (x ≡ y) × (s ≡ t)
cons_inj e = (cc, cc)

in_middle : (a b : Bytes) → Mem dot (a ++ dot ∷ b)
in_middle a b = on-right a (here refl)

-- two readings of one string, each with a dot: the second cut is the first, or lies behind it
two_cuts : (p w v rest : Bytes) → p ++ dot ∷ w ≡ v ++ dot ∷ rest → length p ≤ length v → (v ≡ p) ⊎ ((u : Bytes) × (w ≡ u ++ dot ∷ rest))
two_cuts [] w [] rest e le = inl refl
two_cuts [] w (x ∷ v) rest e le = inr (v, (cons_inj e).1)
two_cuts (a ∷ p) w [] rest e le = absurd (omega arith)
two_cuts (a ∷ p) w (x ∷ v) rest e le =
    ⊎_map (λ s. ap₂ ◌∷◌ (sym (cons_inj e).0) s) (λ r. r) (two_cuts p w v rest (cons_inj e).1 (omega arith))

-- a cut that lies in the first part
pub cut_before : (a u v rest : Bytes) → a ++ u ≡ v ++ dot ∷ rest → length v < length a → (w : Bytes) × (a ≡ v ++ dot ∷ w)
cut_before [] u v rest e lt = absurd (omega arith)
cut_before (x ∷ a) u [] rest e lt = (a, ap₂ ◌∷◌ (cons_inj e).0 refl)
cut_before (x ∷ a) u (y ∷ v) rest e lt =
    let r = cut_before a u v rest (cons_inj e).1 (omega arith) in
    (r.0, ap₂ ◌∷◌ (cons_inj e).0 r.1)

-- the only cut of `p.n` at or behind p is at p
last_cut : (p n v rest : Bytes) → Dotless n → child_path p n ≡ v ++ dot ∷ rest → length p ≤ length v → v ≡ p
last_cut [] n v rest out e le = absurd (out (subst (Mem dot) (sym e) (in_middle v rest)))
last_cut (x ∷ p) n v rest out e le =
    ⊎_elim (λ s. s) (λ r. absurd (out (subst (Mem dot) (sym r.1) (in_middle r.0 rest)))) (two_cuts (x ∷ p) n v rest e le)

pub child_longer : (p n : Bytes) → length p ≤ length (child_path p n)
child_longer [] n = omega arith
child_longer (x ∷ p) n = omega (arith, length-append p (dot ∷ n))

-- a path below p begins with p
pub begins : (p : Bytes) (chain : List Inst) (n : Bytes) → (u : Bytes) × (child_path (end_of p chain) n ≡ p ++ u)
begins [] [] n = (n, refl)
begins (x ∷ p) [] n = (dot ∷ n, refl)
begins [] (i ∷ is) n = (child_path (end_of i.name is) n, refl)
begins (x ∷ p) (i ∷ is) n =
    let r = begins (child_path (x ∷ p) i.name) is n in
    (dot ∷ i.name ++ r.0, r.1 ∙ append_assoc (x ∷ p) (dot ∷ i.name) r.0)

-- ---- the paths of the modules on the way

pub way_first : (p : Bytes) (chain : List Inst) → Mem p (on_way p chain)
way_first p [] = here refl
way_first p (i ∷ is) = here refl

pub way_longer : (p : Bytes) (chain : List Inst) {v : Bytes} → Mem v (on_way p chain) → length p ≤ length v
way_longer p [] m = omega (arith, ap length (eq-single m))
way_longer p (i ∷ is) m =
    ⊎_elim (λ e. omega (arith, ap length e)) (λ n. le_trans (child_longer p i.name) (way_longer (child_path p i.name) is n)) (cases_cons m)

-- a dot follows each of them in the path that is reached, but for the empty one
cut_of_way : (p : Bytes) (chain : List Inst) (n : Bytes) {v : Bytes} → Mem v (on_way p chain) → (v ≡ []) ⊎ ((rest : Bytes) × (child_path (end_of p chain) n ≡ v ++ dot ∷ rest))
cut_of_way [] [] n m = inl (eq-single m)
cut_of_way (x ∷ p) [] n m = inr (n, ap (λ (l : Bytes). l ++ dot ∷ n) (sym (eq-single m)))
cut_of_way [] (i ∷ is) n m = ⊎_elim (λ e. inl e) (λ r. cut_of_way i.name is n r) (cases_cons m)
cut_of_way (x ∷ p) (i ∷ is) n m =
    ⊎_elim (λ e.
    let r = begins (child_path (x ∷ p) i.name) is n in
    inr (i.name ++ r.0, r.1 ∙ append_assoc (x ∷ p) (dot ∷ i.name) r.0 ∙ ap (λ (l : Bytes). l ++ dot ∷ (i.name ++ r.0)) (sym e)))
    (λ r. cut_of_way (child_path (x ∷ p) i.name) is n r) (cases_cons m)

-- and each part of it that a dot follows, as long as p or longer, is one of them
pub way_of_cut : (p : Bytes) (chain : List Inst) (n v rest : Bytes) → ((i : Inst) → Mem i chain → Dotless i.name) → Dotless n → length p ≤ length v → child_path (end_of p chain) n ≡ v ++ dot ∷ rest → Mem v (on_way p chain)
way_of_cut p [] n v rest outs out le e = here (last_cut p n v rest out e le)
way_of_cut p (i ∷ is) n v rest outs out le e =
    let a = child_path p i.name in
    ⊎_elim (λ far. there (way_of_cut a is n v rest (λ j at. outs j (there at)) out far e))
    (λ near.
    let r = begins a is n in
    let s = cut_before a r.0 v rest (sym r.1 ∙ e) near in
    here (last_cut p i.name v s.0 (outs i (here refl)) s.1 le))
    (le_or_lt (length a) (length v))

-- of two chains to one path the one from the longer path meets only what the other meets
pub way_both : (p₁ p₂ : Bytes) (c₁ c₂ : List Inst) (n₁ n₂ : Bytes) → ((i : Inst) → Mem i c₁ → Dotless i.name) → Dotless n₁ → child_path (end_of p₁ c₁) n₁ ≡ child_path (end_of p₂ c₂) n₂ → length p₁ ≤ length p₂ → (v : Bytes) → Mem v (on_way p₂ c₂) → Mem v (on_way p₁ c₁)
way_both p₁ p₂ c₁ c₂ n₁ n₂ outs out one le v m =
    let far : length p₁ ≤ length v = le_trans le (way_longer p₂ c₂ m) in
    ⊎_elim (λ e. empty p₁ e far)
    (λ r. way_of_cut p₁ c₁ n₁ v r.0 outs out far (one ∙ r.1)) (cut_of_way p₂ c₂ n₂ m)
  where
    empty : (p : Bytes) → v ≡ [] → length p ≤ length v → Mem v (on_way p c₁)
    empty [] e le = cast e (way_first [] c₁)
    empty (x ∷ p) e le = absurd (omega (arith, ap length e))

-- ---- the modules that a chain goes through are of the module lines

pub leads_mem : (d : List Module) (m : Module) (chain : List Inst) (last : Module) → Mem m d → Leads d m chain last → Mem last d
leads_mem d m [] last at l = cast (sym l) at
leads_mem d m (i ∷ is) last at l = leads_mem d l.0 is last (named_mem d i.type l.3) l.4

module _ (d : List Module) (P : Inst → Type 0) (ok : (m : Module) → Mem m d → (i : Inst) → Mem i (instances m) → P i) where
  -- what holds of all instances holds of a chain's
  pub leads_all : (m : Module) (chain : List Inst) (last : Module) → Mem m d → Leads d m chain last → (i : Inst) → Mem i chain → P i
  leads_all m [] last at l i has = absurd (not-nil has)
  leads_all m (j ∷ is) last at l i has =
      ⊎_elim (λ e. ok m at i (cast e l.1))
      (λ n. leads_all l.0 is last (named_mem d j.type l.3) l.4 i n) (cases_cons has)
