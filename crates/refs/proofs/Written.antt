-- What is written part by part: laws as the needs ask them. Assumes nothing.
use Rattle.std.specs.Prelude.{Option, Some, None, is_some}
use Prim.Native.Nat.{ℕ, suc, ◌+◌, ◌-◌, ◌≤◌, ◌<◌}
use native.Mathlib.Omega.{arith}
use mathlib.Core.Path.{◌≡◌, refl, sym, ◌∙◌}
use mathlib.Core.Bool.{Bool, true, false, not, ◌&&◌, ◌||◌}
use mathlib.Core.List.{[], ◌∷◌, ◌++◌, append-nil}
use lib.Dec.{eqb}
use lib.ListN.{length, take, drop}
use borrow.Author.Rules.{rules}
use Rattle.text.specs.Ascii.{Bytes, byte}
use Rattle.text.specs.Lists.{take_none}
use Rattle.text.specs.Sames.{no_true}
use Rattle.out.specs.Emit.{Out, emit, emit_append}
use Rattle.out.specs.Bytewise.{flat, becomes, dotted, flat_two, flat_same}
use Rattle.out.specs.declared.bytewise.Mode.{Mode}
use Rattle.names.specs.Name.{name_of, slash, step_of as name_step}
use Rattle.names.specs.declared.name.Name.{Name}
use Rattle.refs.specs.Text.{front_of, text_of, as_dots}
use Rattle.refs.specs.Heads.{is_there}
use Rattle.refs.specs.declared.Ref.{Ref}
use Rattle.refs.proofs.Firsts.{front_none, front_empty, front_byte}

module _ (f : ℕ → Bytes) (job mem : Bytes) (o o₂ : Out) where
  pub put_last : (n : Name) (at len : ℕ) (q : Bytes) (o₁ : Out) → o₂ ≡ emit o₁ (flat f q) → o₁ ≡ emit o (flat f (name_of mem n)) → q ≡ take len (drop at job) → o₂ ≡ emit o (flat f (name_of mem n ++ take len (drop at job)))
  put_last n at len q o₁ h g e = rw (← e) (flat_two f o o₁ o₂ (name_of mem n) q h g)

  module _ (r : Ref) where
    pub put_sep : (o₀ o₁ : Out) → o₂ ≡ emit o₁ (flat f (name_of mem r.last ++ take r.len (drop r.at job))) → o₁ ≡ emit o₀ (f (byte "/")) → o₀ ≡ emit o (flat f (front_of r.cut r.upto (name_of mem r.name))) → r.sep ≡ true → o₂ ≡ emit o (flat f (text_of job mem r))
    unfolding text_of flat
    put_sep o₀ o₁ h g e s = rw s (flat_two f o o₀ o₂ (front_of r.cut r.upto (name_of mem r.name)) (byte "/" ∷ (name_of mem r.last ++ take r.len (drop r.at job))) (rw (emit_append, ← g) h) e)

    pub put_bare : (o₀ : Out) → o₂ ≡ emit o₀ (flat f (name_of mem r.last ++ take r.len (drop r.at job))) → o₀ ≡ emit o (flat f (front_of r.cut r.upto (name_of mem r.name))) → r.sep ≡ false → o₂ ≡ emit o (flat f (text_of job mem r))
    unfolding text_of
    put_bare o₀ h e s = rw s (flat_two f o o₀ o₂ (front_of r.cut r.upto (name_of mem r.name)) (name_of mem r.last ++ take r.len (drop r.at job)) h e)

-- ---- what stands before the slash

module _ (f : ℕ → Bytes) (n : Bytes) (c : Bool) (k : ℕ) (o o' : Out) where
  pub named_cut : o' ≡ emit o (flat f (take k n)) → c ≡ true → o' ≡ emit o (flat f (front_of c k n))
  named_cut e h = rw h e

  pub named_whole : o' ≡ emit o (flat f n) → c ≡ false → o' ≡ emit o (flat f (front_of c k n))
  named_whole e h = rw h e

-- the first bytes: those that are left to write, written from here, are the answer w
pub record Fronts (mem : Bytes) (f : ℕ → Bytes) (w o : Out) (x : Name) (k : ℕ) : Type 0 where
  pub keeps : emit o (flat f (take k (name_of mem x))) ≡ w

module _ (mem : Bytes) (f : ℕ → Bytes) (w o : Out) (x : Name) (k : ℕ) (inv : Fronts mem f w o x k) where
  pub front_all : k ≡ 0 → o ≡ w
  unfolding flat emit
  front_all z = rw z at inv.keeps

  module _ (p : Option (ℕ × Name)) (e : name_of mem x ≡ name_step mem p) where
    pub front_end : p ≡ None → o ≡ w
    unfolding flat emit
    front_end h = rw (e, h, take_none k) at inv.keeps

    pub front_step : 0 < k → (b : ℕ) (u : Name) (o' : Out) → p ≡ Some (b, u) → o' ≡ emit o (f b) → Fronts mem f w o' u (k - 1)
    unfolding flat
    front_step l b u o' h g = let z : k ≡ suc (k - 1) = omega arith in record { keeps = rw g (rw (z, e, h, emit_append) at inv.keeps) }

pub front_start : (mem : Bytes) (f : ℕ → Bytes) (o : Out) (x : Name) (k : ℕ) → Fronts mem f (emit o (flat f (take k (name_of mem x)))) o x (k - 0)
front_start mem f o x k = let z : k - 0 ≡ k = omega arith in rw z (record { keeps = refl })

pub front_next : (mem : Bytes) (f : ℕ → Bytes) (w o : Out) (x : Name) (n i : ℕ) (inv : Fronts mem f w o x (n - i)) (p : Option (ℕ × Name)) (e : name_of mem x ≡ name_step mem p) → i < n → (b : ℕ) (u : Name) (o' : Out) → p ≡ Some (b, u) → o' ≡ emit o (f b) → Fronts mem f w o' u (n - (i + 1))
front_next mem f w o x n i inv p e l b u o' h g =
    let z : n - i - 1 ≡ n - (i + 1) = omega arith in
    rw z at (front_step mem f w o x (n - i) inv p e (omega arith) b u o' h g)

pub front_done : (mem : Bytes) (f : ℕ → Bytes) (w o : Out) (x : Name) (n i : ℕ) → Fronts mem f w o x (n - i) → n ≤ i → o ≡ w
front_done mem f w o x n i inv h = let z : n - i ≡ 0 = omega arith in front_all mem f w o x (n - i) inv z

pub ruleset fronts = (rules, front_done, front_end, front_next)

-- ---- with dots, where they are wanted

module _ (d : Bool) (t : Bytes) (o o₂ : Out) where
  pub put_undotted : (f : ℕ → Bytes) → o₂ ≡ emit o (flat f t) → not d ≡ true → o₂ ≡ emit o (flat f (as_dots d t))
  put_undotted f e h = go d h e
    where
      go : (d : Bool) → not d ≡ true → o₂ ≡ emit o (flat f t) → o₂ ≡ emit o (flat f (as_dots d t))
      go true h e = absurd (no_true h)
      go false h e = e

  pub put_dotted : (m : Mode) → o₂ ≡ emit o (flat (becomes Mode.Dotted) t) → not d ≡ false → m ≡ Mode.Same → o₂ ≡ emit o (flat (becomes m) (as_dots d t))
  unfolding becomes
  put_dotted m e h g = rw g (go d h e)
    where
      go : (d : Bool) → not d ≡ false → o₂ ≡ emit o (flat (becomes Mode.Dotted) t) → o₂ ≡ emit o (flat (becomes Mode.Same) (as_dots d t))
      go true h e = rw (flat_same (dotted t)) e
      go false h e = absurd (no_true (sym h))

pub ruleset written = (rules, put_last, put_sep, put_bare, named_cut, named_whole, put_undotted, put_dotted)

-- ---- whether something is there

there_in : (a u v : Bytes) → is_there v ≡ true → true ≡ is_there (a ++ (u ++ v))
there_in [] [] v h = sym h
there_in [] (x ∷ u) v h = refl
there_in (x ∷ a) u v h = refl

module _ (job mem : Bytes) (r : Ref) (u : Bytes) (e : u ≡ take r.len (drop r.at job)) where
  pub there_part : (length u ≡ 0 → ⊥) → true ≡ is_there (text_of job mem r)
  unfolding text_of
  there_part h = go (front_of r.cut r.upto (name_of mem r.name)) (slash r.sep) (name_of mem r.last) u h ∙ rw e
    where
      go : (a b c d : Bytes) → (length d ≡ 0 → ⊥) → true ≡ is_there (a ++ (b ++ (c ++ d)))
      go a b [] [] h = absurd (h refl)
      go a b [] (x ∷ d) h = there_in a b (x ∷ d) refl
      go a b (y ∷ c) d h = there_in a b (y ∷ (c ++ d)) refl

  pub there_last : (b : Bool) → b ≡ is_there (name_of mem r.last) → r.sep || b ≡ true → true ≡ is_there (text_of job mem r)
  unfolding text_of
  there_last b g h = go (front_of r.cut r.upto (name_of mem r.name)) r.sep (name_of mem r.last) (take r.len (drop r.at job)) (rw g at h)
    where
      go : (a : Bytes) (s : Bool) (c d : Bytes) → s || is_there c ≡ true → true ≡ is_there (a ++ (slash s ++ (c ++ d)))
      go (x ∷ a) s c d h = refl
      go [] true c d h = refl
      go [] false [] d h = absurd (no_true h)
      go [] false (x ∷ c) d h = refl

  module _ (z : length u ≡ 0) (b : Bool) (g : b ≡ is_there (name_of mem r.last)) (h : r.sep || b ≡ false) where
    alone : text_of job mem r ≡ front_of r.cut r.upto (name_of mem r.name)
    unfolding text_of
    alone = go (front_of r.cut r.upto (name_of mem r.name)) r.sep (name_of mem r.last) (take r.len (drop r.at job)) (rw e at z) (rw g at h)
      where
        go : (a : Bytes) (s : Bool) (c d : Bytes) → length d ≡ 0 → s || is_there c ≡ false → a ++ (slash s ++ (c ++ d)) ≡ a
        go a true c d z h = absurd (no_true (sym h))
        go a false (x ∷ c) d z h = absurd (no_true (sym h))
        go a false [] (x ∷ d) z h = absurd (omega (arith, z))
        go a false [] [] z h = append-nil a

    pub there_none : r.cut && eqb r.upto 0 ≡ true → false ≡ is_there (text_of job mem r)
    there_none c = rw (alone, front_none r.cut r.upto (name_of mem r.name) c)

    pub there_name : r.cut && eqb r.upto 0 ≡ false → (t : Bool) → t ≡ is_there (name_of mem r.name) → t ≡ is_there (text_of job mem r)
    there_name c t f = f ∙ rw alone (go r.cut r.upto (name_of mem r.name) c)
      where
        go : (x : Bool) (k : ℕ) (n : Bytes) → x && eqb k 0 ≡ false → is_there n ≡ is_there (front_of x k n)
        go x k [] c = sym (rw (front_empty x k))
        go x k (y ∷ n) c = sym (rw (front_byte x k y n c))

pub there_is : (mem : Bytes) (n : Name) (p : Option (ℕ × Name)) → name_of mem n ≡ name_step mem p → is_some p ≡ is_there (name_of mem n)
there_is mem n None e = rw e
there_is mem n (Some (b, u)) e = rw e

pub ruleset theres = (rules, there_is, there_part, there_last, there_none, there_name)
