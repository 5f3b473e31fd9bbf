-- A template read in runs: the plain bytes before a brace, then what the brace begins. Assumes nothing.
use Rattle.std.specs.Prelude.{Option, Some, None, ℕ, zero, suc, ◌+◌, ◌-◌, ◌<◌, ◌≤◌, ◌≡◌, Bool, cond, length, drop}
use Rattle.std.proofs.Common.{arith, eq-or-lt_of_le, ⊎_elim, ap, ◌∙◌, drop_of_length-le, length-drop, drop-drop, rules}
use Rattle.std.proofs.Math.Path.{refl, sym}
use Rattle.std.proofs.Math.Bool.{true, false}
use mathlib.Core.List.{[], ◌∷◌, ◌++◌, append-nil}
use Rattle.std.proofs.Math.Dec.{eqb, leb}
use Rattle.std.proofs.Math.ListN.{get_or, take}
use borrow.Author.Tests.{eq-eqb, ne_eqb, eqb-true, leb-true}
use Rattle.text.specs.Ascii.{Bytes}
use Rattle.text.specs.Classes.{within}
use Rattle.text.specs.Sames.{both}
use Rattle.text.specs.Scan.{before, Ends}
use Rattle.text.specs.Lists.{here, head_is}
use Rattle.out.specs.Emit.{Out, emit, emit1, emit_append}
use Rattle.out.specs.Bytewise.{flat, becomes, mangle, dotted, sv_str, flat_same}
use Rattle.out.specs.declared.bytewise.Mode.{Mode}
use Rattle.out.specs.Fill.{adds, turns, filled, fill, pick, arg, asked, is_brace, mark_text, mark_size}

-- ---- what a letter asks for

-- the text that a letter asks for
abbrev pub asked_text : Bytes → Bytes → Bytes → Bytes → Bytes → Option (Mode × ℕ) → Bytes
asked_text a b c d e None = []
asked_text a b c d e (Some (m, j)) = flat (becomes m) (pick j a b c d e)

pub arg_asked : (a b c d e : Bytes) (k : ℕ) → arg a b c d e k ≡ asked_text a b c d e (asked k)
unfolding arg becomes
arg_asked a b c d e k = go (within 48 52 k) (within 65 69 k) (within 97 101 k) (within 112 116 k)
  where
    go : (p q r s : Bool) → cond p (pick (k - 48) a b c d e) (cond q (sv_str (pick (k - 65) a b c d e)) (cond r (mangle (pick (k - 97) a b c d e)) (cond s (dotted (pick (k - 112) a b c d e)) [])))
        ≡ asked_text a b c d e (cond p (Some (Mode.Same, k - 48)) (cond q (Some (Mode.Quoted, k - 65)) (cond r (Some (Mode.Mangled, k - 97)) (cond s (Some (Mode.Dotted, k - 112)) None))))
    go true q r s = sym (flat_same (pick (k - 48) a b c d e))
    go false true r s = refl
    go false false true s = refl
    go false false false true = refl
    go false false false false = refl

pub arg_named : (a b c d e : Bytes) (k : ℕ) (m : Mode) (j : ℕ) → asked k ≡ Some (m, j) → arg a b c d e k ≡ flat (becomes m) (pick j a b c d e)
arg_named a b c d e k m j h = arg_asked a b c d e k ∙ ap (asked_text a b c d e) h

pub arg_unnamed : (a b c d e : Bytes) (k : ℕ) → asked k ≡ None → arg a b c d e k ≡ []
arg_unnamed a b c d e k h = arg_asked a b c d e k ∙ ap (asked_text a b c d e) h

-- its number is one of five
abbrev number_of : Option (Mode × ℕ) → ℕ
number_of None = 0
number_of (Some (m, j)) = j

number_low : (k : ℕ) → number_of (asked k) ≤ 4
number_low k = go (within 48 52 k) refl (within 65 69 k) refl (within 97 101 k) refl (within 112 116 k) refl
  where
    high : (lo hi : ℕ) → within lo hi k ≡ true → k ≤ hi
    high lo hi t = leb-true k hi (both (leb lo k) (leb k hi) t).1

    go : (p : Bool) → within 48 52 k ≡ p → (q : Bool) → within 65 69 k ≡ q → (r : Bool) → within 97 101 k ≡ r → (s : Bool) → within 112 116 k ≡ s → number_of (asked k) ≤ 4
    go true x q y r z s w = rw x (omega (arith, high 48 52 x))
    go false x true y r z s w = rw (x, y) (omega (arith, high 65 69 y))
    go false x false y true z s w = rw (x, y, z) (omega (arith, high 97 101 z))
    go false x false y false z true w = rw (x, y, z, w) (omega (arith, high 112 116 w))
    go false x false y false z false w = rw (x, y, z, w) (omega arith)

pub asked_low : (k : ℕ) (m : Mode) (j : ℕ) → asked k ≡ Some (m, j) → j ≤ 4
asked_low k m j h = rw h at (number_low k)

-- five in a row, read by a number
pub pick_of : {A : Type 0} (f : A → Bytes) (a b c d e z : A) (j : ℕ) → j ≤ 4 → f (get_or (a ∷ b ∷ c ∷ d ∷ e ∷ []) j z) ≡ pick j (f a) (f b) (f c) (f d) (f e)
unfolding pick
pick_of f a b c d e z zero h = refl
pick_of f a b c d e z (suc zero) h = refl
pick_of f a b c d e z (suc (suc zero)) h = refl
pick_of f a b c d e z (suc (suc (suc zero))) h = refl
pick_of f a b c d e z (suc (suc (suc (suc zero)))) h = refl
pick_of f a b c d e z (suc (suc (suc (suc (suc j))))) h = absurd (omega (arith, h))

-- ---- the mark at the head of a text

module _ (a : ℕ → Bytes) (nothing : a 0 ≡ []) where
  mark_open : (s : Bytes) → filled a 0 (123 ∷ s) ≡ mark_text a (123 ∷ s) ++ filled a 0 (drop (mark_size (123 ∷ s)) (123 ∷ s))
  unfolding filled adds turns mark_text mark_size
  mark_open [] = sym (append-nil (a 0) ∙ nothing)
  mark_open (k ∷ r) = go (eqb k 123) refl
    where
      go : (z : Bool) → eqb k 123 ≡ z → filled a 0 (123 ∷ k ∷ r) ≡ mark_text a (123 ∷ k ∷ r) ++ filled a 0 (drop (mark_size (123 ∷ k ∷ r)) (123 ∷ k ∷ r))
      go true e = let q : k ≡ 123 = eqb-true k 123 e in rw q
      go false e = simp e (rest r)
        where
          rest : (r : Bytes) → a k ++ filled a 2 r ≡ a k ++ filled a 0 (drop 1 r)
          rest [] = refl
          rest (z ∷ r) = refl

  mark_close : (s : Bytes) → filled a 0 (125 ∷ s) ≡ mark_text a (125 ∷ s) ++ filled a 0 (drop (mark_size (125 ∷ s)) (125 ∷ s))
  unfolding filled adds turns mark_text mark_size
  mark_close [] = refl
  mark_close (z ∷ r) = refl

  -- the run, then the mark, then the rest
  pub run_mark : (s : Bytes) → filled a 0 s ≡ take (before is_brace s) s ++ (mark_text a (drop (before is_brace s) s) ++ filled a 0 (drop (mark_size (drop (before is_brace s) s)) (drop (before is_brace s) s)))
  unfolding before filled adds turns mark_text mark_size
  run_mark [] = refl
  run_mark (x ∷ s) = go (eqb x 123) (eqb x 125) refl refl (run_mark s)
    where
      go : (y z : Bool) → eqb x 123 ≡ y → eqb x 125 ≡ z
          → filled a 0 s ≡ take (before is_brace s) s ++ (mark_text a (drop (before is_brace s) s) ++ filled a 0 (drop (mark_size (drop (before is_brace s) s)) (drop (before is_brace s) s)))
          → filled a 0 (x ∷ s) ≡ take (before is_brace (x ∷ s)) (x ∷ s) ++ (mark_text a (drop (before is_brace (x ∷ s)) (x ∷ s)) ++ filled a 0 (drop (mark_size (drop (before is_brace (x ∷ s)) (x ∷ s))) (drop (before is_brace (x ∷ s)) (x ∷ s))))
      go true z e f ih = let q : x ≡ 123 = eqb-true x 123 e in rw q (mark_open s)
      go false true e f ih = let q : x ≡ 125 = eqb-true x 125 f in rw q (mark_close s)
      go false false e f ih = simp (e, f) (ap (λ (l : Bytes). x ∷ l) ih)

-- ---- what the writer of a mark asks

module _ (o o' : Out) (a : ℕ → Bytes) (t : Bytes) (i : ℕ) where
  pub mark_none : length t ≤ i → o ≡ emit o (mark_text a (drop i t))
  unfolding mark_text emit
  mark_none h = rw (drop_of_length-le t {i = i} h)

  module _ (h : i < length t) where
    pub mark_shut : get_or t i 0 ≡ 125 → o' ≡ emit1 o 125 → o' ≡ emit o (mark_text a (drop i t))
    unfolding mark_text emit
    mark_shut e w = rw (here t i h, e) w

    module _ (n : get_or t i 0 ≡ 125 → ⊥) (k : ℕ) (g : k ≡ get_or t (i + 1) 0) where
      pub mark_doubled : k ≡ 123 → o' ≡ emit1 o 123 → o' ≡ emit o (mark_text a (drop i t))
      unfolding mark_text emit
      mark_doubled e w = let q : get_or (drop (i + 1) t) 0 0 ≡ k = head_is t (i + 1) ∙ sym g in rw (here t i h, ne_eqb (get_or t i 0) 125 n, q, eq-eqb k 123 e) w

      pub mark_argument : (k ≡ 123 → ⊥) → o' ≡ emit o (a k) → o' ≡ emit o (mark_text a (drop i t))
      unfolding mark_text
      mark_argument e w = let q : get_or (drop (i + 1) t) 0 0 ≡ k = head_is t (i + 1) ∙ sym g in rw (here t i h, ne_eqb (get_or t i 0) 125 n, q, ne_eqb k 123 e) w

pub ruleset marks = (rules, mark_none, mark_shut, mark_doubled, mark_argument)

module _ (t : Bytes) (i : ℕ) where
  pub size_none : length t ≤ i → i ≡ i + mark_size (drop i t)
  unfolding mark_size
  size_none h = rw (drop_of_length-le t {i = i} h) (omega arith)

  module _ (h : i < length t) where
    pub size_shut : get_or t i 0 ≡ 125 → i + 2 ≡ i + mark_size (drop i t)
    unfolding mark_size
    size_shut e = rw (here t i h, e)

    module _ (n : get_or t i 0 ≡ 125 → ⊥) (k : ℕ) (g : k ≡ get_or t (i + 1) 0) where
      pub size_doubled : k ≡ 123 → i + 2 ≡ i + mark_size (drop i t)
      unfolding mark_size
      size_doubled e = let q : get_or (drop (i + 1) t) 0 0 ≡ k = head_is t (i + 1) ∙ sym g in rw (here t i h, ne_eqb (get_or t i 0) 125 n, q, eq-eqb k 123 e)

      pub size_argument : (k ≡ 123 → ⊥) → i + 3 ≡ i + mark_size (drop i t)
      unfolding mark_size
      size_argument e = let q : get_or (drop (i + 1) t) 0 0 ≡ k = head_is t (i + 1) ∙ sym g in rw (here t i h, ne_eqb (get_or t i 0) 125 n, q, ne_eqb k 123 e)

-- ---- one turn of the loop: what is left to write, written from here, is the answer w

pub record Fills (a : ℕ → Bytes) (t : Bytes) (w o : Out) (i : ℕ) : Type 0 where
  pub keeps : emit o (filled a 0 (drop i t)) ≡ w

pub fills_start : (t a b c d e : Bytes) (o : Out) → Fills (arg a b c d e) t (emit o (fill t a b c d e)) o 0
unfolding fill
fills_start t a b c d e o = record { keeps = refl }

-- a mark has a byte at least, where there is one
mark_more : (s : Bytes) → 0 < length s → 2 ≤ mark_size s
unfolding mark_size
mark_more [] h = absurd (omega arith)
mark_more (x ∷ s) h = go (eqb x 125) (eqb (get_or s 0 0) 123)
  where
    go : (y z : Bool) → 2 ≤ cond y 2 (cond z 2 3)
    go true z = omega arith
    go false true = omega arith
    go false false = omega arith

module _ (a : ℕ → Bytes) (nothing : a 0 ≡ []) (t : Bytes) (w o : Out) (i : ℕ) (inv : Fills a t w o i) where
  fills_next : (z : ℕ) (run : Bytes) (o₁ o₂ : Out) (n : ℕ) → Ends (i + before is_brace (drop i t)) (length t) z → run ≡ take (z - i) (drop i t) → o₁ ≡ emit o run → o₂ ≡ emit o₁ (mark_text a (drop z t)) → n ≡ z + mark_size (drop z t) → Fills a t w o₂ n
  fills_next z run o₁ o₂ n e r e₁ e₂ g =
      let k : z - i ≡ before is_brace (drop i t) = omega (arith, e.is_at) in
      let d : drop (before is_brace (drop i t)) (drop i t) ≡ drop z t = drop-drop (before is_brace (drop i t)) i t ∙ ap (λ (m : ℕ). drop m t) (sym e.is_at) in
      let m : drop (mark_size (drop z t)) (drop z t) ≡ drop n t = drop-drop (mark_size (drop z t)) z t ∙ ap (λ (m : ℕ). drop m t) (sym g) in
      let all : emit o (filled a 0 (drop i t)) ≡ emit (emit (emit o run) (mark_text a (drop z t))) (filled a 0 (drop n t)) =
      rw (run_mark a nothing (drop i t), d, m, ← k, ← r, emit_append, emit_append) in
      record { keeps = rw (e₂, e₁) (sym all ∙ inv.keeps) }

arg_nothing : (a b c d e : Bytes) → arg a b c d e 0 ≡ []
unfolding arg
arg_nothing a b c d e = refl

pub fills_turn : (a b c d e t : Bytes) (w o o₁ o₂ : Out) (i z n : ℕ) (run : Bytes) → Fills (arg a b c d e) t w o i → o₂ ≡ emit o₁ (mark_text (arg a b c d e) (drop z t)) → o₁ ≡ emit o run → run ≡ take (z - i) (drop i t) → Ends (i + before is_brace (drop i t)) (length t) z → n ≡ z + mark_size (drop z t) → Fills (arg a b c d e) t w o₂ n
fills_turn a b c d e t w o o₁ o₂ i z n run inv e₂ e₁ r h g = fills_next (arg a b c d e) (arg_nothing a b c d e) t w o i inv z run o₁ o₂ n h r e₁ e₂ g

pub fills_less : (t : Bytes) (i z n : ℕ) → i < length t → Ends (i + before is_brace (drop i t)) (length t) z → n ≡ z + mark_size (drop z t) → length t - n < length t - i
fills_less t i z n h e g = ⊎_elim (λ q. omega (arith, e.is_at, e.within)) (λ q. omega (arith, e.is_at, mark_more (drop z t) (rw length-drop (omega arith)))) (eq-or-lt_of_le e.within)

pub fills_done : (a : ℕ → Bytes) (t : Bytes) (w o : Out) (i : ℕ) → Fills a t w o i → length t ≤ i → o ≡ w
unfolding filled emit
fills_done a t w o i inv h = rw (drop_of_length-le t {i = i} h) at inv.keeps
