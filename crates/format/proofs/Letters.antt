-- The marks of a template, as the writers ask them: o' is what the one call of a way left. Assumes nothing.
use Rattle.std.specs.Prelude.{Option, Some, None}
use Rattle.std.proofs.lemmas.Option.{none-some}
use Prim.Native.Nat.{ℕ, ◌+◌, ◌-◌, ◌≤◌, ◌<◌}
use native.Mathlib.Omega.{arith}
use mathlib.Core.Path.{◌≡◌, refl, sym, ap, ◌∙◌}
use mathlib.Core.Bool.{Bool, true, false, cond}
use mathlib.Core.List.{List, [], ◌∷◌}
use lib.Dec.{eqb, leb}
use lib.ListN.{length, get_or, drop, drop_of_length-le}
use borrow.Author.Rules.{rules}
use borrow.Author.Tests.{eq-eqb, ne_eqb, leb-true}
use Rattle.text.specs.Ascii.{Bytes}
use Rattle.text.specs.Classes.{within}
use Rattle.text.specs.Lists.{here, head_is}
use Rattle.text.specs.Scan.{Ends}
use Rattle.text.specs.Sames.{both}
use Rattle.out.specs.Emit.{Out, emit}
use Rattle.out.specs.Bytewise.{flat, becomes}
use Rattle.out.specs.declared.bytewise.Mode.{Mode}
use Rattle.out.specs.Fill.{pick, asked, mark_text, fill}
use Rattle.out.specs.Marks.{mark_argument, arg_named, arg_unnamed, asked_low, pick_of}
use Rattle.format.specs.Args.{arg_of, letters, mark_asks, fixed_arg}
use Rattle.format.specs.Laws.{empty_arg}
use Rattle.format.specs.declared.arg.Arg.{Arg}
use Rattle.format.specs.declared.arg.Wrap.{Wrap}

-- ---- the mark of an argument

module _ (f : ℕ → Bytes) where
  mark_none_text : ((k : ℕ) → asked k ≡ None → f k ≡ []) → (l : Bytes) → mark_asks l ≡ None → mark_text f l ≡ mark_text (λ (_ : ℕ). []) l
  unfolding mark_text mark_asks
  mark_none_text n [] h = refl
  mark_none_text n (x ∷ s) h = go (eqb x 125) (eqb (get_or s 0 0) 123) h
    where
      go : (p q : Bool) → cond p None (cond q None (asked (get_or s 0 0))) ≡ None → cond p (x ∷ []) (cond q (123 ∷ []) (f (get_or s 0 0))) ≡ cond p (x ∷ []) (cond q (123 ∷ []) [])
      go true q h = refl
      go false true h = refl
      go false false h = n (get_or s 0 0) h

  mark_some_text : (l : Bytes) (m : Mode) (j : ℕ) → mark_asks l ≡ Some (m, j) → (mark_text f l ≡ f (get_or l 1 0)) × (asked (get_or l 1 0) ≡ Some (m, j))
  unfolding mark_text mark_asks
  mark_some_text [] m j h = absurd (none-some (m, j) h)
  mark_some_text (x ∷ s) m j h = go (eqb x 125) (eqb (get_or s 0 0) 123) h
    where
      go : (p q : Bool) → cond p None (cond q None (asked (get_or s 0 0))) ≡ Some (m, j) → (cond p (x ∷ []) (cond q (123 ∷ []) (f (get_or s 0 0))) ≡ f (get_or s 0 0)) × (asked (get_or s 0 0) ≡ Some (m, j))
      go true q h = absurd (none-some (m, j) h)
      go false true h = absurd (none-some (m, j) h)
      go false false h = (refl, h)

-- its number is one of five
pub mark_low : (l : Bytes) (q : Option (Mode × ℕ)) (m : Mode) (j : ℕ) → q ≡ mark_asks l → q ≡ Some (m, j) → j < 5
mark_low l q m j h e = omega (arith, asked_low (get_or l 1 0) m j (mark_some_text (λ (_ : ℕ). []) l m j (sym h ∙ e)).1)

-- as its reader asks

module _ (t : Bytes) (i : ℕ) where
  pub mark_past : length t ≤ i → None ≡ mark_asks (drop i t)
  unfolding mark_asks
  mark_past h = rw (drop_of_length-le t {i = i} h)

  module _ (h : i < length t) where
    pub mark_shut_asks : get_or t i 0 ≡ 125 → None ≡ mark_asks (drop i t)
    unfolding mark_asks
    mark_shut_asks e = rw (here t i h, e)

    module _ (n : get_or t i 0 ≡ 125 → ⊥) (k : ℕ) (g : k ≡ get_or t (i + 1) 0) where
      pub mark_doubled_asks : k ≡ 123 → None ≡ mark_asks (drop i t)
      unfolding mark_asks
      mark_doubled_asks e = let q : get_or (drop (i + 1) t) 0 0 ≡ k = head_is t (i + 1) ∙ sym g in rw (here t i h, ne_eqb (get_or t i 0) 125 n, q, eq-eqb k 123 e)

      pub mark_here : (k ≡ 123 → ⊥) → asked k ≡ mark_asks (drop i t)
      unfolding mark_asks
      mark_here e = let q : get_or (drop (i + 1) t) 0 0 ≡ k = head_is t (i + 1) ∙ sym g in rw (here t i h, ne_eqb (get_or t i 0) 125 n, q, ne_eqb k 123 e)

      pub mark_nothing : (k ≡ 123 → ⊥) → (o : Out) → o ≡ emit o (mark_text (λ (_ : ℕ). []) (drop i t))
      unfolding emit
      mark_nothing e o = mark_argument o o (λ (_ : ℕ). []) t i h n k g e refl

pub ruleset reads = (rules, mark_past, mark_shut_asks, mark_doubled_asks, mark_here)

-- ---- what the mark at z, where a run ends, adds

module _ (job mem : Bytes) (scope : List Bytes) (top : Bytes) (a b c d e : Arg) (t : Bytes) (z : ℕ) (o o' : Out) (q : Option (Mode × ℕ)) (eq : q ≡ mark_asks (drop z t)) where
  pub turn_none : o' ≡ emit o (mark_text (λ (_ : ℕ). []) (drop z t)) → q ≡ None → o' ≡ emit o (mark_text (letters job mem scope top a b c d e) (drop z t))
  turn_none w h =
      let none : (k : ℕ) → asked k ≡ None → letters job mem scope top a b c d e k ≡ [] = λ k. arg_unnamed (arg_of job mem scope top a) (arg_of job mem scope top b) (arg_of job mem scope top c) (arg_of job mem scope top d) (arg_of job mem scope top e) k in
      w ∙ ap (emit o) (sym (mark_none_text (letters job mem scope top a b c d e) none (drop z t) (sym eq ∙ h)))

  pub turn_arg : (m : Mode) (j : ℕ) (y : Arg) → o' ≡ emit o (flat (becomes m) (arg_of job mem scope top (get_or (a ∷ b ∷ c ∷ d ∷ e ∷ []) j y))) → q ≡ Some (m, j) → o' ≡ emit o (mark_text (letters job mem scope top a b c d e) (drop z t))
  turn_arg m j y w h =
      let x : (mark_text (letters job mem scope top a b c d e) (drop z t) ≡ letters job mem scope top a b c d e (get_or (drop z t) 1 0)) × (asked (get_or (drop z t) 1 0) ≡ Some (m, j)) = mark_some_text (letters job mem scope top a b c d e) (drop z t) m j (sym eq ∙ h) in
      let p : arg_of job mem scope top (get_or (a ∷ b ∷ c ∷ d ∷ e ∷ []) j y) ≡ pick j (arg_of job mem scope top a) (arg_of job mem scope top b) (arg_of job mem scope top c) (arg_of job mem scope top d) (arg_of job mem scope top e) = pick_of (arg_of job mem scope top) a b c d e y j (asked_low (get_or (drop z t) 1 0) m j x.1) in
      w ∙ ap (emit o) (ap (flat (becomes m)) p ∙ sym (arg_named (arg_of job mem scope top a) (arg_of job mem scope top b) (arg_of job mem scope top c) (arg_of job mem scope top d) (arg_of job mem scope top e) (get_or (drop z t) 1 0) m j x.1) ∙ sym x.0)

-- ---- fewer arguments: the others are empty

module _ (job mem : Bytes) (scope : List Bytes) (top t : Bytes) (o o' : Out) (z : Arg) where
  empty : z ≡ fixed_arg Wrap.Plain → arg_of job mem scope top z ≡ []
  empty g = rw g (empty_arg job mem scope top)

  pub fill_one : (a : Bytes) → o' ≡ emit o (fill t a (arg_of job mem scope top z) (arg_of job mem scope top z) (arg_of job mem scope top z) (arg_of job mem scope top z)) → z ≡ fixed_arg Wrap.Plain → o' ≡ emit o (fill t a [] [] [] [])
  fill_one a w g = rw (empty g) at w

  pub fill_two : (a b : Bytes) → o' ≡ emit o (fill t a b (arg_of job mem scope top z) (arg_of job mem scope top z) (arg_of job mem scope top z)) → z ≡ fixed_arg Wrap.Plain → o' ≡ emit o (fill t a b [] [] [])
  fill_two a b w g = rw (empty g) at w

  pub fill_three : (a b c : Bytes) → o' ≡ emit o (fill t a b c (arg_of job mem scope top z) (arg_of job mem scope top z)) → z ≡ fixed_arg Wrap.Plain → o' ≡ emit o (fill t a b c [] [])
  fill_three a b c w g = rw (empty g) at w

  pub fill_four : (a b c d : Bytes) → o' ≡ emit o (fill t a b c d (arg_of job mem scope top z)) → z ≡ fixed_arg Wrap.Plain → o' ≡ emit o (fill t a b c d [])
  fill_four a b c d w g = rw (empty g) at w
