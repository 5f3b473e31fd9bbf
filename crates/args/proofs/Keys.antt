-- The states of a command's words: laws as the needs ask them. Assumes nothing.
use Rattle.std.specs.Prelude.{Some, None}
use Prim.Native.Nat.{ℕ, suc, ◌+◌, ◌-◌, ◌≤◌, ◌<◌, ◌^◌}
use mathlib.Core.Path.{◌≡◌, refl}
use mathlib.Core.Bool.{Bool, true, false, cond}
use mathlib.Core.List.{List, [], ◌∷◌}
use Rattle.std.specs.Prelude.{Option}
use native.Mathlib.Omega.{arith}
use lib.ListN.{length}
use lib.Dec.{leb}
use borrow.Author.Rules.{rules}
use borrow.Author.Tests.{leb-true, leb-false}
use Rattle.text.specs.Ascii.{Bytes}
use Rattle.text.specs.Compare.{same}
use Rattle.spans.specs.Span.{bytes, pair_at, strings}
use Rattle.spans.specs.declared.span.Span.{Span}
use Rattle.tcl.specs.Arguments.{state_of, states_from}
use Rattle.tcl.specs.Arguments as arguments
use Rattle.args.specs.View.{words_from, pick, StateHere, States}
use Rattle.args.specs.Laws.{words_all, words_none, words_here}
use Rattle.spans.specs.Reach.{one_of}

-- ---- the state at a word

abbrev state : Bool → Bytes → arguments.State
state one v = record { one = one; value = v }

module _ (mem : Bytes) (words : List ℕ) (n i : ℕ) (one two : Bytes) where
  abbrev here : List arguments.State
  here = state_of one two (bytes mem (pair_at words i)) (words_from mem words n (i + 1))

  pub here_last : (m : ℕ) → m ≡ n - i → m ≤ 1 → StateHere mem words n here None
  here_last m e h = record { is = rw (words_none mem words n (i + 1) (omega arith)); within = λ d x. omega arith }

  module _ (m : ℕ) (e : m ≡ n - i) (h : 1 < m) (s : Span) (z : s ≡ pair_at words i) (u : Bool) (f : u ≡ same (bytes mem s) one) where
    pub here_one : (v : Span) → v ≡ pair_at words (i + 1) → u ≡ true → StateHere mem words n here (Some (true, v))
    here_one v y t =
        let g : i + 1 < n = omega arith in
        record { is = rw (words_here mem words n (i + 1) g, ← z, ← f, t, y); within = λ d x. rw y (one_of d words n (i + 1) g) }

    module _ (s' : Span) (z' : s' ≡ pair_at words i) (u' : Bool) (f' : u' ≡ same (bytes mem s') two) (t : u ≡ false) where
      one_not : same (bytes mem (pair_at words i)) one ≡ false
      one_not = rw (← z, ← f, t)

      pub here_two : (v : Span) → v ≡ pair_at words (i + 1) → u' ≡ true → StateHere mem words n here (Some (false, v))
      here_two v y t' =
          let g : i + 1 < n = omega arith in
          record { is = rw (words_here mem words n (i + 1) g, one_not, ← z', ← f', t', y); within = λ d x. rw y (one_of d words n (i + 1) g) }

      pub here_none : u' ≡ false → StateHere mem words n here None
      here_none t' =
          let g : i + 1 < n = omega arith in
          record { is = rw (words_here mem words n (i + 1) g, one_not, ← z', ← f', t'); within = λ d x. omega arith }

pub ruleset heres = (rules, here_last, here_one, here_two, here_none)

-- ---- a turn

none_on : (one two w : Bytes) (ws : List Bytes) → state_of one two w ws ≡ [] → states_from false one two (w ∷ ws) ≡ states_from false one two ws
unfolding states_from
none_on one two w [] e = refl
none_on one two w (v ∷ ws) e = go (same w one) (same w two) refl refl e
  where
    go : (x y : Bool) → same w one ≡ x → same w two ≡ y → cond x (state true v ∷ []) (cond y (state false v ∷ []) []) ≡ [] → states_from false one two (w ∷ v ∷ ws) ≡ states_from false one two (v ∷ ws)
    go true y p q z = absurd (let o : ◌≡◌ {A = ℕ} 0 1 = cc in omega arith)
    go false true p q z = absurd (let o : ◌≡◌ {A = ℕ} 0 1 = cc in omega arith)
    go false false p q z = rw (p, q)

one_on : (one two w v : Bytes) (ws : List Bytes) (x : arguments.State) → state_of one two w (v ∷ ws) ≡ x ∷ [] → states_from false one two (w ∷ v ∷ ws) ≡ x ∷ states_from false one two ws
unfolding states_from
one_on one two w v ws x e = go (same w one) (same w two) refl refl e
  where
    go : (a b : Bool) → same w one ≡ a → same w two ≡ b → cond a (state true v ∷ []) (cond b (state false v ∷ []) []) ≡ x ∷ [] → states_from false one two (w ∷ v ∷ ws) ≡ x ∷ states_from false one two ws
    go true b p q z = rw p (cc)
    go false true p q z = rw (p, q) (cc)
    go false false p q z = absurd (let o : ◌≡◌ {A = ℕ} 0 1 = cc in omega arith)

module _ (mem : Bytes) (words : List ℕ) (n i : ℕ) (one two : Bytes) (r : Option (Bool × Span))
    (e : StateHere mem words n (state_of one two (bytes mem (pair_at words i)) (words_from mem words n (i + 1))) r) where
  there : (k : Bool) (s : Span) → r ≡ Some (k, s) → i + 1 < n
  there k s g = go (leb n (i + 1)) refl
    where
      go : (t : Bool) → leb n (i + 1) ≡ t → i + 1 < n
      go true q =
          let l : n ≤ i + 1 = leb-true n (i + 1) q in
          let d = rw (words_none mem words n (i + 1) l, g) at e.is in
          let z : ◌≡◌ {A = ℕ} 0 1 = cc in
          absurd (omega arith)
      go false q = leb-false n (i + 1) q

  pub key_fits : n < 2 ^ 64 → (k : Bool) (s : Span) → r ≡ Some (k, s) → i + 2 < 2 ^ 64
  key_fits f k s g = let h : i + 1 < n = there k s g in omega arith

  pub key_less : (k : Bool) (s : Span) → r ≡ Some (k, s) → n - (i + 2) < n - i
  key_less k s g = let h : i + 1 < n = there k s g in omega arith

  module _ (h : i < n) where
    step_none : r ≡ None → states_from false one two (words_from mem words n i) ≡ states_from false one two (words_from mem words n (i + 1))
    step_none g = rw (words_here mem words n i h) (none_on one two (bytes mem (pair_at words i)) (words_from mem words n (i + 1)) (rw g at e.is))

    step_one : (k : Bool) (s : Span) → r ≡ Some (k, s) → states_from false one two (words_from mem words n i) ≡ state k (bytes mem s) ∷ states_from false one two (words_from mem words n (i + 2))
    step_one k s g =
        let q : i + 1 + 1 ≡ i + 2 = omega arith in
        let d = rw (words_here mem words n (i + 1) (there k s g), g) at e.is in
        rw (words_here mem words n i h, words_here mem words n (i + 1) (there k s g), ← q) (one_on one two (bytes mem (pair_at words i)) (bytes mem (pair_at words (i + 1))) (words_from mem words n (i + 1 + 1)) (state k (bytes mem s)) d)

-- ---- state k

pub record Seeks (mem : Bytes) (words : List ℕ) (n : ℕ) (one two : Bytes) (t : Option arguments.State) (i left : ℕ) : Type 0 where
  pub keeps : pick left (states_from false one two (words_from mem words n i)) ≡ t

pub seek_start : (mem : Bytes) (words : List ℕ) (n : ℕ) (one two : Bytes) (k : ℕ) → Seeks mem words n one two (pick k (states_from false one two (strings mem words 0 n))) 0 k
seek_start mem words n one two k = record { keeps = rw (words_all mem words n) }

module _ (mem : Bytes) (words : List ℕ) (n : ℕ) (one two : Bytes) (t : Option arguments.State) (i left : ℕ) (inv : Seeks mem words n one two t i left) where
  pub seek_end : n ≤ i → States mem words n t None
  unfolding pick states_from
  seek_end h = record { is = rw (words_none mem words n i h) at inv.keeps; within = λ d x. omega arith }

  module _ (h : i < n) (r : Option (Bool × Span)) (e : StateHere mem words n (state_of one two (bytes mem (pair_at words i)) (words_from mem words n (i + 1))) r) where
    pub seek_none : r ≡ None → Seeks mem words n one two t (i + 1) left
    seek_none g = record { keeps = rw (step_none mem words n i one two r e h g) at inv.keeps }

    module _ (k : Bool) (s : Span) (g : r ≡ Some (k, s)) where
      pub seek_here : left ≡ 0 → States mem words n t (Some (k, s))
      unfolding pick
      seek_here q = record { is = rw (step_one mem words n i one two r e h k s g, q) at inv.keeps; within = λ d x. rw g at (e.within d x) }

      pub seek_on : (left ≡ 0 → ⊥) → Seeks mem words n one two t (i + 2) (left - 1)
      unfolding pick
      seek_on q =
          let l : left ≡ suc (left - 1) = omega arith in
          let z : pick left (state k (bytes mem s) ∷ states_from false one two (words_from mem words n (i + 2))) ≡ t = rw (step_one mem words n i one two r e h k s g) at inv.keeps in
          record { keeps = rw l at z }

pub ruleset seeks = (rules, key_fits, key_less, seek_start, seek_end, seek_none, seek_here, seek_on)

-- ---- how many there are

pub record Adds (mem : Bytes) (words : List ℕ) (n : ℕ) (one two : Bytes) (t i found : ℕ) : Type 0 where
  pub keeps : found + length (states_from false one two (words_from mem words n i)) ≡ t

pub add_start : (mem : Bytes) (words : List ℕ) (n : ℕ) (one two : Bytes) → Adds mem words n one two (length (states_from false one two (strings mem words 0 n))) 0 0
add_start mem words n one two = record { keeps = rw (words_all mem words n) (omega arith) }

module _ (mem : Bytes) (words : List ℕ) (n : ℕ) (one two : Bytes) (t i found : ℕ) (inv : Adds mem words n one two t i found) where
  pub add_end : n ≤ i → found ≡ t
  unfolding states_from
  add_end h = omega (arith, rw (words_none mem words n i h) at inv.keeps)

  module _ (h : i < n) (r : Option (Bool × Span)) (e : StateHere mem words n (state_of one two (bytes mem (pair_at words i)) (words_from mem words n (i + 1))) r) where
    pub add_none : r ≡ None → Adds mem words n one two t (i + 1) found
    add_none g = record { keeps = rw (step_none mem words n i one two r e h g) at inv.keeps }

    pub add_on : (k : Bool) (s : Span) → r ≡ Some (k, s) → Adds mem words n one two t (i + 2) (found + 1)
    add_on k s g = record { keeps = omega (arith, rw (step_one mem words n i one two r e h k s g) at inv.keeps) }

pub ruleset adds = (rules, key_fits, key_less, add_start, add_end, add_none, add_on)
