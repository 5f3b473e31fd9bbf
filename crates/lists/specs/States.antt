-- Laws for all who read the states of a command one after the other: what is left, and that they are few. Assumes nothing.
use Rattle.std.specs.Prelude.{ℕ, zero, suc, ◌+◌, ◌-◌, ◌≤◌, ◌<◌, ◌≡◌, refl, Bool, true, false, List, [], ◌∷◌, length, drop, None, Some}
use Rattle.std.proofs.Common.{arith, ap}
use Rattle.text.specs.Ascii.{Bytes}
use Rattle.text.specs.Compare.{same}
use Rattle.spans.specs.Span.{bytes, pair_at, pairs, strings}
use Rattle.tcl.specs.Arguments.{states, states_from}
use Rattle.args.specs.View.{words_from, pick}

pub pick_none : {A : Type 0} (k : ℕ) (xs : List A) → None ≡ pick k xs → drop k xs ≡ []
unfolding pick
pick_none zero [] e = refl
pick_none (suc k) [] e = refl
pick_none zero (x ∷ xs) e = absurd (let z : ◌≡◌ {A = ℕ} 0 1 = cc in omega arith)
pick_none (suc k) (x ∷ xs) e = pick_none k xs e

pub pick_some : {A : Type 0} (k : ℕ) (xs : List A) (y : A) → Some y ≡ pick k xs → drop k xs ≡ y ∷ drop (k + 1) xs
unfolding pick
pick_some zero [] y e = absurd (let z : ◌≡◌ {A = ℕ} 0 1 = cc in omega arith)
pick_some (suc k) [] y e = absurd (let z : ◌≡◌ {A = ℕ} 0 1 = cc in omega arith)
pick_some zero (x ∷ xs) y e = let q : x ≡ y = cc in rw q
pick_some (suc k) (x ∷ xs) y e = let q : suc k + 1 ≡ suc (k + 1) = omega arith in rw q (pick_some k xs y e)

pub pick_in : {A : Type 0} (k : ℕ) (xs : List A) (y : A) → Some y ≡ pick k xs → k < length xs
unfolding pick
pick_in zero [] y e = absurd (let z : ◌≡◌ {A = ℕ} 0 1 = cc in omega arith)
pick_in (suc k) [] y e = absurd (let z : ◌≡◌ {A = ℕ} 0 1 = cc in omega arith)
pick_in zero (x ∷ xs) y e = omega arith
pick_in (suc k) (x ∷ xs) y e = omega (arith, pick_in k xs y e)

-- there are no more states than words
short_by : (one two w v : Bytes) (ws : List Bytes) (a b : Bool) → same w one ≡ a → same w two ≡ b → length (states_from false one two ws) ≤ length ws → length (states_from false one two (v ∷ ws)) ≤ suc (length ws) → length (states_from false one two (w ∷ v ∷ ws)) ≤ suc (suc (length ws))
unfolding states_from
short_by one two w v ws true b p q h g = rw p (omega arith)
short_by one two w v ws false true p q h g = rw (p, q) (omega arith)
short_by one two w v ws false false p q h g = rw (p, q) (omega arith)

pub states_short : (one two : Bytes) (ws : List Bytes) → length (states_from false one two ws) ≤ length ws
unfolding states_from
states_short one two [] = omega arith
states_short one two (w ∷ []) = omega arith
states_short one two (w ∷ v ∷ ws) = short_by one two w v ws (same w one) (same w two) refl refl (states_short one two ws) (states_short one two (v ∷ ws))

pub strings_length : (mem : Bytes) (words : List ℕ) (k n : ℕ) → length (strings mem words k n) ≡ n
unfolding pairs
strings_length mem words k zero = refl
strings_length mem words k (suc n) = ap suc (strings_length mem words (k + 1) n)

-- the states of a line are those of its name and the words behind
pub line_states : (mem : Bytes) (words : List ℕ) (n : ℕ) (one two : Bytes) → states one two (strings mem words 0 n) ≡ states one two (bytes mem (pair_at words 0) ∷ words_from mem words n 1)
unfolding pairs states_from
line_states mem words zero one two = refl
line_states mem words (suc n) one two = let e : suc n - 1 ≡ n = omega arith in rw e
