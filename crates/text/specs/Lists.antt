-- Laws: lists at an index, in the code's own words (`i + 1`, `get_or` past the end), and their parts.
-- Assumes nothing.
use Rattle.std.specs.Prelude.{◌≡◌, refl, List, [], ◌∷◌, ◌++◌, ℕ, zero, suc, ◌+◌, ◌-◌, ◌≤◌, ◌<◌, length, take, drop, get_or}
use Rattle.std.proofs.Common.{sym, ap, ◌∙◌, ⊎_elim, add-one, add-zero, eq-or-lt_of_le, arith, drop_of_length-le, length-drop, drop-cons, get_or-drop, take_all, rules}
use Rattle.std.proofs.Math.Nat.{sub-zero}
use Rattle.std.proofs.Math.ListN.{get_or-eq_default}

-- what is not at its end, in the code's own words
pub here : (s : List ℕ) (i : ℕ) → i < length s → drop i s ≡ get_or s i 0 ∷ drop (i + 1) s
here s i h = rw (add-one, drop-cons s i 0)

-- its first byte
pub head_is : (s : List ℕ) (i : ℕ) → get_or (drop i s) 0 0 ≡ get_or s i 0
head_is s i = rw (get_or-drop, add-zero)

pub past : (s : List ℕ) (i : ℕ) → length s ≤ i → 0 ≡ get_or s i 0
past s i h = sym (get_or-eq_default s 0 h)

-- a look ahead that counts only what is there
pub ahead_fits : (f : ℕ → ℕ) (s : List ℕ) (a r : ℕ) → f 0 ≡ 0 → r ≡ f (get_or s a 0) → r ≤ 1 → a ≤ length s → a + r ≤ length s
ahead_fits f s a r z e g h =
    ⊎_elim (λ q. let l : length s ≤ a = omega arith in omega (arith, e ∙ ap f (get_or-eq_default s 0 l) ∙ z)) (λ q. omega arith) (eq-or-lt_of_le h)

-- the part from a up to e, where e is n further on
pub part_is_lem : (a e n : ℕ) (s : List ℕ) → e ≡ a + n → take (e - a) s ≡ take n s
part_is_lem a e n s h = let q : e - a ≡ n = omega arith in rw q

-- two fronts that are the whole
pub all_is : (n m : ℕ) (s : List ℕ) → length s ≤ n → length s ≤ m → take n s ≡ take m s
all_is n m s h g = take_all n s h ∙ sym (take_all m s g)

-- ---- parts

pub take_none : (n : ℕ) → take {A = ℕ} n [] ≡ []
take_none zero = refl
take_none (suc n) = refl

module _ (s : List ℕ) (at len : ℕ) where
  pub part_none : length s ≤ at → [] ≡ take len (drop at s)
  part_none h = sym (rw (drop_of_length-le s {i = at} h) (take_none len))

  pub part_rest : length s - at ≤ len → take (length s - at) (drop at s) ≡ take len (drop at s)
  part_rest h =
      let l : length (drop at s) ≡ length s - at = length-drop at s in
      take_all (length s - at) (drop at s) (omega arith) ∙ sym (take_all len (drop at s) (omega arith))

  pub part_some : (e : ℕ) → e ≡ at + len → take (e - at) (drop at s) ≡ take len (drop at s)
  part_some e h = let q : e - at ≡ len = omega arith in rw q

module _ (s : List ℕ) (at : ℕ) where
  pub rest_none : length s ≤ at → [] ≡ drop at s
  rest_none h = sym (drop_of_length-le s {i = at} h)

  pub rest_some : take (length s - at) (drop at s) ≡ drop at s
  rest_some =
      let l : length (drop at s) ≡ length s - at = length-drop at s in
      take_all (length s - at) (drop at s) (omega arith)

pub drop_take : (i n : ℕ) (xs : List ℕ) → drop i (take n xs) ≡ take (n - i) (drop i xs)
drop_take zero n xs = rw sub-zero
drop_take (suc i) zero xs = let e : 0 - suc i ≡ 0 = omega arith in rw e
drop_take (suc i) (suc n) [] = let e : suc n - suc i ≡ n - i = omega arith in rw e (sym (take_none (n - i)))
drop_take (suc i) (suc n) (x ∷ xs) = let e : suc n - suc i ≡ n - i = omega arith in rw e (drop_take i n xs)

pub drop_two : (n : ℕ) (t a : List ℕ) → drop n (t ++ a) ≡ drop n t ++ drop (n - length t) a
drop_two zero t a = let e : 0 - length t ≡ 0 = omega arith in rw e
drop_two (suc n) [] a = rw sub-zero
drop_two (suc n) (x ∷ t) a = let e : suc n - suc (length t) ≡ n - length t = omega arith in rw e (drop_two n t a)

pub take_two : (n : ℕ) (t a : List ℕ) → take n (t ++ a) ≡ take n t ++ take (n - length t) a
take_two zero t a = let e : 0 - length t ≡ 0 = omega arith in rw e
take_two (suc n) [] a = rw sub-zero
take_two (suc n) (x ∷ t) a = let e : suc n - suc (length t) ≡ n - length t = omega arith in rw e (ap (λ (r : List ℕ). x ∷ r) (take_two n t a))

pub ruleset parts = (rules, part_none, part_rest, part_some, rest_none, rest_some, past)

-- a text of no bytes
pub no_bytes : (t : List ℕ) → length t ≡ 0 → t ≡ []
no_bytes [] h = refl
no_bytes (x ∷ t) h = absurd (omega arith)
