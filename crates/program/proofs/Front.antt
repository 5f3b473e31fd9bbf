-- What was read to the front of a buffer is the front of what the reader had to give. Assumes nothing.
use Rattle.std.proofs.Common.{◌≡◌, ℕ, ◌≤◌, ◌<◌, ◌⊎◌, List, [], ◌++◌, Option, None, Some, IfSome, length, take, sym, ap, ◌∙◌, subst, arith, append-nil, length-take-le, take_all, inl, inr}
use Rattle.std.proofs.Math.Nat.{eq-or-lt_of_le}
use Rattle.std.proofs.Math.Seq.{take-append_seam}
use Rattle.std.specs.Io.KnownBytes.{Consumes, IsAtEnd}

front_by : (most n : ℕ) (xs ys u : List ℕ) → length u ≡ n → xs ≡ u ++ ys → (n < most → ys ≡ []) → (n ≡ most) ⊎ (n < most) → u ≡ take most xs
front_by most n xs ys u long given end (inl full) = sym (subst (λ k. take k xs ≡ u) (long ∙ full) (ap (take (length u)) given ∙ take-append_seam u ys))
front_by most n xs ys u long given end (inr less) =
    let whole : xs ≡ u = given ∙ ap (λ z. u ++ z) (end less) ∙ append-nil u in
    let few : length u ≤ most = omega arith in
    sym (subst (λ z. take most z ≡ u) (sym whole) (take_all most u few))

pub front : (a b : Option (List ℕ)) (most n : ℕ) (buf : List ℕ) → length buf ≡ most → n ≤ length buf → Consumes a b (take n buf) → (n < most → IsAtEnd b) → IfSome a (λ xs. take n buf ≡ take most xs)
front None b most n buf room fits given end = tt
front (Some xs) None most n buf room fits given end = absurd given
front (Some xs) (Some ys) most n buf room fits given end =
    let within : n ≤ most = omega arith in
    front_by most n xs ys (take n buf) (length-take-le n buf fits) given end (eq-or-lt_of_le within)
