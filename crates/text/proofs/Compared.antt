-- What `==`, `cmp` and `starts_with` of slices say, in the words of specs/Compare.antt. Assumes nothing.
use Rattle.std.specs.Prelude.{◌≡◌, refl, true, false, ◌&&◌, List, [], ◌∷◌, ℕ, length, take, nat_eq}
use Rattle.std.proofs.Common.{ap, ◌∙◌, arith, Ordering}
use Rattle.std.specs.Cmp.Lexicographic.{pointwise, slice_cmp}
use Rattle.std.specs.Ordering.{is_lt, nat_cmp, MatchOrdering}
use Rattle.std.proofs.lemmas.Cmp.{same_from_slice_cmp}
use Rattle.std.proofs.lemmas.Bool.Decides.{nat_tests}
use Rattle.text.specs.Compare.{same, starts_with, less}
use Rattle.text.specs.Sames.{same_turned}

pub pairs_same : (a b : List ℕ) → pointwise nat_eq a b ≡ same a b
unfolding same
pairs_same [] [] = refl
pairs_same [] (y ∷ b) = refl
pairs_same (x ∷ a) [] = refl
pairs_same (x ∷ a) (y ∷ b) = ap (λ t. nat_eq x y && t) (pairs_same a b)

pub starts_same : (p s : List ℕ) → pointwise nat_eq p (take (length p) s) ≡ starts_with p s
starts_same p s = pairs_same p (take (length p) s) ∙ same_turned p (take (length p) s)

less_more : (x y : ℕ) (a b : List ℕ) (o : Ordering) → o ≡ nat_cmp x y → MatchOrdering o (less (x ∷ a) (y ∷ b) ≡ true) (less (x ∷ a) (y ∷ b) ≡ less a b) (less (x ∷ a) (y ∷ b) ≡ false)
unfolding less
less_more x y a b o h = grind (arith, nat_tests)

pub orders_less : (a b : List ℕ) → is_lt (slice_cmp nat_cmp a b) ≡ less a b
unfolding less
orders_less a b = same_from_slice_cmp nat_cmp is_lt less refl (λ _ _. refl) (λ _ _. refl) less_more a b _ refl

pub ruleset compared = (pairs_same, starts_same, orders_less)
