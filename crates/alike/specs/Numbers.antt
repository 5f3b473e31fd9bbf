-- The strategies' numbers of the ports of a table. Assumes nothing.
use Rattle.std.specs.Prelude.{ℕ, zero, suc, ◌+◌, ◌≡◌, refl, List, [], ◌∷◌, ◌++◌, map}
use Rattle.std.proofs.Common.{arith, add-zero, add-one, ap, ◌∙◌}
use Rattle.text.specs.Ascii.{Bytes}
use Rattle.isolated.specs.Table.{port_row, Kept, kept_from}

-- of the n ports from row k on
unfoldable pub numbers_from : List ℕ → ℕ → ℕ → List ℕ
numbers_from t k zero = []
numbers_from t k (suc n) = (port_row t k).strategy ∷ numbers_from t (k + 1) n

abbrev pub numbers_in : List ℕ → ℕ → List ℕ
numbers_in t n = numbers_from t 0 n

pub numbers_kept : (job mem : Bytes) (t : List ℕ) (k n : ℕ) → map (λ (x : Kept). x.strategy) (kept_from job mem t k n) ≡ numbers_from t k n
unfolding numbers_from kept_from
numbers_kept job mem t k zero = refl
numbers_kept job mem t k (suc n) = ap (λ (l : List ℕ). (port_row t k).strategy ∷ l) (numbers_kept job mem t (k + 1) n)

pub numbers_none : (t : List ℕ) (k : ℕ) → numbers_from t k 0 ≡ []
unfolding numbers_from
numbers_none t k = refl

pub numbers_next : (t : List ℕ) (k n : ℕ) → numbers_from t k (suc n) ≡ (port_row t k).strategy ∷ numbers_from t (k + 1) n
unfolding numbers_from
numbers_next t k n = refl

-- the last by itself
numbers_last : (t : List ℕ) (k n : ℕ) → numbers_from t k (suc n) ≡ numbers_from t k n ++ ((port_row t (k + n)).strategy ∷ [])
unfolding numbers_from
numbers_last t k zero = let e : k + 0 ≡ k = add-zero k in rw e
numbers_last t k (suc n) =
    let e : k + 1 + n ≡ k + suc n = omega arith in
    ap (λ (l : List ℕ). (port_row t k).strategy ∷ l) (numbers_last t (k + 1) n ∙ rw e)

pub numbers_one : (t : List ℕ) (k : ℕ) → numbers_in t (k + 1) ≡ numbers_in t k ++ ((port_row t k).strategy ∷ [])
numbers_one t k = let z : 0 + k ≡ k = omega arith in ap (numbers_in t) (add-one k) ∙ numbers_last t 0 k ∙ rw z
