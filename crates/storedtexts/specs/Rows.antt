-- Laws: the rows of the store one after the other, as a loop over them asks. Assumes nothing.
use Rattle.std.specs.Prelude.{ℕ, zero, suc, ◌+◌, ◌≤◌, ◌<◌, ◌≡◌, refl, List, [], ◌∷◌, ◌++◌, length, drop}
use Rattle.std.proofs.Common.{sym, ap, ◌∙◌, ⊎_elim, arith, eq-or-lt_of_le, add-one, length-append, drop_of_length-le, drop_at}
use Rattle.std.proofs.lemmas.List.{drop-append-le}
use Rattle.store.specs.Order.{Within, one_more}
use Rattle.store.specs.Rows.{row_at, rows_in}
use Rattle.store.specs.declared.row.Row.{Row}

pub rows_length : (nums : List ℕ) (n : ℕ) → length (rows_in nums n) ≡ n
unfolding rows_in
rows_length nums zero = refl
rows_length nums (suc n) = length-append (rows_in nums n) (row_at nums n ∷ []) ∙ rw (rows_length nums n) (add-one n)

-- row i, and those behind it
pub rows_next : (nums : List ℕ) (n i : ℕ) → i < n → drop i (rows_in nums n) ≡ row_at nums i ∷ drop (i + 1) (rows_in nums n)
unfolding rows_in
rows_next nums zero i h = absurd (omega arith)
rows_next nums (suc n) i h =
    let k : i ≤ n = omega arith in
    ⊎_elim
    (λ e. rw e (drop_at (rows_in nums n) (row_at nums n ∷ []) n (rows_length nums n) ∙ ap (λ (l : List Row). row_at nums n ∷ l) (sym (drop_of_length-le (rows_in nums n ++ (row_at nums n ∷ [])) {i = n + 1} (omega (arith, rows_length nums n, length-append (rows_in nums n) (row_at nums n ∷ [])))))))
    (λ g.
    drop-append-le i (rows_in nums n) (row_at nums n ∷ []) (omega (arith, rows_length nums n))
    ∙ ap (λ (l : List Row). l ++ (row_at nums n ∷ [])) (rows_next nums n i g)
    ∙ ap (λ (l : List Row). row_at nums i ∷ l) (sym (drop-append-le (i + 1) (rows_in nums n) (row_at nums n ∷ []) (omega (arith, rows_length nums n)))))
    (eq-or-lt_of_le k)

pub rows_end : (nums : List ℕ) (n i : ℕ) → n ≤ i → drop i (rows_in nums n) ≡ []
rows_end nums n i h = drop_of_length-le (rows_in nums n) {i = i} (omega (arith, rows_length nums n))

-- what all rows have, those behind some have
pub within_drop : {A : Type 0} (e : A → ℕ) (n : ℕ) (i : ℕ) (l : List A) → Within e n l → Within e n (drop i l)
within_drop e n zero l w = w
within_drop e n (suc i) [] w = w
within_drop e n (suc i) (x ∷ l) (one_more p w) = within_drop e n i l w

pub within_first : {A : Type 0} (e : A → ℕ) (n : ℕ) (x : A) (l : List A) → Within e n (x ∷ l) → e x ≤ n
within_first e n x l (one_more p w) = p
