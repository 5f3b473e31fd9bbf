-- A row is one of the rows. Assumes nothing.
use Rattle.std.specs.Prelude.{ℕ, zero, suc, ◌≤◌, ◌<◌, [], ◌∷◌}
use Rattle.std.proofs.Common.{ap, ⊎_elim, arith, eq-or-lt_of_le}
use mathlib.Core.List.Memᴰ.{append_left as on-left}
use mathlib.Core.List.Memᴰ.{append_right as on-right}
use mathlib.Core.List.Memᴰ.{head as here}
use mathlib.Core.List.{Memᴰ as Mem}
use Rattle.jobindex.specs.Index.{rows}

pub row_mem : {A : Type 0} (f : ℕ → A) (n k : ℕ) → k < n → Mem (f k) (rows f n)
unfolding rows
row_mem f zero k h = absurd (omega arith)
row_mem f (suc n) k h =
    let l : k ≤ n = omega arith in
    ⊎_elim (λ e. on-right (rows f n) (here (ap f e))) (λ g. on-left (f n ∷ []) (row_mem f n k g)) (eq-or-lt_of_le l)
