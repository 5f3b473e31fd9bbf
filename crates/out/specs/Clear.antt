-- "Outputs past their length, and the work areas, are zero after every call." Assumes nothing.
use Rattle.std.specs.Prelude.{ℕ, zero, suc, List, [], ◌∷◌}

-- the first `at` elements as they were, and zeros behind them up to the length
unfoldable pub cleared_from : ℕ → List ℕ → List ℕ
cleared_from at [] = []
cleared_from zero (x ∷ s) = 0 ∷ cleared_from zero s
cleared_from (suc at) (x ∷ s) = x ∷ cleared_from at s
