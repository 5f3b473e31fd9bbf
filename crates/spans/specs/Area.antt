-- What a write leaves in an area. Assumes nothing.
use Rattle.std.specs.Prelude.{ℕ, ◌+◌, ◌≡◌, List, ◌++◌, length, take, drop}

-- an area was l₀ and is l: `all` stands in it from `at` up to r, and the rest is as it was
pub record Wrote (l₀ l : List ℕ) (at : ℕ) (all : List ℕ) (r : ℕ) : Type 0 where
  pub ends : r ≡ at + length all
  pub holds : l ≡ take at l₀ ++ (all ++ drop r l₀)
