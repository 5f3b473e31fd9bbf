-- The limits of the type search.
-- Assumes nothing.
use Rattle.std.specs.Prelude.{ℕ}

-- the depth of the last call that looks at instances; the first call has depth 0
abbrev pub search_depth : ℕ
search_depth = 32

-- "does `find_by_type` make at most 4,096 calls?"
abbrev pub most_calls : ℕ
most_calls = 4096
