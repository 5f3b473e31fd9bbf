-- The limits of the walk: "Generation: modules entered by one domain's walk 4,096, each time counted, none at a retained path or past depth 32; its
-- paths 1,024, and 32,768 bytes together".
-- Assumes nothing.
use Rattle.std.specs.Prelude.{ℕ}

-- "depth 0 is the element, 32 the last visited"
abbrev pub most_depth : ℕ
most_depth = 32

abbrev pub most_entered : ℕ
most_entered = 4096

abbrev pub most_paths : ℕ
most_paths = 1024

abbrev pub most_path_bytes : ℕ
most_path_bytes = 32768
