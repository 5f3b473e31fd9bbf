-- The limits of generation besides those of the walk: "isolated ports 256; warnings altogether 512."
-- Assumes nothing.
use Rattle.std.specs.Prelude.{ℕ}

abbrev pub most_isolated : ℕ
most_isolated = 256

-- those of reading and those of generation
abbrev pub most_all_warnings : ℕ
most_all_warnings = 512
