-- "Are both byte work areas (joined files; all else) at least 65,536 long and the u32 one 16,384?"
-- Assumes nothing.
use Rattle.std.specs.Prelude.{ℕ}

abbrev pub least_bytes : ℕ
least_bytes = 65536

abbrev pub least_numbers : ℕ
least_numbers = 16384
