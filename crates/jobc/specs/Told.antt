-- A reading told as one number, for a caller in C or Rust: 0 for an accepted job, else the refusal's number times 2^32 plus its line.
-- Assumes nothing.
use Rattle.std.specs.Prelude.{ℕ, ◌+◌, ◌*◌, cond, leb}
use Rattle.text.specs.Ascii.{Bytes}
use Rattle.joblines.specs.Parse.{Parsed, accepted, refused, parse}
use Rattle.jobindex.specs.Index.{index_size}

abbrev pub told : Parsed → ℕ
told (accepted j) = 0
told (refused x n) = x * 4294967296 + n

-- check 1 for the area that the reader is lent, then checks 2 to 7
unfoldable pub checked : ℕ → Bytes → ℕ
checked room job = cond (leb index_size room) (told (parse job)) (1 * 4294967296)
