-- Marks of retained entries: by the number of its path each. Assumes nothing.
use Rattle.std.specs.Prelude.{ℕ, ◌%◌, ◌≡◌, false, List, map, get_or}
use Rattle.text.specs.Ascii.{Bytes}
use Rattle.design.specs.Lists.{is_in}
use Rattle.design.specs.Paths.{dotted}
use Rattle.pathnumber.specs.Number.{number}

abbrev pub mark_count : ℕ
mark_count = 32768

abbrev pub mark_place : Bytes → ℕ
mark_place p = number 0 p % mark_count

-- a path whose mark is not set is none of the entries
pub record Marked (marks : Bytes) (entries : List Bytes) : Type 0 where
  pub says : (p : Bytes) → get_or marks (mark_place p) 0 ≡ 0 → is_in p (map dotted entries) ≡ false
