-- How a line is cut off the job. A place is the offset of the next line's first byte, and how many lines were cut before it.
-- Assumes nothing.
use Rattle.std.specs.Prelude.{ℕ, ◌+◌, ◌≤◌, ◌<◌, ◌^◌, cond, length, drop, ltb, Option, None, Some}
use Rattle.text.specs.Ascii.{Bytes, byte}
use Rattle.text.specs.Scan.{up_to}
use Rattle.place.specs.declared.Place.{Place}
use Rattle.place.specs.declared.Line.{Line}

-- where the line that begins at `at` ends
abbrev pub end_of : Bytes → ℕ → ℕ
end_of job at = at + up_to (byte "\n") (drop at job)

-- the line at a place: its first byte and its LF; none where it is missing, also where only its LF is
unfoldable pub cut_at : Bytes → Place → Option Line
cut_at job p = cond (ltb (end_of job p.at) (length job)) (Some (record { from = p.at; end = end_of job p.at })) None

-- "the place in the job is lent and moved on by one line, with the line count"
unfoldable pub moved_on : Bytes → Place → Place
moved_on job p =
    record { at = cond (ltb (end_of job p.at) (length job)) (end_of job p.at + 1) (end_of job p.at); line = p.line + 1 }

-- a place that can be moved on: in the job, and its line counted
pub record In (job : Bytes) (p : Place) : Type 0 where
  pub inside : p.at ≤ length job
  pub counted : p.line + 1 < 2 ^ 64
