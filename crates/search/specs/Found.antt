-- What the answer of a search says: a refusal exactly where the calls pass the limit; else the way and the number of calls.
-- Assumes nothing.
use Rattle.std.specs.Prelude.{ℕ, ◌+◌, ◌-◌, ◌<◌, ◌≤◌, ◌≡◌, List, map, length, take, drop, set, replicate, Option, None, Some, option_map, Result, Ok, Err}
use Rattle.text.specs.Ascii.{Bytes}
use Rattle.jobindex.specs.declared.Span.{Span}
use Rattle.design.specs.Limits.{most_calls}
use Rattle.design.specs.Search.{Search}
use Rattle.lines.specs.Cursors.{spanned}
use Rattle.search.specs.declared.Found.{Found}
use Rattle.search.specs.declared.TooMany.{TooMany}
use Rattle.search.specs.declared.Way.{Way}

-- the instance names of a way, from a depth on
abbrev pub way_from : Bytes → ℕ → Way → List Bytes
way_from job depth w = map (spanned job) (take (w.count - depth) (drop depth w.names))

-- a way that was found at a depth goes deeper
abbrev pub Deeper : ℕ → Option Way → Type 0
Deeper depth None = Unit {0}
Deeper depth (Some w) = (depth < w.count) × (length w.names ≡ 33)

-- f is the answer of a search s at a depth, which was called after `before` calls
pub record Made (job : Bytes) (depth before : ℕ) (s : Search) (f : Found) : Type 0 where
  pub calls_is : f.calls ≡ before + s.calls
  pub few : f.calls ≤ most_calls
  pub way_is : option_map (way_from job depth) f.way ≡ s.found
  pub goes : Deeper depth f.way

abbrev pub Searched : Bytes → ℕ → ℕ → Search → Result Found TooMany → Type 0
Searched job depth before s (Ok f) = Made job depth before s f
Searched job depth before s (Err _) = most_calls < before + s.calls

-- ---- the ways that are made
abbrev pub no_names : List Span
no_names = replicate 33 (record { at = 0; len = 0 })

abbrev pub way_to : ℕ → Span → Way
way_to depth name = record { count = depth + 1; names = set no_names depth name }

abbrev pub way_below : Way → ℕ → Span → Way
way_below w depth name = record { count = w.count; names = set w.names depth name }
