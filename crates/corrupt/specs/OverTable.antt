-- The walk over the table: as the definitions have it, a row of the table for each module. Assumes nothing.
use Rattle.std.specs.Prelude.{ℕ, zero, suc, ◌+◌, ◌≤◌, ◌<◌, cond, length}
use mathlib.Core.List.{List, [], ◌++◌, map, flat_map}
use Rattle.text.specs.Ascii.{Bytes}
use Rattle.jobindex.specs.Index.{num}
use Rattle.design.specs.Lists.{is_in}
use Rattle.design.specs.Paths.{child_path}
use Rattle.walk.specs.Walk.{sum_over}
use Rattle.modtable.specs.Table.{names_at, ways_at, way_place, way_name, names_of, Down, downs_of}

-- what row k loses itself, at its path
abbrev pub own_of : Bytes → List ℕ → ℕ → Bytes → List Bytes
own_of job table k path = map (child_path path) (names_of job table k)

-- the paths that a walk from row k lists, with `left` instances more to go down
unfoldable pub lost_below : Bytes → List ℕ → List Bytes → ℕ → ℕ → Bytes → List Bytes
lost_below job table retained zero k path = cond (is_in path retained) [] (own_of job table k path)
lost_below job table retained (suc left) k path =
    cond (is_in path retained) []
    (own_of job table k path ++ flat_map (λ (w : Down). lost_below job table retained left w.row (child_path path w.name)) (downs_of job table k))

-- the modules that it enters
unfoldable pub entered_below : Bytes → List ℕ → List Bytes → ℕ → ℕ → Bytes → ℕ
entered_below job table retained zero k path = cond (is_in path retained) 0 1
entered_below job table retained (suc left) k path =
    cond (is_in path retained) 0
    (1 + sum_over (λ (w : Down). entered_below job table retained left w.row (child_path path w.name)) (downs_of job table k))

-- row k of a table of `count` modules: few names and instances, each with a short name and a module of the table
pub record RowSound (job : Bytes) (table : List ℕ) (count k : ℕ) : Type 0 where
  pub names_few : num table (names_at k) ≤ 192
  pub ways_few : num table (ways_at k) ≤ 64
  pub within : (j : ℕ) → j < num table (ways_at k) → num table (way_place k j + 2) < count
  pub short : (j : ℕ) → j < num table (ways_at k) → length (way_name job table k j) ≤ 64

-- row k, and all that a walk from it comes to
pub record Sound (job : Bytes) (table : List ℕ) (k : ℕ) : Type 0 where
  pub count : ℕ
  pub few : count ≤ 128
  pub row : k < count
  pub rows : (m : ℕ) → m < count → RowSound job table count m
