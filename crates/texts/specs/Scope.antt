-- The scope of the power intent: checks 7 and 8 of document 01.
-- Assumes nothing.
use Rattle.std.specs.Prelude.{ℕ, cond, not, List, [], ◌∷◌, map, eqb, leb, Option, None, Some}
use Rattle.text.specs.Ascii.{Bytes, byte}
use Rattle.text.specs.Compare.{same}
use Rattle.text.specs.Scan.{split_at}
use Rattle.joblines.specs.Job.{Module, Job}
use Rattle.design.specs.Limits.{most_calls}
use Rattle.design.specs.Lists.{those}
use Rattle.design.specs.Lookup.{module_at}
use Rattle.design.specs.Search.{find_by_type, calls_made}

-- where the scope is: its instance names below the top; or a refusal
pub data Path : Type 0 where
  along : List Bytes → Path
  refused : ℕ → Path

-- ---- an override: its parts between `/` and `.`, the empty ones left out, and without the top's own name in front
abbrev pub slash_of : ℕ → ℕ
slash_of b = cond (eqb b (byte ".")) (byte "/") b

abbrev pub override_parts : Bytes → List Bytes
override_parts p = those (λ q. not (same q [])) (split_at (byte "/") (map slash_of p))

abbrev pub without_top : Bytes → List Bytes → List Bytes
without_top top [] = []
without_top top (p ∷ ps) = cond (same p top) ps (p ∷ ps)

-- ---- "Without an override, where a design top is set and is not the top itself: does `find_by_type` make at most 4,096 calls? No: 13. Is it the
-- type of an instance found by `find_by_type`? No: 11."
abbrev pub found_at : Option (List Bytes) → Path
found_at None = refused 11
found_at (Some path) = along path

abbrev pub path_to : List Module → Module → Bytes → Path
path_to d top type = cond (leb (calls_made d top type) most_calls) (found_at (find_by_type d top type)) (refused 13)

abbrev pub by_design_top : List Module → Module → Bytes → Option Bytes → Path
by_design_top d top name None = along []
by_design_top d top name (Some type) = cond (same type name) (along []) (path_to d top type)

-- "`override=PATH` (empty: none)"
abbrev pub scope_path_of : Job → Module → Option Bytes → Path
scope_path_of j top design_top = cond (same j.override []) (by_design_top j.modules top j.top design_top) (along (without_top j.top (override_parts j.override)))

-- ---- "Does the scope path exist? No: 12."
pub data Scope : Type 0 where
  at : List Bytes → Module → Scope
  no_scope : ℕ → Scope

abbrev pub existing : List Bytes → Option Module → Scope
existing path None = no_scope 12
existing path (Some m) = at path m

abbrev pub scope_along : List Module → Module → Path → Scope
scope_along d top (Path.along path) = existing path (module_at d top path)
scope_along d top (Path.refused n) = no_scope n

unfoldable pub scope_of : Job → Module → Option Bytes → Scope
scope_of j top design_top = scope_along j.modules top (scope_path_of j top design_top)
