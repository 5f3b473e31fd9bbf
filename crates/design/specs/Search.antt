-- "Is it the type of an instance found by `find_by_type`?": the first instance of a type, in the order of the `inst` lines, what is below an
-- instance before the next instance; and the number of the calls made.
-- Assumes nothing.
use Rattle.std.specs.Prelude.{ℕ, zero, suc, ◌+◌, cond, List, [], ◌∷◌, Option, None, Some, option_map}
use Rattle.text.specs.Ascii.{Bytes}
use Rattle.text.specs.Compare.{same}
use Rattle.joblines.specs.Job.{Inst, Module}
use Rattle.design.specs.Limits.{search_depth}
use Rattle.design.specs.Lists.{on_some}
use Rattle.design.specs.Lookup.{instances, module_named}

-- what a search comes to: the instance names down to the one found, if any, and how many calls were made
pub record Search : Type 0 where
  pub found : Option (List Bytes)
  pub calls : ℕ

abbrev pub nothing : Search
nothing = record { found = None; calls = 0 }

-- one call more
abbrev pub called : Search → Search
called s = record { found = s.found; calls = 1 + s.calls }

-- a search below an instance: its name stands first
abbrev pub under : Bytes → Search → Search
under n s = record { found = option_map (λ (ns : List Bytes). n ∷ ns) s.found; calls = s.calls }

-- a search that goes on only where the one before it found nothing; the calls of both count then
abbrev pub or_else : Search → Search → Search
or_else s r = on_some s.found (record { found = r.found; calls = s.calls + r.calls }) λ ns. s

-- an instance: it is of the type, or what is searched is its module, if that is listed. `down` is the call for a module
abbrev pub at_instance : List Module → Bytes → (Module → Search) → Inst → Search
at_instance d type down i =
    cond (same i.type type) (record { found = Some (i.name ∷ []); calls = 0 })
    (on_some (module_named d i.type) nothing λ m. under i.name (down m))

unfoldable pub among_instances : List Module → Bytes → (Module → Search) → List Inst → Search
among_instances d type down [] = nothing
among_instances d type down (i ∷ is) = or_else (at_instance d type down i) (among_instances d type down is)

-- a call; a call past the last depth finds nothing, and is counted
unfoldable pub search_from : List Module → Bytes → ℕ → Module → Search
search_from d type zero m = called nothing
search_from d type (suc left) m = called (among_instances d type (search_from d type left) (instances m))

-- the search from the top: an instance is found 33 instances down, and not 34
abbrev pub search_type : List Module → Module → Bytes → Search
search_type d m type = search_from d type (search_depth + 1) m

abbrev pub find_by_type : List Module → Module → Bytes → Option (List Bytes)
find_by_type d m type = (search_type d m type).found

-- "does `find_by_type` make at most 4,096 calls?": every call is counted, the first one and those past the last depth too
abbrev pub calls_made : List Module → Module → Bytes → ℕ
calls_made d m type = (search_type d m type).calls
