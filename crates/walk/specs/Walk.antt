-- The walk: the paths that a domain loses, in the Rust's order (its `corruptible`, and the part of `generate` that calls it).
-- d is the design, the module lines of a job; `retained` has the retained paths, and `entries` the retained entries, below the scope.
-- Assumes nothing.
use Rattle.std.specs.Prelude.{ℕ, zero, suc, ◌+◌, Bool, cond, ◌&&◌, leb, length, Option, None}
use mathlib.Core.List.{List, [], ◌∷◌, ◌++◌, map, flat_map}
use Rattle.text.specs.Ascii.{Bytes}
use Rattle.joblines.specs.Job.{Inst, Module}
use Rattle.design.specs.Lists.{on_some, is_in, add_all}
use Rattle.design.specs.Lookup.{instances, module_named, module_at}
use Rattle.design.specs.Ports.{losable}
use Rattle.design.specs.Paths.{child_path, element_path, retained_path, filled_parts}
use Rattle.walk.specs.Limits.{most_depth, most_entered, most_paths, most_path_bytes}

-- ---- one module

-- "The walk goes down from a module into its instances with D 0 whose module is listed"
unfoldable pub entered : List Module → Inst → Option Module
entered d i = cond i.dims None (module_named d i.type)

-- what a module loses itself, at its path
abbrev pub own : Module → Bytes → List Bytes
own m path = map (child_path path) (losable m)

-- "depth 0 is the element, 32 the last visited": `left` instances more to go down. "A module whose path equals a retained entry ends that branch."
-- "in each module output ports, then declarations, then instances"
unfoldable pub corruptible : List Module → List Bytes → ℕ → Module → Bytes → List Bytes
corruptible d retained zero m path = cond (is_in path retained) [] (own m path)
corruptible d retained (suc left) m path =
    cond (is_in path retained) []
    (own m path ++ flat_map (λ i. on_some (entered d i) [] λ m'. corruptible d retained left m' (child_path path i.name)) (instances m))

-- a sum over a list
unfoldable pub sum_over : {A : Type 0} → (A → ℕ) → List A → ℕ
sum_over f [] = 0
sum_over f (x ∷ xs) = f x + sum_over f xs

-- "modules entered .., each time counted, none at a retained path or past depth 32"
unfoldable pub modules_entered : List Module → List Bytes → ℕ → Module → Bytes → ℕ
modules_entered d retained zero m path = cond (is_in path retained) 0 1
modules_entered d retained (suc left) m path =
    cond (is_in path retained) 0
    (1 + sum_over (λ i. on_some (entered d i) 0 λ m'. modules_entered d retained left m' (child_path path i.name)) (instances m))

-- ---- one domain

-- the retained entries as paths below the scope
abbrev pub retained_paths : List Bytes → List Bytes → List Bytes
retained_paths scope entries = map (retained_path scope) entries

-- `base` is the scope's module, `scope` its instance names below the top
module _ (d : List Module) (base : Module) (scope entries : List Bytes) where
  -- "from the module that the Rust's lookup in the module lines finds for the element below the scope (none found: it reaches nothing)"
  unfoldable pub element_list : Bytes → List Bytes
  element_list e =
      on_some (module_at d base (filled_parts e)) [] λ m. corruptible d (retained_paths scope entries) most_depth m (element_path scope e)

  -- "Elements in order; ..; a path is listed where first reached."
  unfoldable pub domain_list : List Bytes → List Bytes
  domain_list es = add_all [] (flat_map element_list es)

  -- the modules entered, by an element's walk and by the domain's
  unfoldable pub element_entered : Bytes → ℕ
  element_entered e =
      on_some (module_at d base (filled_parts e)) 0 λ m. modules_entered d (retained_paths scope entries) most_depth m (element_path scope e)

  unfoldable pub domain_entered : List Bytes → ℕ
  domain_entered es = sum_over element_entered es

-- the bytes of the paths, nothing between them
unfoldable pub path_bytes : List Bytes → ℕ
path_bytes qs = sum_over {A = Bytes} length qs

-- "Within the generation limits?", for one domain's walk
abbrev pub walk_fits : List Module → Module → List Bytes → List Bytes → List Bytes → Bool
walk_fits d base scope entries es =
    leb (domain_entered d base scope entries es) most_entered &&
    (leb (length (domain_list d base scope entries es)) most_paths && leb (path_bytes (domain_list d base scope entries es)) most_path_bytes)
