-- Listed paths below a scope, and a line for each. Assumes nothing.
use Rattle.std.specs.Prelude.{◌≡◌, refl, List, [], ◌∷◌, ◌++◌, map}
use Rattle.std.proofs.Common.{ap₂}
use Rattle.text.specs.Ascii.{Bytes, ascii}
use Rattle.out.specs.Fill.{fill, filled, adds, turns, arg, pick}
use Rattle.out.specs.Items.{each}
use Rattle.design.specs.Paths.{child_path, scope_path}
use Rattle.paths.specs.Pieces.{stem, stem_child}
use Rattle.texts.specs.Domains.{force, release}

-- what stands before a path below a scope: the scope's path and a dot, nothing at the top
unfoldable pub scope_stem : List Bytes → Bytes
scope_stem scope = stem (scope_path scope)

pub below_stem : (scope : List Bytes) (q : Bytes) → child_path (scope_path scope) q ≡ scope_stem scope ++ q
unfolding scope_stem
below_stem scope q = stem_child (scope_path scope) q

-- paths relative to a scope, below it
abbrev pub below : List Bytes → List Bytes → List Bytes
below scope qs = map (child_path (scope_path scope)) qs

-- a path below a scope, between two texts
abbrev pub line_of : Bytes → Bytes → List Bytes → Bytes → Bytes
line_of before after scope q = before ++ (child_path (scope_path scope) q ++ after)

-- ---- laws: the lines of the glue

force_line_lem : (p : Bytes) → ascii "      force " ++ (p ++ ascii " = 'x;\n") ≡ force p
unfolding fill filled adds turns arg pick
force_line_lem p = refl

release_line : (p : Bytes) → ascii "      release " ++ (p ++ ascii ";\n") ≡ release p
unfolding fill filled adds turns arg pick
release_line p = refl

each_below : (f g : Bytes → Bytes) (scope qs : List Bytes) → ((q : Bytes) → f q ≡ g (child_path (scope_path scope) q)) → each f qs ≡ each g (below scope qs)
unfolding each
each_below f g scope [] h = refl
each_below f g scope (q ∷ qs) h = ap₂ ◌++◌ (h q) (each_below f g scope qs h)

pub force_lines_lem : (scope qs : List Bytes) → each (line_of (ascii "      force ") (ascii " = 'x;\n") scope) qs ≡ each force (below scope qs)
force_lines_lem scope qs = each_below (line_of (ascii "      force ") (ascii " = 'x;\n") scope) force scope qs (λ q. force_line_lem (child_path (scope_path scope) q))

pub release_lines : (scope qs : List Bytes) → each (line_of (ascii "      release ") (ascii ";\n") scope) qs ≡ each release (below scope qs)
release_lines scope qs = each_below (line_of (ascii "      release ") (ascii ";\n") scope) release scope qs (λ q. release_line (child_path (scope_path scope) q))
