-- Paths as they are written (document 01, "The walk and the glue"): of a module, of an element and of a retained entry below the scope.
-- Assumes nothing.
use Rattle.std.specs.Prelude.{not}
use mathlib.Core.List.{List, [], ◌∷◌, ◌++◌, map, flat_map}
use Rattle.text.specs.Ascii.{Bytes, byte}
use Rattle.text.specs.Compare.{same}
use Rattle.text.specs.Scan.{split_at}
use Rattle.text.specs.Classes.{dot_of}
use Rattle.design.specs.Lists.{those}

-- "parted by dots; what is empty altogether adds no dot": a name below a path
abbrev pub child_path : Bytes → Bytes → Bytes
child_path [] n = n
child_path (b ∷ p) n = (b ∷ p) ++ byte "." ∷ n

-- "the scope path below the top (empty at the top)", from its instance names
abbrev pub scope_path : List Bytes → Bytes
scope_path [] = []
scope_path (n ∷ ns) = n ++ flat_map (λ (m : Bytes). byte "." ∷ m) ns

-- "the element with `/` as `.`"
abbrev pub dotted : Bytes → Bytes
dotted e = map dot_of e

-- "A path is the scope path below the top (empty at the top), the element with `/` as `.`, ..; what is empty altogether adds no dot, an
-- element's empty parts stay."
abbrev pub element_path : List Bytes → Bytes → Bytes
element_path scope [] = scope_path scope
element_path scope (b ∷ e) = child_path (scope_path scope) (dotted (b ∷ e))

-- "A retained entry is written so too, but the empty one under a scope other than the top equals no path.": it ends in a dot, and no path of a
-- module does
abbrev pub retained_path : List Bytes → Bytes → Bytes
retained_path scope e = child_path (scope_path scope) (dotted e)

-- ---- the instance names that an element is looked up by

-- all parts between the slashes, the empty ones too: so isolation looks an element up
abbrev pub parts : Bytes → List Bytes
parts e = split_at (byte "/") e

-- the parts that are not empty: so the walk looks an element up
abbrev pub filled_parts : Bytes → List Bytes
filled_parts e = those (λ p. not (same p [])) (parts e)
