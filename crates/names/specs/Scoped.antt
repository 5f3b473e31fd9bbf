-- Names below a scope (the Rust's `scoped`). Assumes nothing.
use Rattle.std.specs.Prelude.{cond, [], ◌∷◌, ◌++◌}
use Rattle.text.specs.Ascii.{Bytes, ascii, byte}
use Rattle.text.specs.Compare.{same}

-- a name below a scope: at the root as it is
abbrev pub below : Bytes → Bytes → Bytes
below [] name = name
below (b ∷ scope) name = (b ∷ scope) ++ (byte "/" ∷ name)

-- the same, and the scope itself for `.`
unfoldable pub scoped : Bytes → Bytes → Bytes
scoped scope name = cond (same name (ascii ".")) scope (below scope name)
