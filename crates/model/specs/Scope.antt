-- Names below the scope, and moving the scope (the Rust's `scoped`). Assumes nothing.
use Rattle.std.specs.Prelude.{ℕ, ◌+◌, ◌-◌, cond, ◌||◌, List, [], ◌∷◌, length, take, drop}
use Rattle.text.specs.Ascii.{Bytes, ascii, byte}
use Rattle.text.specs.Compare.{same, starts_with}
use Rattle.text.specs.Scan.{split_at}
pub use Rattle.names.specs.Scoped.{below}
unfoldable pub use Rattle.names.specs.Scoped.{scoped}

-- how many bytes stand before the last of the parts between the slashes, without the slash
abbrev pub up_length : List Bytes → ℕ
up_length [] = 0
up_length (p ∷ []) = 0
up_length (p ∷ q ∷ []) = length p
up_length (p ∷ q ∷ r ∷ ps) = length p + 1 + up_length (q ∷ r ∷ ps)

-- what stands before the last `/`; nothing where there is none
unfoldable pub up : Bytes → Bytes
up scope = take (up_length (split_at (byte "/") scope)) scope

-- "`set_scope .` or nothing goes to the root"; `..` goes up; a name behind a `/` is taken from the root; else below the scope
unfoldable pub moved : Bytes → Bytes → Bytes
moved scope name =
    cond (same name (ascii ".") || same name []) []
    (cond (same name (ascii "..")) (up scope)
    (cond (starts_with (ascii "/") name) (drop 1 name) (scoped scope name)))

-- "while `load_upf -scope .` stays", and so does `/`
unfoldable pub entered : Bytes → Bytes → Bytes
entered scope name =
    cond (same name (ascii ".") || same name (ascii "/")) scope
    (cond (starts_with (ascii "/") name) (drop 1 name) (scoped scope name))
