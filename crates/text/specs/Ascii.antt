-- Byte strings, and their literals: `ascii "  always @("` is the list of its bytes, `byte "{"` is one byte. For ASCII texts.
-- Assumes nothing.
use Rattle.std.specs.Prelude.{ℕ, List, [], ◌∷◌, ◌≡◌, refl}
use Prim.Native.Char.{code}
use Prim.Native.String.{String, [] as []ˢ, ◌∷◌ as ◌∷ˢ◌}

abbrev pub Bytes : Type 0
Bytes = List ℕ

abbrev pub ascii : String → Bytes
ascii []ˢ = []
ascii (c ∷ˢ s) = code c ∷ ascii s

-- the first byte of the literal
abbrev pub byte : String → ℕ
byte []ˢ = 0
byte (c ∷ˢ s) = code c

escapes : ascii "hi\"\n" ≡ 104 ∷ 105 ∷ 34 ∷ 10 ∷ []
escapes = refl
