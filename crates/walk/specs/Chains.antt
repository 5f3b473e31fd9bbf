-- What is said of a name in a path. Assumes nothing.
use mathlib.Core.List.{Memᴰ as Mem}
use Rattle.text.specs.Ascii.{Bytes, byte}

-- a name without a dot
abbrev pub Dotless : Bytes → Type 0
Dotless n = Mem (byte ".") n → ⊥
