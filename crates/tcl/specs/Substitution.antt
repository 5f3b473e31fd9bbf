-- Substitution of variables, and what a written word comes to. Assumes nothing.
use Rattle.std.specs.Prelude.{ℕ, ◌+◌, Bool, cond, not, ◌&&◌, List, [], ◌∷◌, map, eqb, ltb, length, take, drop, get_or, Option, None, Some}
use Rattle.text.specs.Ascii.{Bytes, byte}
use Rattle.text.specs.Classes.{is_variable}
use Rattle.text.specs.Compare.{same}
use Rattle.text.specs.Scan.{before, up_to}
use Rattle.tcl.specs.Rewrite.{rewrite}
use Rattle.tcl.specs.Words.{Word, quoted, plain}

-- a variable that `set` made, in the order of the `set` commands
pub record Variable : Type 0 where
  pub name : Bytes
  pub value : Bytes

-- the value of a name: the last one set wins; "an unknown or empty name is kept as written"
abbrev pub last_or : Option Bytes → Bool → Bytes → Option Bytes
last_or (Some v) t u = Some v
last_or None t u = cond t (Some u) None

unfoldable pub lookup : List Variable → Bytes → Option Bytes
lookup [] n = None
lookup (v ∷ vs) n = last_or (lookup vs n) (same n v.name) v.value

unfoldable pub known : List Variable → Bytes → Option Bytes
known vs [] = None
known vs (x ∷ n) = lookup vs (x ∷ n)

-- ---- "`$N` and `${N}` take letters, digits, `_`": s begins with the `$`

abbrev pub no_variable : ℕ → Bool
no_variable b = not (is_variable b)

-- 1 for a brace that opens behind the `$`, else 0
unfoldable pub opens_by : ℕ → ℕ
opens_by b = cond (eqb b (byte "{")) 1 0

abbrev pub opens : Bytes → ℕ
opens s = opens_by (get_or s 1 0)

abbrev pub name_size : Bytes → ℕ
name_size s = before no_variable (drop (1 + opens s) s)

-- 1 for the brace that closes, else 0: "`${N` unclosed is replaced too"
unfoldable pub closes_by : ℕ → ℕ → ℕ
closes_by o b = cond (eqb b (byte "}") && eqb o 1) 1 0

abbrev pub closes : Bytes → ℕ
closes s = closes_by (opens s) (get_or s (1 + opens s + name_size s) 0)

-- a byte that is no `$` is a piece of its own, without a name
unfoldable pub piece_more : Bytes → ℕ
piece_more s = cond (eqb (get_or s 0 0) (byte "$")) (opens s + name_size s + closes s) 0

unfoldable pub piece_name : Bytes → Bytes
piece_name s = cond (eqb (get_or s 0 0) (byte "$")) (take (name_size s) (drop (1 + opens s) s)) []

-- what stands for a piece: the value, or the piece as written
abbrev pub or_as_written : Option Bytes → Bytes → Bytes
or_as_written None raw = raw
or_as_written (Some v) raw = v

abbrev pub image : List Variable → Bytes → Bytes
image vs s = or_as_written (known vs (piece_name s)) (take (1 + piece_more s) s)

abbrev pub substitute : List Variable → Bytes → Bytes
substitute vs w = rewrite piece_more (image vs) 0 w

-- ---- "A quoted word drops a backslash and keeps the next byte (a backslash at the very end stays), then substitutes"

-- the body begins with a backslash that has a byte behind it: 1, else 0
unfoldable pub escape : Bytes → ℕ
escape [] = 0
escape (x ∷ []) = 0
escape (x ∷ y ∷ w) = cond (eqb x (byte "\\")) 1 0

abbrev pub escaped : Bytes → Bytes
escaped s = get_or s (escape s) 0 ∷ []

abbrev pub unescape : Bytes → Bytes
unescape w = rewrite escape escaped 0 w

-- ---- what a word comes to

abbrev pub value : List Variable → Word → Bytes
value vs (Word.braced b) = b
value vs (Word.quoted b) = substitute vs (unescape b)
value vs (Word.bracketed b) = b
value vs (Word.plain b) = substitute vs b

-- "result bytes of all quoted words and plain words with a `$`"
abbrev pub has_dollar : Bytes → Bool
has_dollar b = ltb (up_to (byte "$") b) (length b)

abbrev pub cost : List Variable → Word → ℕ
cost vs (Word.braced b) = 0
cost vs (Word.quoted b) = length (value vs (quoted b))
cost vs (Word.bracketed b) = 0
cost vs (Word.plain b) = cond (has_dollar b) (length (value vs (plain b))) 0

unfoldable pub costs : List Variable → List Word → ℕ
costs vs [] = 0
costs vs (w ∷ ws) = cost vs w + costs vs ws

abbrev pub values : List Variable → List Word → List Bytes
values vs ws = map (value vs) ws
