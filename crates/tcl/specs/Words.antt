-- The words of a joined text, as they are written (document 01, "Files and commands"). Assumes nothing.
use Rattle.std.specs.Prelude.{ℕ, suc, ◌+◌, ◌-◌, Bool, cond, ◌&&◌, ◌||◌, List, [], ◌∷◌, eqb, take, drop}
use Rattle.text.specs.Ascii.{Bytes, byte}
use Rattle.text.specs.Classes.{is_space, ends_plain}
use Rattle.text.specs.Scan.{before, up_to}

-- a word as it is written: a braced or quoted one without its marks, a bracketed one with them; a quoted one still has its backslashes
pub data Word : Type 0 where
  braced quoted bracketed plain : Bytes → Word

-- ---- how far a word goes

-- a machine whose state is a number and that stops at 0: how many bytes it passes before the one that stops it, all of them where none does
unfoldable pub span : (ℕ → ℕ → ℕ) → ℕ → Bytes → ℕ
span next d [] = 0
span next d (x ∷ xs) = cond (eqb (next d x) 0) 0 (suc (span next (next d x) xs))

-- how deep a nest is behind the byte x, where it was d deep before: "nested braces counted"
unfoldable pub depth : ℕ → ℕ → ℕ → ℕ → ℕ
depth op cl d x = cond (eqb x op) (d + 1) (cond (eqb x cl) (d - 1) d)

-- how many bytes stand before the one that closes a nest: "unclosed takes the rest"
abbrev pub inside : ℕ → ℕ → Bytes → ℕ
inside op cl t = span (depth op cl) 1 t

-- behind `"`: 1, or 2 behind a backslash; 0 where it is closed
unfoldable pub quote_state : ℕ → ℕ → ℕ
quote_state d x = cond (eqb d 2) 1 (cond (eqb x (byte "\"")) 0 (cond (eqb x (byte "\\")) 2 1))

abbrev pub quote_size : Bytes → ℕ
quote_size t = span quote_state 1 t

-- ---- what begins with a byte

pub data Kind : Type 0 where
  -- "A command ends at LF or `;`."
  ends : Kind
  -- "white space (bytes 9 to 13 and 32)"
  blank : Kind
  -- "`#` begins a comment only before the first word, up to LF."
  comment : Kind
  -- a braced, a quoted, a bracketed word; "any other word"
  brace quote bracket other : Kind

-- `first`: no word of the command stands before it
unfoldable pub kind_of : Bool → ℕ → Kind
kind_of first x =
    cond (eqb x (byte "\n") || eqb x (byte ";")) ends
    (cond (is_space x) blank
    (cond (eqb x (byte "#") && first) comment
    (cond (eqb x (byte "{")) brace
    (cond (eqb x (byte "\"")) quote
    (cond (eqb x (byte "[")) bracket other)))))

-- how many bytes it has besides its first, t being what stands behind that. An unclosed word counts the byte that would close it
unfoldable pub size_of : Kind → Bytes → ℕ
size_of Kind.ends t = 0
size_of Kind.blank t = 0
size_of Kind.comment t = up_to (byte "\n") t
size_of Kind.brace t = inside (byte "{") (byte "}") t + 1
size_of Kind.quote t = quote_size t + 1
size_of Kind.bracket t = inside (byte "[") (byte "]") t + 1
size_of Kind.other t = before ends_plain t

-- the word that it is, s beginning with it: none of a command's end, white space or a comment
unfoldable pub words_of : Kind → Bytes → List Word
words_of Kind.ends s = []
words_of Kind.blank s = []
words_of Kind.comment s = []
words_of Kind.brace s = braced (take (inside (byte "{") (byte "}") (drop 1 s)) (drop 1 s)) ∷ []
words_of Kind.quote s = quoted (take (quote_size (drop 1 s)) (drop 1 s)) ∷ []
words_of Kind.bracket s = bracketed (take (inside (byte "[") (byte "]") (drop 1 s) + 2) s) ∷ []
words_of Kind.other s = plain (take (before ends_plain s) s) ∷ []
