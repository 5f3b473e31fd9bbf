-- The entries of a value, one after the other, and the bytes of an entry as it is written. Assumes nothing.
use Rattle.std.specs.Prelude.{ℕ, zero, suc, Bool, true, false, cond, List, [], ◌∷◌, ◌++◌}
use Rattle.text.specs.Ascii.{Bytes}
use Rattle.tcl.specs.Join.{join}
use Rattle.tcl.specs.Words.{Word, Kind, kind_of, size_of, words_of}
use Rattle.tcl.specs.Substitution.{unescape, values}

-- "`\` LF and `\` CR LF become a space first." "A quoted word drops a backslash and keeps the next byte (a backslash at the very end stays)"
-- what an entry comes to that stands so in the value, a quoted one between its quotes
abbrev pub entry_bytes : Bool → Bytes → Bytes
entry_bytes quoted raw = cond quoted (unescape (join raw)) (join raw)

-- whether no word of the command stands before what follows a byte of this kind; `first`: none stood before it
unfoldable pub first_after : Kind → Bool → Bool
first_after Kind.ends first = true
first_after Kind.blank first = first
first_after Kind.comment first = first
first_after Kind.brace first = false
first_after Kind.quote first = false
first_after Kind.bracket first = false
first_after Kind.other first = false

-- "its commands run together": the words of a joined text. The first `skip` bytes belong to a word or comment that is read already
unfoldable pub words_left : ℕ → Bool → Bytes → List Word
words_left skip first [] = []
words_left zero first (x ∷ xs) =
    words_of (kind_of first x) (x ∷ xs) ++ words_left (size_of (kind_of first x) xs) (first_after (kind_of first x) first) xs
words_left (suc skip) first (x ∷ xs) = words_left skip first xs

-- "A value used as a list is read again by these rules without variables": the entries of what is left of a value
abbrev pub entries_left : Bool → Bytes → List Bytes
entries_left first v = values [] (words_left 0 first (join v))
