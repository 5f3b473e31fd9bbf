-- Worked examples. Assumes nothing.
use Rattle.std.specs.Prelude.{◌≡◌, refl, true, false, [], ◌∷◌}
use Rattle.text.specs.Ascii.{ascii}
use Rattle.text.specs.Scan.{before}
use Rattle.tcl.specs.Rewrite.{rewrite}
use Rattle.tcl.specs.Join.{joint_by, joined_by}
use Rattle.tcl.specs.Words.{span, depth, quote_state, kind_of, size_of, words_of}
use Rattle.tcl.specs.Substitution.{escape, known, lookup, piece_more, piece_name, opens_by, closes_by}
use Rattle.entries.specs.Entry.{entry_bytes, first_after, words_left, entries_left}

-- every kind of word; a line joined inside braces; two commands run together
all_kinds : entries_left true (ascii "# no\n a {b\\\nc {d}} \"e\\\"f\" [g h];# i\n j#k {l") ≡ ascii "a" ∷ ascii "b c {d}" ∷ ascii "e\"f" ∷ ascii "[g h]" ∷ ascii "j#k" ∷ ascii "l" ∷ []
unfolding before rewrite joint_by joined_by span depth quote_state kind_of size_of words_of escape known lookup piece_more piece_name opens_by closes_by first_after words_left
all_kinds = refl

-- behind a word `#` is a word
no_comment : entries_left false (ascii " # a") ≡ ascii "#" ∷ ascii "a" ∷ []
unfolding before rewrite joint_by joined_by span depth quote_state kind_of size_of words_of escape known lookup piece_more piece_name opens_by closes_by first_after words_left
no_comment = refl

-- a backslash is dropped in quotes only, and a line is joined in both
as_written_lem : entry_bytes false (ascii "a\\b\\\r\nc") ≡ ascii "a\\b c"
unfolding rewrite joint_by joined_by
as_written_lem = refl

in_quotes : entry_bytes true (ascii "a\\b\\\\\nc\\") ≡ ascii "ab c\\"
unfolding rewrite joint_by joined_by escape
in_quotes = refl

-- unclosed words take the rest
unclosed : entries_left true (ascii "[a b") ≡ ascii "[a b" ∷ []
unfolding before rewrite joint_by joined_by span depth quote_state kind_of size_of words_of escape known lookup piece_more piece_name opens_by closes_by first_after words_left
unclosed = refl

-- a joined line parts two entries; a `$` stays
parted : entries_left true (ascii "$a\\\nb") ≡ ascii "$a" ∷ ascii "b" ∷ []
unfolding before rewrite joint_by joined_by span depth quote_state kind_of size_of words_of escape known lookup piece_more piece_name opens_by closes_by first_after words_left
parted = refl
