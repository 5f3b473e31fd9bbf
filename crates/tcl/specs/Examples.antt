-- The starred cases of "Marked runs" that are of this layer, and others: each is computed from the definitions. Assumes nothing.
use Rattle.std.specs.Prelude.{◌≡◌, refl, false, List, [], ◌∷◌, map, Some}
use Prim.Native.String.{String}
use Rattle.text.specs.Ascii.{Bytes, ascii}
use Rattle.text.specs.Compare.{same}
use Rattle.text.specs.Scan.{before}
use Rattle.tcl.specs.Rewrite.{rewrite}
use Rattle.tcl.specs.Join.{joint_by, joined_by, join}
use Rattle.tcl.specs.Words.{span, depth, quote_state, kind_of, size_of, words_of}
use Rattle.tcl.specs.Commands.{reading, commands}
use Rattle.tcl.specs.Substitution.{Variable, lookup, known, opens_by, closes_by, piece_more, piece_name, escape, values}
use Rattle.tcl.specs.Lists.{together, list}
use Rattle.tcl.specs.Arguments.{is_option, role_of, positionals_from, positionals, option_from, option_of, has_flag_from, has_flag, name_of, states_from, states}

-- the commands of a text with these variables: this one name opens all the definitions that it needs
unfoldable pub read : List Variable → String → List (List Bytes)
unfolding same before rewrite joint_by joined_by span depth quote_state kind_of size_of words_of reading lookup known opens_by closes_by piece_more piece_name escape
read vs s = map (values vs) (commands (join (ascii s)))

unfoldable pub entries : String → List Bytes
unfolding same before rewrite joint_by joined_by span depth quote_state kind_of size_of words_of reading lookup known opens_by closes_by piece_more piece_name escape together
entries s = list (ascii s)

-- * `{a}b`: words `a`, `b`
braced_then_plain : read [] "{a}b" ≡ (ascii "a" ∷ ascii "b" ∷ []) ∷ []
unfolding read
braced_then_plain = refl

-- * `{a` at the end: word `a`
unclosed : read [] "{a" ≡ (ascii "a" ∷ []) ∷ []
unfolding read
unclosed = refl

-- * `$` alone stays `$`
dollar : read [] "$" ≡ (ascii "$" ∷ []) ∷ []
unfolding read
dollar = refl

-- * `#` after a first word is a word
hash : read [] "a # b" ≡ (ascii "a" ∷ ascii "#" ∷ ascii "b" ∷ []) ∷ []
unfolding read
hash = refl

-- * `x -5 -k -6`: positional `x`, `-5`; `k` is `-6`
minus : (positionals (ascii "x" ∷ ascii "-5" ∷ ascii "-k" ∷ ascii "-6" ∷ []) ≡ ascii "x" ∷ ascii "-5" ∷ [])
    × (option_of (ascii "-k") (ascii "x" ∷ ascii "-5" ∷ ascii "-k" ∷ ascii "-6" ∷ []) ≡ Some (ascii "-6"))
unfolding positionals_from option_from role_of is_option same
minus = (refl, refl)

-- * `-off_state -on_state`: the second is a value
state_value : states (ascii "-on_state") (ascii "-off_state") (ascii "-off_state" ∷ ascii "-on_state" ∷ [])
    ≡ record { one = false; value = ascii "-on_state" } ∷ []
unfolding states_from same
state_value = refl

-- * `-include_scope PD`: `PD` is a value and the name is empty
swallowed : (option_of (ascii "-include_scope") (ascii "-include_scope" ∷ ascii "PD" ∷ []) ≡ Some (ascii "PD"))
    × ((name_of (ascii "-include_scope" ∷ ascii "PD" ∷ []) ≡ []) × (has_flag (ascii "-include_scope") (ascii "-include_scope" ∷ ascii "PD" ∷ []) ≡ false))
unfolding positionals_from option_from has_flag_from role_of is_option same
swallowed = (refl, (refl, refl))

-- the commands after the first are read too; a comment ends at LF, a command at LF or `;`
several : read [] "# c\na {b c};d \"e\\\"f\" [g h]\n\n i" ≡
    (ascii "a" ∷ ascii "b c" ∷ []) ∷ (ascii "d" ∷ ascii "e\"f" ∷ ascii "[g h]" ∷ []) ∷ (ascii "i" ∷ []) ∷ []
unfolding read
several = refl

-- the last value wins; `${W` unclosed is replaced too; braces keep `$`; an unknown name stays
substituted : read (record { name = ascii "W"; value = ascii "3" } ∷ record { name = ascii "W"; value = ascii "4" } ∷ []) "x$W ${W}y \"${W\" {$W} $V" ≡
    (ascii "x4" ∷ ascii "4y" ∷ ascii "4" ∷ ascii "$W" ∷ ascii "$V" ∷ []) ∷ []
unfolding read
substituted = refl

-- a value read as a list joins lines and honours comments again
listed : entries "# u1\n s {a b}; \"c\\\nd\"" ≡ ascii "s" ∷ ascii "a b" ∷ ascii "c d" ∷ []
unfolding entries
listed = refl
