-- The commands of a joined text: each a list of words as they are written. Assumes nothing.
use Rattle.std.specs.Prelude.{ℕ, zero, suc, Bool, true, false, List, [], ◌∷◌, ◌++◌}
use Rattle.text.specs.Ascii.{Bytes}
use Rattle.tcl.specs.Words.{Word, Kind, kind_of, size_of, words_of}

-- the command that is done: none where it has no word
abbrev pub done : List Word → List (List Word)
done [] = []
done (w ∷ ws) = (w ∷ ws) ∷ []

abbrev pub none_yet : List Word → Bool
none_yet [] = true
none_yet (w ∷ ws) = false

-- the commands that a byte of this kind ends, and the words of the command that is then at hand
abbrev pub done_by : Kind → List Word → List (List Word)
done_by Kind.ends ws = done ws
done_by Kind.blank ws = []
done_by Kind.comment ws = []
done_by Kind.brace ws = []
done_by Kind.quote ws = []
done_by Kind.bracket ws = []
done_by Kind.other ws = []

abbrev pub kept_by : Kind → List Word → List Word
kept_by Kind.ends ws = []
kept_by Kind.blank ws = ws
kept_by Kind.comment ws = ws
kept_by Kind.brace ws = ws
kept_by Kind.quote ws = ws
kept_by Kind.bracket ws = ws
kept_by Kind.other ws = ws

-- the commands of a text, `ws` being the words of the command at hand. The first `skip` bytes belong to a word or comment that is read already
unfoldable pub reading : ℕ → List Word → Bytes → List (List Word)
reading skip ws [] = done ws
reading zero ws (x ∷ xs) =
    done_by (kind_of (none_yet ws) x) ws
    ++ reading (size_of (kind_of (none_yet ws) x) xs) (kept_by (kind_of (none_yet ws) x) ws ++ words_of (kind_of (none_yet ws) x) (x ∷ xs)) xs
reading (suc skip) ws (x ∷ xs) = reading skip ws xs

abbrev pub commands : Bytes → List (List Word)
commands t = reading 0 [] t
