-- What reading the next command comes to, limits included (document 01, "Files and commands", and its reading limits). Assumes nothing.
use Rattle.std.specs.Prelude.{◌+◌, ℕ, List, [], ◌++◌, ◌∷◌, ◌&&◌, cond, leb, length}
use Rattle.tcl.specs.Words.{Word, plain, quoted}
use Rattle.text.specs.Ascii.{Bytes}
use Rattle.tcl.specs.Substitution.{Variable, costs, has_dollar, value, values}

-- "Reading: .. words in one, its name included, 128"
abbrev pub most_words : ℕ
most_words = 128

-- ---- "words are substituted": first the words as they are written

pub data Parted : Type 0 where
  -- no command is left; the next one has too many words
  nothing too_many : Parted
  -- the words of the next command, and the commands behind it
  parts : List Word → List (List Word) → Parted

unfoldable pub parted : List (List Word) → Parted
parted [] = nothing
parted (ws ∷ cs) = cond (leb (length ws) most_words) (parts ws cs) too_many

-- ---- then what they come to

-- "result bytes of all quoted words and plain words with a `$`": the bytes themselves
abbrev pub result : List Variable → Word → Bytes
result vs (Word.braced b) = []
result vs (Word.quoted b) = value vs (quoted b)
result vs (Word.bracketed b) = []
result vs (Word.plain b) = cond (has_dollar b) (value vs (plain b)) []

unfoldable pub results : List Variable → List Word → Bytes
results vs [] = []
results vs (w ∷ ws) = result vs w ++ results vs ws

pub data Outcome : Type 0 where
  -- no command is left; a reading limit is passed
  ended refused : Outcome
  -- the words of the next command, the commands behind it, and how many result bytes there are then
  read : List Bytes → List (List Word) → ℕ → Outcome

-- the next of these commands, where there have been o result bytes before it and there may be `limit`
unfoldable pub outcome : List Variable → ℕ → ℕ → List (List Word) → Outcome
outcome vs o limit [] = ended
outcome vs o limit (ws ∷ cs) =
    cond (leb (length ws) most_words && leb (o + costs vs ws) limit) (read (values vs ws) cs (o + costs vs ws)) refused

-- its words as they are written: none where there is no command
abbrev pub first_of : List (List Word) → List Word
first_of [] = []
first_of (ws ∷ cs) = ws
