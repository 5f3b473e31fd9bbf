-- Laws: the entries one after the other are the list. Assumes nothing.
use Rattle.std.specs.Prelude.{ℕ, zero, suc, ◌≡◌, refl, true, false}
use Rattle.std.proofs.Common.{sym, ap, ◌∙◌}
use mathlib.Core.List.{List, [], ◌∷◌, ◌++◌, append_assoc, append-nil}
use Rattle.text.specs.Ascii.{Bytes}
use Rattle.tcl.specs.Join.{join}
use Rattle.tcl.specs.Words.{Word, Kind, kind_of, size_of, words_of}
use Rattle.tcl.specs.Commands.{done, none_yet, done_by, kept_by, reading}
use Rattle.tcl.specs.Substitution.{values}
use Rattle.tcl.specs.Lists.{together, list}
use Rattle.entries.specs.Entry.{first_after, words_left, entries_left}

together_two : (a b : List (List Word)) → together (a ++ b) ≡ together a ++ together b
unfolding together
together_two [] b = refl
together_two (c ∷ a) b = rw (together_two a b, append_assoc)

together_done : (ws : List Word) → together (done ws) ≡ ws
unfolding together
together_done [] = refl
together_done (w ∷ ws) = rw append-nil

some_yet : (ws : List Word) (w : Word) → none_yet (ws ++ (w ∷ [])) ≡ false
some_yet [] w = refl
some_yet (v ∷ ws) w = refl

-- a byte of any kind, where the law holds of what stands behind it
module _ (xs : Bytes) (ih : (skip : ℕ) (ws : List Word) → together (reading skip ws xs) ≡ ws ++ words_left skip (none_yet ws) xs) (ws : List Word) (n : ℕ) where
  word_on : (w : Word) → together (reading n (ws ++ (w ∷ [])) xs) ≡ ws ++ (w ∷ words_left n false xs)
  word_on w = ih n (ws ++ (w ∷ [])) ∙ rw (some_yet ws w, append_assoc)

  kind_on : (k : Kind) (s : Bytes) → together (done_by k ws ++ reading n (kept_by k ws ++ words_of k s) xs) ≡ ws ++ (words_of k s ++ words_left n (first_after k (none_yet ws)) xs)
  unfolding together words_of first_after
  kind_on Kind.ends s = together_two (done ws) (reading n [] xs) ∙ rw (together_done ws, ih n [])
  kind_on Kind.blank s = rw append-nil (ih n ws)
  kind_on Kind.comment s = rw append-nil (ih n ws)
  kind_on Kind.brace s = word_on _
  kind_on Kind.quote s = word_on _
  kind_on Kind.bracket s = word_on _
  kind_on Kind.other s = word_on _

-- the words of all commands, in whatever state the reading is
pub together_is : (skip : ℕ) (ws : List Word) (xs : Bytes) → together (reading skip ws xs) ≡ ws ++ words_left skip (none_yet ws) xs
unfolding reading words_left
together_is zero ws [] = together_done ws ∙ sym (append-nil ws)
together_is (suc skip) ws [] = together_done ws ∙ sym (append-nil ws)
together_is zero ws (x ∷ xs) = kind_on xs (λ skip vs. together_is skip vs xs) ws (size_of (kind_of (none_yet ws) x) xs) (kind_of (none_yet ws) x) (x ∷ xs)
together_is (suc skip) ws (x ∷ xs) = together_is skip ws xs

values_two : (ws us : List Word) → values [] (ws ++ us) ≡ values [] ws ++ values [] us
values_two [] us = refl
values_two (w ∷ ws) us = rw (values_two ws us)

-- what is left of a value, `ws` being the words of the command at hand
pub reading_is : (ws : List Word) (v : Bytes) → values [] (together (reading 0 ws (join v))) ≡ values [] ws ++ entries_left (none_yet ws) v
reading_is ws v = ap (values []) (together_is 0 ws (join v)) ∙ values_two ws (words_left 0 (none_yet ws) (join v))

-- the list is what is left at its start, before a command's first word
pub list_is : (v : Bytes) → list v ≡ entries_left true v
list_is v = rw (together_is 0 [] (join v))
