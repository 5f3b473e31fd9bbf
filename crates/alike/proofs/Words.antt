-- Loops over what is left of two words, with `/` as `.`; names that are words: laws as the needs ask them. Assumes nothing.
use mathlib.Core.Path.{◌≡◌, sym, ◌∙◌}
use mathlib.Core.Bool.{Bool, true, ◌&&◌}
use borrow.Author.Rules.{rules}
use Rattle.text.specs.Ascii.{Bytes}
use Rattle.text.specs.Compare.{same}
use Rattle.text.specs.Sames.{both}
use Rattle.out.specs.Bytewise.{dotted}
use Rattle.spans.specs.Span.{bytes}
use Rattle.names.specs.Name.{name_of, is_word}
use Rattle.names.specs.Laws.{word_is}
use Rattle.names.specs.declared.name.Name.{Name}

-- ---- names that are words

module _ (mem : Bytes) where
  pub words_same : (a b : Name) (p q r : Bool) → p ≡ is_word a → q ≡ is_word b → p && q ≡ true → r ≡ same (dotted (bytes mem a.word)) (dotted (bytes mem b.word)) → r ≡ same (dotted (name_of mem a)) (dotted (name_of mem b))
  words_same a b p q r e f h g =
      let t = both p q h in
      g ∙ sym (rw (word_is mem a (sym e ∙ t.0), word_is mem b (sym f ∙ t.1)))

pub ruleset words = (rules, words_same)
