-- Laws: a flag, and a value that may not be given. Assumes nothing.
use Rattle.std.specs.Prelude.{Option, Some, None}
use mathlib.Core.Path.{◌≡◌}
use mathlib.Core.Bool.{Bool, true, false}
use borrow.Author.Rules.{rules}
use Rattle.text.specs.Ascii.{ascii}
use Rattle.out.specs.Emit.{Out, emit}
use Rattle.store.specs.declared.stored.Stored.{Stored}
use Rattle.store.specs.declared.stored.Below.{Below}
use Rattle.dump.specs.Fields.{flag_text, stored_text, below_text, maybe_text, maybe_below_text}

module _ (o o' : Out) where
  pub flag_set : (b : Bool) → b ≡ true → o' ≡ emit o (ascii "1 ") → o' ≡ emit o (flag_text b)
  unfolding flag_text
  flag_set b e h = rw e h

  pub flag_clear : (b : Bool) → b ≡ false → o' ≡ emit o (ascii "0 ") → o' ≡ emit o (flag_text b)
  unfolding flag_text
  flag_clear b e h = rw e h

  pub maybe_not : (m : Option Stored) → m ≡ None → o' ≡ emit o (ascii "- ") → o' ≡ emit o (maybe_text m)
  unfolding maybe_text
  maybe_not m e h = rw e h

  pub maybe_given : (m : Option Stored) (s : Stored) → m ≡ Some s → o' ≡ emit o (stored_text s) → o' ≡ emit o (maybe_text m)
  unfolding maybe_text
  maybe_given m s e h = rw e h

  pub below_not : (m : Option Below) → m ≡ None → o' ≡ emit o (ascii "- ") → o' ≡ emit o (maybe_below_text m)
  unfolding maybe_below_text
  below_not m e h = rw e h

  pub below_given : (m : Option Below) (b : Below) → m ≡ Some b → o' ≡ emit o (below_text b) → o' ≡ emit o (maybe_below_text m)
  unfolding maybe_below_text
  below_given m b e h = rw e h

pub ruleset fields = (rules, flag_set, flag_clear, maybe_not, maybe_given, below_not, below_given)
