-- Stored strings as names: laws as the needs ask them. Assumes nothing.
use mathlib.Core.Path.{◌≡◌}
use mathlib.Core.List.{[]}
use borrow.Author.Rules.{rules}
use Rattle.text.specs.Ascii.{Bytes}
use Rattle.out.specs.Emit.{Out, emit}
use Rattle.out.specs.Fill.{fill}
use Rattle.names.specs.Name.{name_of}
use Rattle.names.specs.declared.name.Name.{Name}
use Rattle.store.specs.Strings.{string}
use Rattle.store.specs.declared.stored.Stored.{Stored}
use Rattle.clamps.specs.Values.{stored_name}
use Rattle.clamps.specs.Laws.{stored_is}

module _ (mem t : Bytes) (o o' : Out) where
  pub one_string : (s : Stored) (x : Name) → x ≡ stored_name s → o' ≡ emit o (name_of mem x) → o' ≡ emit o (string mem s)
  one_string s x e h = rw (e, stored_is mem s) at h

  pub fill_string : (s : Stored) (x : Name) → x ≡ stored_name s → o' ≡ emit o (fill t (name_of mem x) [] [] [] []) → o' ≡ emit o (fill t (string mem s) [] [] [] [])
  fill_string s x e h = rw (e, stored_is mem s) at h

  pub fill_strings : (s u : Stored) (x y : Name) → x ≡ stored_name s → y ≡ stored_name u → o' ≡ emit o (fill t (name_of mem x) (name_of mem y) [] [] []) → o' ≡ emit o (fill t (string mem s) (string mem u) [] [] [])
  fill_strings s u x y e f h = rw (e, f, stored_is mem s, stored_is mem u) at h

pub ruleset filled = (rules, one_string, fill_string, fill_strings)
