-- A template filled with arguments that are names: laws as the needs ask them. Assumes nothing.
use mathlib.Core.Path.{◌≡◌}
use mathlib.Core.List.{List, []}
use borrow.Author.Rules.{rules}
use Rattle.text.specs.Ascii.{Bytes}
use Rattle.out.specs.Emit.{Out, emit}
use Rattle.out.specs.Fill.{fill}
use Rattle.names.specs.Name.{name_of}
use Rattle.names.specs.declared.name.Name.{Name}
use Rattle.format.specs.Args.{arg_of, name_arg}
use Rattle.format.specs.Laws.{name_arg_lem}
use Rattle.format.specs.declared.arg.Arg.{Arg}

module _ (job mem : Bytes) (scope : List Bytes) (top t : Bytes) (o o' : Out) where
  pub one_name : (a : Name) (x : Arg) → x ≡ name_arg a → o' ≡ emit o (fill t (arg_of job mem scope top x) [] [] [] []) → o' ≡ emit o (fill t (name_of mem a) [] [] [] [])
  one_name a x e h = rw (e, name_arg_lem job mem scope top a) at h

  pub two_names : (a b : Name) (x y : Arg) → x ≡ name_arg a → y ≡ name_arg b → o' ≡ emit o (fill t (arg_of job mem scope top x) (arg_of job mem scope top y) [] [] []) → o' ≡ emit o (fill t (name_of mem a) (name_of mem b) [] [] [])
  two_names a b x y e f h = rw (e, f, name_arg_lem job mem scope top a, name_arg_lem job mem scope top b) at h

  pub three_names : (a b c : Name) (x y z : Arg) → x ≡ name_arg a → y ≡ name_arg b → z ≡ name_arg c → o' ≡ emit o (fill t (arg_of job mem scope top x) (arg_of job mem scope top y) (arg_of job mem scope top z) [] []) → o' ≡ emit o (fill t (name_of mem a) (name_of mem b) (name_of mem c) [] [])
  three_names a b c x y z e f g h = rw (e, f, g, name_arg_lem job mem scope top a, name_arg_lem job mem scope top b, name_arg_lem job mem scope top c) at h

pub ruleset filled = (rules, one_name, two_names, three_names)
