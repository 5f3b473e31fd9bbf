-- Arguments that are made: laws as the needs ask them. Assumes nothing.
use Rattle.std.specs.Prelude.{Option, Some, None}
use mathlib.Core.Bool.{Bool}
use mathlib.Core.Path.{◌≡◌, ◌∙◌}
use borrow.Author.Rules.{rules}
use Rattle.names.specs.declared.name.Name.{Name}
use Rattle.refs.specs.declared.Ref.{Ref}
use Rattle.format.specs.Args.{wrapped_arg, name_arg, hier_arg, fixed_arg}
use Rattle.format.specs.declared.arg.Arg.{Arg}
use Rattle.format.specs.declared.arg.Wrap.{Wrap}
use Rattle.texts.specs.declared.Literal.{Literal}
use Rattle.clamps.specs.Values.{active_literal}
use Rattle.portargs.specs.Args.{literal_arg}

pub wrapped_made : (k : Wrap) (r : Arg) (p q : Ref) → r ≡ wrapped_arg k p → p ≡ q → r ≡ wrapped_arg k q
wrapped_made k r p q e f = e ∙ rw f

pub name_made : (r : Arg) (n m : Name) → r ≡ name_arg n → n ≡ m → r ≡ name_arg m
name_made r n m e f = e ∙ rw f

pub hier_made : (r : Arg) (n m : Name) → r ≡ hier_arg n → n ≡ m → r ≡ hier_arg m
hier_made r n m e f = e ∙ rw f

pub active_made : (r : Arg) (n m : Bool) (l : Literal) → r ≡ fixed_arg (Wrap.Literal l) → l ≡ active_literal n → n ≡ m → r ≡ fixed_arg (Wrap.Literal (active_literal m))
active_made r n m l e f g = e ∙ rw (f, g)

pub ruleset made = (rules, wrapped_made, name_made, hier_made, active_made)

pub literal_none : (c : Option Literal) (r : Arg) → r ≡ fixed_arg Wrap.Plain → c ≡ None → r ≡ literal_arg c
literal_none c r e h = rw h e

pub literal_some : (c : Option Literal) (k : Literal) (r : Arg) → r ≡ fixed_arg (Wrap.Literal k) → c ≡ Some k → r ≡ literal_arg c
literal_some c k r e h = rw h e

pub ruleset literals = (rules, literal_none, literal_some)
