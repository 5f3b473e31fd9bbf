-- An argument by its wrap, as its writer asks: o' is what the one call of a way left. Assumes nothing.
use Prim.Native.Nat.{ℕ}
use mathlib.Core.Path.{◌≡◌, ap}
use mathlib.Core.Bool.{false}
use mathlib.Core.List.{List}
use borrow.Author.Rules.{rules}
use Rattle.text.specs.Ascii.{Bytes, ascii}
use Rattle.out.specs.Emit.{Out, emit}
use Rattle.out.specs.Bytewise.{flat, dotted}
use Rattle.design.specs.Paths.{element_path}
use Rattle.texts.specs.Supplies.{unrooted}
use Rattle.texts.specs.declared.Literal.{Literal}
use Rattle.texts.specs.Literals.{literal}
use Rattle.refs.specs.Text.{text_of, as_dots}
use Rattle.refs.specs.declared.Ref.{Ref}
use Rattle.format.specs.Args.{rooted, arg_of, wrapped_arg}
use Rattle.format.specs.declared.arg.Arg.{Arg}
use Rattle.format.specs.declared.arg.Wrap.{Wrap}

pub made_arg : (w : Wrap) (r r' : Ref) → r ≡ r' → wrapped_arg w r ≡ wrapped_arg w r'
made_arg w r r' e = ap (wrapped_arg w) e

pub ruleset made = (rules, made_arg)

-- ---- literals

module _ (f : ℕ → Bytes) (o o' : Out) (k : Literal) where
  pub lit_bit_zero : o' ≡ emit o (flat f (ascii "1'b0")) → k ≡ Literal.BitZero → o' ≡ emit o (flat f (literal k))
  lit_bit_zero e h = rw h e

  pub lit_bit_one : o' ≡ emit o (flat f (ascii "1'b1")) → k ≡ Literal.BitOne → o' ≡ emit o (flat f (literal k))
  lit_bit_one e h = rw h e

  pub lit_zero : o' ≡ emit o (flat f (ascii "0")) → k ≡ Literal.Zero → o' ≡ emit o (flat f (literal k))
  lit_zero e h = rw h e

  pub lit_one : o' ≡ emit o (flat f (ascii "1")) → k ≡ Literal.One → o' ≡ emit o (flat f (literal k))
  lit_one e h = rw h e

  pub lit_z : o' ≡ emit o (flat f (ascii "z")) → k ≡ Literal.Z → o' ≡ emit o (flat f (literal k))
  lit_z e h = rw h e

  pub lit_high : o' ≡ emit o (flat f (ascii "high")) → k ≡ Literal.High → o' ≡ emit o (flat f (literal k))
  lit_high e h = rw h e

pub ruleset lits = (rules, lit_bit_zero, lit_bit_one, lit_zero, lit_one, lit_z, lit_high)

-- ---- wraps

module _ (f : ℕ → Bytes) (job mem : Bytes) (scope : List Bytes) (top : Bytes) (a : Arg) (o o' : Out) where
  pub wrap_plain : o' ≡ emit o (flat f (as_dots false (text_of job mem a.text))) → a.wrap ≡ Wrap.Plain → o' ≡ emit o (flat f (arg_of job mem scope top a))
  unfolding arg_of
  wrap_plain e h = rw h e

  pub wrap_hier : o' ≡ emit o (flat f (element_path scope (text_of job mem a.text))) → a.wrap ≡ Wrap.Hier → o' ≡ emit o (flat f (arg_of job mem scope top a))
  unfolding arg_of
  wrap_hier e h = rw h e

  pub wrap_rooted : o' ≡ emit o (flat f (rooted top scope (text_of job mem a.text))) → a.wrap ≡ Wrap.Rooted → o' ≡ emit o (flat f (arg_of job mem scope top a))
  unfolding arg_of
  wrap_rooted e h = rw h e

  pub wrap_dots : o' ≡ emit o (flat f (dotted (unrooted (rooted top scope (text_of job mem a.text))))) → a.wrap ≡ Wrap.Dots → o' ≡ emit o (flat f (arg_of job mem scope top a))
  unfolding arg_of
  wrap_dots e h = rw h e

  pub wrap_top : o' ≡ emit o (flat f (as_dots false top)) → a.wrap ≡ Wrap.Top → o' ≡ emit o (flat f (arg_of job mem scope top a))
  unfolding arg_of
  wrap_top e h = rw h e

  pub wrap_literal : (k : Literal) → o' ≡ emit o (flat f (literal k)) → a.wrap ≡ Wrap.Literal k → o' ≡ emit o (flat f (arg_of job mem scope top a))
  unfolding arg_of
  wrap_literal k e h = rw h e

pub ruleset wraps = (rules, wrap_plain, wrap_hier, wrap_rooted, wrap_dots, wrap_top, wrap_literal)
