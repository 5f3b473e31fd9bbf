-- Laws: what the arguments that are made stand for. Assumes nothing.
use Rattle.std.specs.Prelude.{◌≡◌, List, []}
use Rattle.std.proofs.Math.Path.{refl}
use Rattle.std.proofs.Common.{ap, ◌∙◌}
use Rattle.text.specs.Ascii.{Bytes}
use Rattle.out.specs.Bytewise.{dotted}
use Rattle.names.specs.Name.{name_of}
use Rattle.names.specs.declared.name.Name.{Name}
use Rattle.design.specs.Paths.{element_path}
use Rattle.texts.specs.Supplies.{unrooted}
use Rattle.refs.specs.Text.{text_of, whole_ref}
use Rattle.refs.specs.Laws.{whole_is, job_is}
use Rattle.refs.specs.declared.Ref.{Ref}
use Rattle.format.specs.declared.arg.Wrap.{Wrap}
use Rattle.format.specs.Args.{rooted, arg_of, wrapped_arg, name_arg, hier_arg, fixed_arg}

module _ (job mem : Bytes) (scope : List Bytes) (top : Bytes) where
  pub plain_arg : (r : Ref) → arg_of job mem scope top (wrapped_arg Wrap.Plain r) ≡ text_of job mem r
  unfolding arg_of
  plain_arg r = refl

  pub below_arg : (r : Ref) → arg_of job mem scope top (wrapped_arg Wrap.Hier r) ≡ element_path scope (text_of job mem r)
  unfolding arg_of
  below_arg r = refl

  pub rooted_arg : (r : Ref) → arg_of job mem scope top (wrapped_arg Wrap.Rooted r) ≡ rooted top scope (text_of job mem r)
  unfolding arg_of
  rooted_arg r = refl

  pub dots_arg : (r : Ref) → arg_of job mem scope top (wrapped_arg Wrap.Dots r) ≡ dotted (unrooted (rooted top scope (text_of job mem r)))
  unfolding arg_of
  dots_arg r = refl

  pub top_arg : (r : Ref) → arg_of job mem scope top (wrapped_arg Wrap.Top r) ≡ top
  unfolding arg_of
  top_arg r = refl

  -- of a stored name
  pub name_arg_lem : (n : Name) → arg_of job mem scope top (name_arg n) ≡ name_of mem n
  name_arg_lem n = plain_arg (whole_ref n) ∙ whole_is job mem n

  pub hier_arg_lem : (n : Name) → arg_of job mem scope top (hier_arg n) ≡ element_path scope (name_of mem n)
  hier_arg_lem n = below_arg (whole_ref n) ∙ ap (element_path scope) (whole_is job mem n)

  pub rooted_name : (n : Name) → arg_of job mem scope top (wrapped_arg Wrap.Rooted (whole_ref n)) ≡ rooted top scope (name_of mem n)
  rooted_name n = rooted_arg (whole_ref n) ∙ ap (rooted top scope) (whole_is job mem n)

  pub dots_name : (n : Name) → arg_of job mem scope top (wrapped_arg Wrap.Dots (whole_ref n)) ≡ dotted (unrooted (rooted top scope (name_of mem n)))
  dots_name n = dots_arg (whole_ref n) ∙ ap (λ (t : Bytes). dotted (unrooted (rooted top scope t))) (whole_is job mem n)

  pub empty_arg : arg_of job mem scope top (fixed_arg Wrap.Plain) ≡ []
  unfolding arg_of
  empty_arg = job_is job mem 0 0
