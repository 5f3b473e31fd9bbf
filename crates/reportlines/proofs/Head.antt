-- The line of the scope: laws as the needs ask them. Assumes nothing.
use Prim.Native.Nat.{ℕ}
use mathlib.Core.Path.{◌≡◌, ap, ◌∙◌}
use mathlib.Core.List.{List, []}
use lib.ListN.{take, drop}
use Rattle.text.specs.Ascii.{Bytes, ascii}
use Rattle.out.specs.Emit.{Out, emit, ◌⊕◌, emit-⊕}
use Rattle.out.specs.Fill.{fill, turns, arg, pick, writes, format2, format4, emit_fill}
use Rattle.refs.specs.Text.{job_ref}
use Rattle.refs.specs.Laws.{job_is}
use Rattle.refs.specs.declared.Ref.{Ref}
use Rattle.format.specs.declared.arg.Wrap.{Wrap}
use Rattle.format.specs.Args.{rooted, arg_of, wrapped_arg}
use Rattle.format.specs.Laws.{plain_arg, rooted_arg}
use Rattle.format.specs.declared.arg.Arg.{Arg}

module _ (job mem : Bytes) (scope : List Bytes) (top : Bytes) where
  path_arg : arg_of job mem scope top (wrapped_arg Wrap.Rooted (job_ref 0 0)) ≡ rooted top scope []
  path_arg = rooted_arg job mem scope top (job_ref 0 0) ∙ ap (rooted top scope) (job_is job mem 0 0)

  part_arg : (at len : ℕ) → arg_of job mem scope top (wrapped_arg Wrap.Plain (job_ref at len)) ≡ take len (drop at job)
  part_arg at len = plain_arg job mem scope top (job_ref at len) ∙ job_is job mem at len

  pub head_is : (t : Bytes) (at len : ℕ) (o o' : Out) (x y : Arg) (p q : Ref) → o' ≡ emit o (fill t (arg_of job mem scope top x) (arg_of job mem scope top y) [] [] []) → x ≡ wrapped_arg Wrap.Rooted p → p ≡ job_ref 0 0 → y ≡ wrapped_arg Wrap.Plain q → q ≡ job_ref at len → o' ≡ emit o (fill t (rooted top scope []) (take len (drop at job)) [] [] [])
  head_is t at len o o' x y p q h ex ep ey eq = rw (ex, ep, ey, eq, path_arg, part_arg at len) at h

pub scope_pieces : (o : Out) (path name number nets : Bytes) → emit o (format2 "scope {0} ({1}), " path name ⊕ number ⊕ ascii " supply nets: " ⊕ nets ⊕ ascii "\n") ≡ emit o (format4 "scope {0} ({1}), {2} supply nets: {3}\n" path name number nets)
unfolding emit writes turns arg pick
scope_pieces o path name number nets = simp (emit-⊕, emit_fill)
