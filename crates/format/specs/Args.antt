-- The arguments of a template as byte strings. `scope` has the scope's instance names, `top` is the top's name. Assumes nothing.
use Rattle.std.specs.Prelude.{ℕ, Bool, cond, Option, Some, None, List, [], ◌∷◌, ◌++◌, eqb, get_or}
use Rattle.text.specs.Ascii.{Bytes, ascii, byte}
use Rattle.out.specs.Bytewise.{dotted}
use Rattle.out.specs.declared.bytewise.Mode.{Mode}
use Rattle.out.specs.Fill.{asked, arg}
use Rattle.out.specs.Items.{each}
use Rattle.names.specs.declared.name.Name.{Name}
use Rattle.design.specs.Paths.{element_path}
use Rattle.texts.specs.Setting.{slashed}
use Rattle.texts.specs.Supplies.{unrooted}
use Rattle.texts.specs.Literals.{literal}
use Rattle.refs.specs.Text.{text_of, as_dots, whole_ref, job_ref}
use Rattle.refs.specs.declared.Ref.{Ref}
use Rattle.format.specs.declared.arg.Arg.{Arg}
use Rattle.format.specs.declared.arg.Wrap.{Wrap}

-- each name with a byte before it, and dots where they are wanted
abbrev pub led : ℕ → Bool → List Bytes → Bytes
led sep dots ns = each (λ (n : Bytes). sep ∷ as_dots dots n) ns

-- a name below the scope as a path from the top on, with slashes: what stands behind the top, and all of it
abbrev pub behind_top : List Bytes → Bytes → Bytes
behind_top scope rel = each (λ (n : Bytes). ascii "/" ++ n) scope ++ slashed rel

abbrev pub rooted : Bytes → List Bytes → Bytes → Bytes
rooted top scope rel = ascii "/" ++ (top ++ behind_top scope rel)

-- by its wrap
abbrev pub wrap_of : List Bytes → Bytes → Wrap → Bytes → Bytes
wrap_of scope top Wrap.Plain t = t
wrap_of scope top Wrap.Hier t = element_path scope t
wrap_of scope top Wrap.Rooted t = rooted top scope t
wrap_of scope top Wrap.Dots t = dotted (unrooted (rooted top scope t))
wrap_of scope top Wrap.Top t = top
wrap_of scope top (Wrap.Literal k) t = literal k

unfoldable pub arg_of : Bytes → Bytes → List Bytes → Bytes → Arg → Bytes
arg_of job mem scope top a = wrap_of scope top a.wrap (text_of job mem a.text)

-- what the letters of a template stand for
abbrev pub letters : Bytes → Bytes → List Bytes → Bytes → Arg → Arg → Arg → Arg → Arg → ℕ → Bytes
letters job mem scope top a b c d e =
    arg (arg_of job mem scope top a) (arg_of job mem scope top b) (arg_of job mem scope top c) (arg_of job mem scope top d) (arg_of job mem scope top e)

-- what the mark at the head of a text asks for: how its argument is written, and that argument's number
unfoldable pub mark_asks : Bytes → Option (Mode × ℕ)
mark_asks [] = None
mark_asks (x ∷ s) = cond (eqb x (byte "}")) None (cond (eqb (get_or s 0 0) (byte "{")) None (asked (get_or s 0 0)))

-- ---- arguments that are made

abbrev pub wrapped_arg : Wrap → Ref → Arg
wrapped_arg wrap r = record { wrap = wrap; text = r }

abbrev pub name_arg : Name → Arg
name_arg n = wrapped_arg Wrap.Plain (whole_ref n)

abbrev pub hier_arg : Name → Arg
hier_arg n = wrapped_arg Wrap.Hier (whole_ref n)

abbrev pub fixed_arg : Wrap → Arg
fixed_arg wrap = wrapped_arg wrap (job_ref 0 0)
