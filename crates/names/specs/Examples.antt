-- Worked examples. Assumes nothing.
use Rattle.std.specs.Prelude.{◌≡◌, refl, true, false, [], ◌∷◌, None, Some}
use Rattle.text.specs.Ascii.{ascii}
use Rattle.text.specs.Compare.{same}
use Rattle.text.specs.Scan.{split_at}
use Rattle.spans.specs.Span.{◌⋯◌, bytes}
use Rattle.tcl.specs.Rewrite.{rewrite}
use Rattle.tcl.specs.Join.{joint_by, joined_by}
use Rattle.tcl.specs.Substitution.{escape}
use Rattle.names.specs.Scoped.{scoped}
use Rattle.names.specs.Name.{named, name_of}
use Rattle.names.specs.declared.name.Form.TheVariants.{Word, Entry, Quoted}
use Rattle.names.specs.Parts.{parts, behind, unslashed}

-- an entry in quotes below a scope
in_scope_lem : name_of (ascii "top/u1 x\\y") (named (0 ⋯ 6) true (7 ⋯ 3) Quoted) ≡ ascii "top/u1/xy"
unfolding name_of bytes rewrite joint_by joined_by escape
in_scope_lem = refl

-- an entry whose lines are joined, and the same word as it stands
joined : name_of (ascii "a\\\nb") (named (0 ⋯ 0) false (0 ⋯ 4) Entry) ≡ ascii "a b"
unfolding name_of bytes rewrite joint_by joined_by
joined = refl

as_it_stands : name_of (ascii "a\\\nb") (named (0 ⋯ 0) false (0 ⋯ 4) Word) ≡ ascii "a\\\nb"
unfolding name_of bytes
as_it_stands = refl

dot : scoped (ascii "top") (ascii ".") ≡ ascii "top"
unfolding scoped same
dot = refl

at_root : scoped [] (ascii "u1") ≡ ascii "u1"
unfolding scoped same
at_root = refl

-- the parts of a name, one after the other, the empty ones too
down : behind (ascii "u1") (parts (ascii "u1//x")) ≡ Some ([] ∷ ascii "x" ∷ [])
unfolding split_at same
down = refl

other : behind (ascii "u") (parts (ascii "u1//x")) ≡ None
unfolding split_at same
other = refl

no_slash : unslashed (ascii "//x/y") ≡ ascii "x/y"
unfolding unslashed
no_slash = refl
