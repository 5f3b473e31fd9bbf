-- Laws for all who keep names: what is read when the area grows, and the name of a word or an entry alone. Assumes nothing.
use Rattle.std.specs.Prelude.{ℕ, ◌+◌, ◌≤◌, ◌≡◌, refl, true, false, ◌++◌, take}
use Rattle.std.proofs.Common.{arith}
use Rattle.text.specs.Ascii.{Bytes}
use Rattle.spans.specs.Span.{◌⋯◌, bytes}
use Rattle.spans.specs.Frame.{bytes_same}
use Rattle.spans.specs.declared.span.Span.{Span}
use Rattle.names.specs.Name.{named, entry_of, slash, name_of, name_end}
use Rattle.names.specs.declared.name.Name.{Name}
use Rattle.names.specs.declared.name.Form.{Form}

-- what ends by n is read the same where the first n bytes are the same
pub name_same : (n : ℕ) (mem mem' : Bytes) (x : Name) → name_end x ≤ n → take n mem' ≡ take n mem → name_of mem' x ≡ name_of mem x
unfolding name_of
name_same n mem mem' x h e =
    let a : x.scope.at + x.scope.len ≤ n = omega arith in
    let b : x.word.at + x.word.len ≤ n = omega arith in
    rw (bytes_same n mem mem' x.scope a e, bytes_same n mem mem' x.word b e)

-- a word or an entry alone
pub alone_is : (mem : Bytes) (w : Span) (form : Form) → name_of mem (named (0 ⋯ 0) false w form) ≡ entry_of form (bytes mem w)
unfolding name_of bytes
alone_is mem w form = refl

-- a word below a scope
pub under_is : (mem : Bytes) (s w : Span) (form : Form) → name_of mem (named s true w form) ≡ bytes mem s ++ (slash true ++ entry_of form (bytes mem w))
unfolding name_of
under_is mem s w form = refl
