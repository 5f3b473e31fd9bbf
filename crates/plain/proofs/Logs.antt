-- Laws: the three pieces that `puts` writes. Assumes nothing.
use Prim.Native.Nat.{ℕ}
use mathlib.Core.Path.{◌≡◌, sym, ap, ◌∙◌}
use mathlib.Core.Bool.{false}
use mathlib.Core.List.{List, ◌++◌}
use Rattle.text.specs.Ascii.{Bytes, ascii}
use Rattle.out.specs.Emit.{Out, emit, emit_append}
use Rattle.spans.specs.Span.{◌⋯◌, bytes}
use Rattle.spans.specs.declared.span.Span.{Span}
use Rattle.names.specs.declared.name.Form.TheVariants.{Word}
use Rattle.names.specs.Name.{named, name_of}
use Rattle.names.specs.declared.name.Name.{Name}
use Rattle.tcl.specs.Arguments.{last_positional}
use Rattle.args.specs.View.{words_from, Reads}
use Rattle.plain.specs.Puts.{saying}

alone_is : (mem : Bytes) (w : Span) (x : Name) → x ≡ named (0 ⋯ 0) false w Word → name_of mem x ≡ bytes mem w
unfolding name_of bytes
alone_is mem w x e = rw e

pub puts_said : (mem : Bytes) (words : List ℕ) (n : ℕ) (w : Span) → Reads mem words n (last_positional (words_from mem words n 1)) w → (x : Name) → x ≡ named (0 ⋯ 0) false w Word
    → (o : Out) → emit (emit (emit o (ascii "[UPF] ")) (name_of mem x)) (ascii "\n") ≡ emit o (saying (words_from mem words n 1))
puts_said mem words n w g x ex o =
    let p = ascii "[UPF] " in
    let q = last_positional (words_from mem words n 1) in
    ap (λ y. emit (emit (emit o p) y) (ascii "\n")) (alone_is mem w x ex ∙ g.is)
    ∙ sym (emit_append (emit o p) q (ascii "\n"))
    ∙ sym (emit_append o p (q ++ ascii "\n"))
