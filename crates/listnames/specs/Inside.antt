-- Laws for all who read a stored value entry by entry: an entry is a stored string. Assumes nothing.
use Rattle.std.specs.Prelude.{Option, Some, None}
use Rattle.std.specs.Prelude.{ℕ, ◌+◌, ◌≤◌, ◌<◌, ◌^◌, ◌≡◌, Bool, List, length}
use Rattle.std.proofs.Common.{arith, sym, ap, ◌∙◌}
use Rattle.text.specs.Ascii.{Bytes}
use Rattle.spans.specs.Span.{◌⋯◌, bytes}
use Rattle.spans.specs.Frame.{inner, size_in}
use Rattle.spans.specs.declared.span.Span.{Span}
use Rattle.entries.specs.Entry.{entry_bytes}
use Rattle.entries.specs.View.{Finds}
use Rattle.entries.specs.declared.item.Item.{Item}
use Rattle.names.specs.Name.{entry_of}
use Rattle.names.specs.declared.name.Form.{Form}
use Rattle.listnames.specs.Lists.{form_of, form_is}

module _ (mem : Bytes) (v : Span) (text : Bytes) (is : text ≡ bytes mem v) (t : List Bytes) (r : Option Item) (f : Finds text t r) (s : Span) (q : Bool) (e : ℕ) (g : r ≡ Some (record { entry = s; quoted = q; next = e })) where
  ends_in : s.at + s.len ≤ v.len
  ends_in = let h : s.at + s.len ≤ length text = rw g at f.within in let k : length text ≤ v.len = rw is (size_in mem v) in omega arith

  pub inside_fits : v.at + v.len < 2 ^ 32 → v.at + s.at < 2 ^ 64
  inside_fits h = omega (arith, ends_in)

  pub inside_ends : v.at + s.at + s.len ≤ v.at + v.len
  inside_ends = omega (arith, ends_in)

  -- its bytes
  pub inside_is : (form : Form) → form ≡ form_of q → entry_of form (bytes mem ((v.at + s.at) ⋯ s.len)) ≡ entry_bytes q (bytes text s)
  inside_is form h =
      let y : bytes (bytes mem v) s ≡ bytes text s = ap (λ (b : Bytes). bytes b s) (sym is) in
      rw h (form_is q (bytes mem ((v.at + s.at) ⋯ s.len)) ∙ ap (entry_bytes q) (inner mem v s ends_in ∙ y))

  -- in any form that reads it so
  pub inside_formed : (form : Form) → entry_of form (bytes text s) ≡ entry_bytes q (bytes text s) → entry_of form (bytes mem ((v.at + s.at) ⋯ s.len)) ≡ entry_bytes q (bytes text s)
  inside_formed form h = ap (entry_of form) (inner mem v s ends_in ∙ ap (λ (b : Bytes). bytes b s) (sym is)) ∙ h
