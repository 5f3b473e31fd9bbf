-- What a call answered is what the way taken says of it. Assumes nothing.
use Rattle.std.specs.Prelude.{Some, None, Result}
use Rattle.substitution.specs.declared.put.Full.{Full}
use Rattle.commands.specs.declared.next.Words.{Words}
use Prim.Native.Nat.{ℕ}
use mathlib.Core.Path.{◌≡◌, subst, ap, ◌∙◌}
use mathlib.Core.Bool.{Bool, true, false}
use mathlib.Core.List.{List}
use Rattle.std.specs.Prelude.{Option}
use Rattle.text.specs.Ascii.{Bytes}
use Rattle.tcl.specs.Substitution.{Variable}
use Rattle.spans.specs.Span.{◌⋯◌}
use Rattle.spans.specs.declared.span.Span.{Span}
use Rattle.commands.specs.Stored.{NextOf}
use Rattle.entries.specs.declared.item.Item.{Item}
use Rattle.entries.specs.View.{Finds as Item-as-Finds, next_of}
use Rattle.args.specs.View.{Finds}

module _ (files t : Bytes) (at : ℕ) (vs : List Variable) (l₀ l : List ℕ) (o limit : ℕ) (k₀ k : List ℕ) (p : Result (Option Words) Full) (e : NextOf files t at vs l₀ l o limit k₀ k p) where
  pub next_told : (r : Result (Option Words) Full) → p ≡ r → NextOf files t at vs l₀ l o limit k₀ k r
  next_told r h = subst (λ (r : Result (Option Words) Full). NextOf files t at vs l₀ l o limit k₀ k r) h e

module _ (v : Bytes) (t : List Bytes) (p : Option Item) (e : Item-as-Finds v t p) where
  pub item_none : p ≡ None → Item-as-Finds v t None
  item_none h = subst (λ (r : Option Item). Item-as-Finds v t r) h e

  pub item_plain : (x : Item) → p ≡ Some x → x.quoted ≡ false → Item-as-Finds v t (Some (record { entry = (x.entry.at ⋯ x.entry.len); quoted = false; next = x.next }))
  item_plain x h g = subst (λ (r : Option Item). Item-as-Finds v t r) (h ∙ ap (λ (b : Bool). Some (record { entry = x.entry; quoted = b; next = x.next })) g) e

  pub item_quoted : (x : Item) → p ≡ Some x → x.quoted ≡ true → Item-as-Finds v t (Some (record { entry = (x.entry.at ⋯ x.entry.len); quoted = true; next = x.next }))
  item_quoted x h g = subst (λ (r : Option Item). Item-as-Finds v t r) (h ∙ ap (λ (b : Bool). Some (record { entry = x.entry; quoted = b; next = x.next })) g) e

module _ (mem : Bytes) (words : List ℕ) (n : ℕ) (t : Option Bytes) (p : Option Span) (e : Finds mem words n t p) where
  pub found_none : p ≡ None → Finds mem words n t None
  found_none h = subst (λ (r : Option Span). Finds mem words n t r) h e

  pub found_at : (s : Span) → p ≡ Some s → Finds mem words n t (Some (s.at ⋯ s.len))
  found_at s h = subst (λ (r : Option Span). Finds mem words n t r) h e

pub read_told : (w : Bytes) (q : Bool) (raw : Bytes) (p r : Option (ℕ × ℕ)) → w ≡ next_of q raw p → p ≡ r → w ≡ next_of q raw r
read_told w q raw p r e h = e ∙ ap (next_of q raw) h
