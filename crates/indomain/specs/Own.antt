-- Laws: a stored strategy's name and its own elements. Assumes nothing.
use Rattle.std.specs.Prelude.{ℕ, ◌+◌, ◌≤◌, max, ◌≡◌, Bool, ◌++◌, ltb, length}
use Rattle.std.proofs.Common.{arith, le_trans, sym, ap, ◌∙◌}
use Rattle.std.proofs.lemmas.List.{length-map}
use Rattle.text.specs.Ascii.{Bytes}
use Rattle.spans.specs.Span.{bytes}
use Rattle.spans.specs.Reach.{Held, held_by}
use Rattle.spans.specs.declared.span.Span.{Span}
use Rattle.tcl.specs.Lists.{list}
use Rattle.names.specs.Name.{name_of}
use Rattle.names.specs.Scoped.{scoped}
use Rattle.store.specs.Strings.{string, span_of}
use Rattle.store.specs.View.{isolation_of}
use Rattle.store.specs.declared.state.Isolation.{Isolation}
use Rattle.made.specs.Made.{reach_of}
use Rattle.clamps.specs.Values.{stored_name}
use Rattle.clamps.specs.Laws.{stored_is}
use Rattle.indomain.specs.Asked.{OfOwn}

pub name_is : (mem : Bytes) (x : Isolation) → name_of mem (stored_name x.name) ≡ (isolation_of mem x).name
unfolding isolation_of
name_is mem x = stored_is mem x.name

pub entries_are : (mem : Bytes) (x : Isolation) → length (isolation_of mem x).elements ≡ length (list (string mem x.elements))
unfolding isolation_of
entries_are mem x = length-map (list (string mem x.elements)) (scoped (string mem x.scope))

-- its strings are whole
fourth : (a b c d e : ℕ) → d ≤ max a (max b (max c (max d e)))
fourth a b c d e = omega arith

fifth : (a b c d e f : ℕ) → e ≤ max a (max b (max c (max d (max e f))))
fifth a b c d e f = omega arith

module _ (files area : Bytes) (x : Isolation) (o : OfOwn files area x) where
  pub scope_within : reach_of (length files) x.scope ≤ length (files ++ area)
  scope_within = le_trans (fourth _ _ _ (reach_of (length files) x.scope) _) o.strings

  pub elements_within : reach_of (length files) x.elements ≤ length (files ++ area)
  elements_within = le_trans (fifth _ _ _ _ (reach_of (length files) x.elements) _) o.strings

pub own_held : (files area : Bytes) (x : Isolation) → OfOwn files area x → Held (length files) (span_of x.elements)
own_held files area x o = held_by (length files) (length (files ++ area)) (span_of x.elements) o.small (elements_within files area x o)

-- whether it has any, as the code finds it
pub own_there : (files area : Bytes) (x : Isolation) → OfOwn files area x → (v : Span) → v ≡ span_of x.elements → (b : Bool) → (Held (length files) v → b ≡ ltb 0 (length (list (bytes (files ++ area) v)))) → b ≡ ltb 0 (length (isolation_of (files ++ area) x).elements)
own_there files area x o v ev b has = has (rw ev (own_held files area x o)) ∙ rw ev (ap (ltb 0) (sym (entries_are (files ++ area) x)))
