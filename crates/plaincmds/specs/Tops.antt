-- set_design_top: what it does. Assumes nothing.
use Rattle.std.specs.Prelude.{Option, None}
use Rattle.std.specs.Prelude.{ℕ, ◌≡◌, true, false, List, [], ◌∷◌, length, Some}
use Rattle.std.proofs.Common.{arith, sym, ap, ◌∙◌}
use Rattle.std.proofs.Math.Path.{refl}
use Rattle.text.specs.Ascii.{Bytes}
use Rattle.text.specs.Compare.{same}
use Rattle.text.specs.Sames.{differ}
use Rattle.spans.specs.Span.{bytes}
use Rattle.spans.specs.Reach.{reach, none_reach}
use Rattle.spans.specs.declared.span.Span.{Span}
use Rattle.tcl.specs.Arguments.{name_of}
use Rattle.args.specs.View.{words_from, Reads}
use Rattle.model.specs.Records.{Model, with_design_top}
use Rattle.model.specs.Commands.{top_unless, design_top_command}
use Rattle.store.specs.Strings.{string, span_of, stored_of, maybe_of}
use Rattle.store.specs.View.{Store, model_of}
use Rattle.store.specs.Added.{top_set}
use Rattle.store.specs.Steps.{top_view, top_shaped, top_bounded}
use Rattle.store.specs.declared.stored.Stored.{Stored}
use Rattle.store.specs.declared.state.State.{State}
use Rattle.made.specs.declared.Made.{Made}
use Rattle.made.specs.Made.{fine_made, reach_of, Ready, Did}
use Rattle.made.specs.Dids.{did_nothing}
use Rattle.made.specs.Done.{did_state}

-- a string of no bytes
is_none : (t : Bytes) → length t ≡ 0 → same t [] ≡ true
unfolding same
is_none [] e = refl
is_none (x ∷ t) e = absurd (omega arith)

module _ (long : ℕ) (mem : Bytes) (words : List ℕ) (n : ℕ) (st : Store) (log : Bytes) (s : State) (v : Ready long mem words n st s) where
  abbrev ws : List Bytes
  ws = words_from mem words n 1

  abbrev now : Model
  now = model_of mem st s log

  told : design_top_command now ws ≡ with_design_top now (top_unless (maybe_of mem s.head.top) (string mem s.head.scope) (name_of ws))
  unfolding design_top_command model_of
  told = refl

  same_top : with_design_top now (maybe_of mem s.head.top) ≡ now
  unfolding model_of
  same_top = refl

  stays : top_unless (maybe_of mem s.head.top) (string mem s.head.scope) (name_of ws) ≡ maybe_of mem s.head.top → (m : Made) → m ≡ fine_made s → Did long mem st log s m (design_top_command now ws)
  stays e m g = rw (g, told, e, same_top) (did_nothing long mem st log s v.shaped v.bounded)

  pub top_stays : (x : Stored) (m : Made) → s.head.top ≡ Some x → m ≡ fine_made s → Did long mem st log s m (design_top_command now ws)
  top_stays x m e g = stays (rw e) m g

  pub top_inside : (p : Span) (k : ℕ) (m : Made) → s.head.top ≡ None → p ≡ span_of s.head.scope → k ≡ length (bytes mem p) → (k ≡ 0 → ⊥) → m ≡ fine_made s → Did long mem st log s m (design_top_command now ws)
  top_inside p k m e ep ek h g =
      let q : same (string mem s.head.scope) [] ≡ false = sym (differ (string mem s.head.scope) [] (λ z. h (ek ∙ ap (λ (u : Span). length (bytes mem u)) ep ∙ z))) in
      stays (rw (e, q)) m g

  pub top_fine : (p : Span) (k : ℕ) (r : Span) (x : Stored) (u : State) (m : Made) → s.head.top ≡ None → p ≡ span_of s.head.scope → k ≡ length (bytes mem p) → k ≡ 0 → Reads mem words n (name_of ws) r → x ≡ stored_of r → u ≡ top_set s (Some x) → m ≡ fine_made u → Did long mem st log s m (design_top_command now ws)
  top_fine p k r x u m e ep ek h a ex eu em =
      let q : same (string mem s.head.scope) [] ≡ true = is_none (string mem s.head.scope) (sym (ap (λ (y : Span). length (bytes mem y)) ep) ∙ sym ek ∙ h) in
      let t : top_unless (maybe_of mem s.head.top) (string mem s.head.scope) (name_of ws) ≡ Some (bytes mem r) = rw (e, q, a.is) in
      rw (em, eu, ex)
      (did_state long mem st log s v.shaped v.bounded (top_set s (Some (stored_of r))) (design_top_command now ws)
      (top_view mem st s log (Some (stored_of r)) ∙ ap (with_design_top now) (sym t) ∙ sym told)
      (top_shaped st s v.shaped (Some (stored_of r)))
      (top_bounded (reach_of long) (length mem) st s v.bounded (Some (stored_of r)) (omega (arith, a.within (reach long) (none_reach long), v.line)))
      (record { count = refl; scope = refl; end = refl; log = refl; words = refl }))
