-- set: what it does. Assumes nothing.
use Rattle.std.specs.Prelude.{ℕ, ◌+◌, ◌*◌, ◌≤◌, ◌<◌, ◌^◌, ◌≡◌, refl, List, [], ◌∷◌, ◌++◌, length, Option, None, Some}
use Rattle.std.proofs.Common.{arith, sym, ap, ◌∙◌}
use Rattle.std.proofs.lemmas.Option.{none-some, same_Some}
use Rattle.text.specs.Ascii.{Bytes}
use Rattle.spans.specs.Span.{bytes}
use Rattle.spans.specs.Reach.{reach, none_reach}
use Rattle.spans.specs.declared.span.Span.{Span}
use Rattle.tcl.specs.Arguments.{positionals, first_or, name_of}
use Rattle.tcl.specs.Substitution.{Variable}
use Rattle.args.specs.View.{words_from, pick, Reads, Finds}
use Rattle.model.specs.Records.{Model, with_variables}
use Rattle.model.specs.Commands.{set_to, set_command}
use Rattle.model.specs.Within.{records_fit}
use Rattle.store.specs.Strings.{stored_of}
use Rattle.store.specs.View.{Store, model_of}
use Rattle.store.specs.Added.{variable_added}
use Rattle.store.specs.Fits.{fit_variables}
use Rattle.store.specs.Variables.{variables_length, variable_view, variable_shaped, variable_bounded, now_fits}
use Rattle.store.specs.declared.stored.Stored.{Stored}
use Rattle.store.specs.declared.state.State.{State}
use Rattle.made.specs.declared.Made.{Made}
use Rattle.made.specs.Made.{fine_made, full_made, reach_of, Line, Ready, Did}
use Rattle.made.specs.Dids.{one_over, did_full, did_nothing}
use Rattle.made.specs.Done.{did_state}
use Rattle.made.specs.Asked.{found_fits}

-- without a second positional word nothing is set
set_none : (m : Model) (ps : List Bytes) → None ≡ pick 1 ps → set_to m ps ≡ m
unfolding pick
set_none m [] e = refl
set_none m (p ∷ []) e = refl
set_none m (p ∷ q ∷ ps) e = absurd (none-some q e)

set_two : (m : Model) (ps : List Bytes) (v : Bytes) → Some v ≡ pick 1 ps → set_to m ps ≡ with_variables m (m.variables ++ (record { name = first_or ps; value = v } ∷ []))
unfolding pick
set_two m [] v e = absurd (none-some v (sym e))
set_two m (p ∷ []) v e = absurd (none-some v (sym e))
set_two m (p ∷ q ∷ ps) v e = rw (same_Some v q e)

-- the word can be stored
pub set_stored : (mem : Bytes) (words : List ℕ) (n : ℕ) (t : Option Bytes) (w : Span) (f : Option Span) → Line words n → Finds mem words n t f → f ≡ Some w → w.at + w.len < 2 ^ 32
set_stored mem words n t w f m g e =
    let a : Finds mem words n t (Some w) = rw e at g in
    found_fits mem words n t (Some w) a m

module _ (long : ℕ) (mem : Bytes) (words : List ℕ) (n : ℕ) (st : Store) (log : Bytes) (s : State) (v : Ready long mem words n st s) where
  abbrev ws : List Bytes
  ws = words_from mem words n 1

  abbrev now : Model
  now = model_of mem st s log

  told_nothing : Finds mem words n (pick 1 (positionals ws)) None → set_command now ws ≡ now
  unfolding set_command
  told_nothing a = set_none now (positionals ws) a.is

  pub set_nothing : (f : Option Span) (m : Made) → Finds mem words n (pick 1 (positionals ws)) f → f ≡ None → m ≡ fine_made s → Did long mem st log s m (set_command now ws)
  set_nothing f m a e g =
      let b : Finds mem words n (pick 1 (positionals ws)) None = rw e at a in
      rw (g, told_nothing b) (did_nothing long mem st log s v.shaped v.bounded)

  module _ (w : Span) (f : Option Span) (g : Finds mem words n (pick 1 (positionals ws)) f) (e : f ≡ Some w) where
    a : Finds mem words n (pick 1 (positionals ws)) (Some w)
    a = rw e at g

    abbrev more : List Variable
    more = now.variables ++ (record { name = name_of ws; value = bytes mem w } ∷ [])

    told : set_command now ws ≡ with_variables now more
    unfolding set_command
    told = set_two now (positionals ws) (bytes mem w) a.is

    count : length now.variables ≡ s.variables.n
    unfolding model_of
    count = variables_length mem s.variables.all s.variables.n

    pub set_full : (m : Made) → 64 ≤ s.variables.n → m ≡ full_made s → Did long mem st log s m (set_command now ws)
    set_full m h em =
        rw em
        (did_full long mem st log s v.shaped v.bounded (set_command now ws)
        (ap records_fit told ∙ fit_variables now (now_fits mem st s log v.shaped) more ∙ one_over now.variables (record { name = name_of ws; value = bytes mem w }) s.variables.n 64 count h))

    pub set_fine : (r : Span) (x y : Stored) (u : State) (m : Made) → s.variables.n < 64 → Reads mem words n (name_of ws) r → x ≡ stored_of r → y ≡ stored_of w → u ≡ variable_added s x y → m ≡ fine_made u → Did long mem st log s m (set_command now ws)
    set_fine r x y u m h b ex ey eu em =
        let l : 4 * s.variables.n + 3 < length s.variables.all = omega (arith, v.shaped.long) in
        rw (em, eu, ex, ey)
        (did_state long mem st log s v.shaped v.bounded (variable_added s (stored_of r) (stored_of w)) (set_command now ws)
        (variable_view st s (stored_of r) (stored_of w) mem log l ∙ ap (λ (z : Bytes). with_variables now (now.variables ++ (record { name = z; value = bytes mem w } ∷ []))) b.is ∙ sym told)
        (variable_shaped st s (stored_of r) (stored_of w) v.shaped h)
        (variable_bounded st s (stored_of r) (stored_of w) (reach_of long) (length mem) v.bounded l (omega (arith, b.within (reach long) (none_reach long), v.line)) (omega (arith, a.within (reach long) (none_reach long), v.line)))
        (record { count = refl; scope = refl; end = refl; log = refl; words = refl }))
