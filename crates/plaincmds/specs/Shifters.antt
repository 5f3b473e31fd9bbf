-- set_level_shifter: what its words come to, and what it does. Assumes nothing.
use Rattle.std.specs.Prelude.{Option, Some, None}
use Rattle.std.specs.Prelude.{ℕ, ◌+◌, ◌≤◌, ◌<◌, ◌≡◌, List, [], ◌∷◌, ◌++◌, length}
use Rattle.std.proofs.Common.{arith, sym, ap, ◌∙◌}
use Rattle.std.proofs.Math.Path.{refl}
use Rattle.text.specs.Ascii.{Bytes, ascii}
use Rattle.spans.specs.Span.{◌⋯◌, pairs}
use Rattle.spans.specs.Reach.{last_of, reach, none_reach}
use Rattle.spans.specs.declared.span.Span.{Span}
use Rattle.tcl.specs.Arguments.{option_of, name_of}
use Rattle.args.specs.View.{words_from, Reads, Finds}
use Rattle.model.specs.Within.{records_fit}
use Rattle.store.specs.declared.stored.Stored.{Stored}
use Rattle.store.specs.declared.state.State.{State}
use Rattle.store.specs.Tables.{sized_length}
use Rattle.store.specs.Variables.{now_fits}
use Rattle.made.specs.declared.Made.{Made}
use Rattle.made.specs.Made.{fine_made, full_made, reach_of, Ready, Did}
use Rattle.made.specs.Dids.{one_over, did_full}
use Rattle.made.specs.Done.{did_state}
use Rattle.model.specs.Records.{Model, Shifter as Shifterʳ, with_shifters}
use Rattle.model.specs.Commands.{domain_of, shifter_command}
use Rattle.store.specs.Strings.{span_of, stored_of, found_or}
use Rattle.store.specs.View.{Store, shifter_of, model_of}
use Rattle.store.specs.Order.{of_shifter}
use Rattle.store.specs.Added.{shifter_added}
use Rattle.store.specs.Fits.{fit_shifters}
use Rattle.store.specs.Steps.{shifter_view, shifter_shaped, shifter_bounded}
use Rattle.store.specs.declared.state.Shifter.{Shifter}
use Rattle.made.specs.Asked.{or_found, found_by_lem}

-- the shifter that the words name
unfoldable pub new_shifter : List Bytes → Shifterʳ
new_shifter ws = record { name = name_of ws; domain = domain_of ws }

pub record ShifterIs (mem : Bytes) (words : List ℕ) (n : ℕ) (r : Shifter) : Type 0 where
  pub is : shifter_of mem r ≡ new_shifter (words_from mem words n 1)
  pub within : (e : Span → ℕ) → e (0 ⋯ 0) ≡ 0 → of_shifter (λ s. e (span_of s)) r ≤ last_of e (pairs words 0 n)

module _ (mem : Bytes) (words : List ℕ) (n : ℕ) where
  pub shifter_is : (r : Span) (x : Stored) (f : Option Span) (y : Stored) → Reads mem words n (name_of (words_from mem words n 1)) r → x ≡ stored_of r → Finds mem words n (option_of (ascii "-domain") (words_from mem words n 1)) f → y ≡ found_or f → ShifterIs mem words n (record { name = x; domain = y })
  unfolding shifter_of new_shifter
  shifter_is r x f y p ex q ey =
      rw (ex, ey)
      (record {
        is = rw (p.is, or_found mem words n (option_of (ascii "-domain") (words_from mem words n 1)) f q);
        within = λ d o. omega (arith, p.within d o, found_by_lem mem words n d o (option_of (ascii "-domain") (words_from mem words n 1)) f q);
      })

-- ---- the command
module _ (long : ℕ) (mem : Bytes) (words : List ℕ) (n : ℕ) (st : Store) (log : Bytes) (s : State) (v : Ready long mem words n st s) where
  abbrev ws : List Bytes
  ws = words_from mem words n 1

  abbrev now : Model
  now = model_of mem st s log

  abbrev more : List Shifterʳ
  more = now.shifters ++ (new_shifter ws ∷ [])

  told : shifter_command now ws ≡ with_shifters now more
  unfolding shifter_command new_shifter
  told = refl

  count : length now.shifters ≡ s.shifters.n
  unfolding model_of
  count = sized_length (shifter_of mem) v.shaped.shifters

  pub shifter_full : (r : Made) → 32 ≤ s.shifters.n → r ≡ full_made s → Did long mem st log s r (shifter_command now ws)
  shifter_full r h e =
      rw e
      (did_full long mem st log s v.shaped v.bounded (shifter_command now ws)
      (ap records_fit told ∙ fit_shifters now (now_fits mem st s log v.shaped) more ∙ one_over now.shifters (new_shifter ws) s.shifters.n 32 count h))

  pub shifter_fine : (d : Shifter) (u : State) (r : Made) → s.shifters.n < 32 → ShifterIs mem words n d → u ≡ shifter_added s d → r ≡ fine_made u → Did long mem st log s r (shifter_command now ws)
  shifter_fine d u r h a e g =
      let l : s.shifters.n < length s.shifters.all = omega (arith, v.shaped.shifters.long) in
      rw (g, e)
      (did_state long mem st log s v.shaped v.bounded (shifter_added s d) (shifter_command now ws)
      (shifter_view mem st s log d l ∙ ap (λ (y : Shifterʳ). with_shifters now (now.shifters ++ (y ∷ []))) a.is ∙ sym told)
      (shifter_shaped st s v.shaped d h)
      (shifter_bounded (reach_of long) (length mem) st s v.bounded d l (omega (arith, a.within (reach long) (none_reach long), v.line)))
      (record { count = refl; scope = refl; end = refl; log = refl; words = refl }))
