-- set_retention: what its words come to, and what it does. Assumes nothing.
use Rattle.std.specs.Prelude.{Option, Some, None}
use Rattle.std.specs.Prelude.{ℕ, ◌+◌, ◌≤◌, ◌<◌, max, ◌≡◌, List, [], ◌∷◌, ◌++◌, map, length}
use Rattle.std.proofs.Common.{arith, sym, ap, ◌∙◌}
use Rattle.std.proofs.Math.Path.{refl}
use Rattle.text.specs.Ascii.{Bytes, ascii}
use Rattle.spans.specs.Span.{◌⋯◌, pairs}
use Rattle.spans.specs.Reach.{last_of, reach, none_reach}
use Rattle.spans.specs.declared.span.Span.{Span}
use Rattle.tcl.specs.Arguments.{option_of, name_of}
use Rattle.args.specs.View.{words_from, Reads, Finds}
use Rattle.model.specs.Scope.{scoped}
use Rattle.model.specs.Within.{records_fit}
use Rattle.store.specs.declared.stored.Stored.{Stored}
use Rattle.store.specs.declared.state.State.{State}
use Rattle.store.specs.Tables.{sized_length}
use Rattle.store.specs.Variables.{now_fits}
use Rattle.made.specs.declared.Made.{Made}
use Rattle.made.specs.Made.{fine_made, full_made, reach_of, Ready, Did}
use Rattle.made.specs.Dids.{one_over, did_full}
use Rattle.made.specs.Done.{did_state}
use Rattle.model.specs.Records.{Model, Retention as Retentionʳ, with_retentions}
use Rattle.model.specs.Commands.{option_list, domain_of, retention_command}
use Rattle.store.specs.Strings.{string, span_of, stored_of, found_or}
use Rattle.store.specs.View.{Store, retention_of, model_of}
use Rattle.store.specs.Order.{of_retention}
use Rattle.store.specs.Added.{retention_added}
use Rattle.store.specs.Fits.{fit_retentions}
use Rattle.store.specs.Steps.{retention_view, retention_shaped, retention_bounded}
use Rattle.store.specs.declared.state.Retention.{Retention}
use Rattle.made.specs.Asked.{list_found, or_found, found_by_lem}

-- the retention that the words name, in a scope
unfoldable pub new_retention : Bytes → List Bytes → Retentionʳ
new_retention scope ws = record { name = name_of ws; domain = domain_of ws; elements = map (scoped scope) (option_list "-elements" ws) }

pub record RetentionIs (mem : Bytes) (words : List ℕ) (n : ℕ) (scope : Stored) (r : Retention) : Type 0 where
  pub is : retention_of mem r ≡ new_retention (string mem scope) (words_from mem words n 1)
  pub within : (e : Span → ℕ) → e (0 ⋯ 0) ≡ 0 → of_retention (λ s. e (span_of s)) r ≤ max (e (span_of scope)) (last_of e (pairs words 0 n))

module _ (mem : Bytes) (words : List ℕ) (n : ℕ) (scope : Stored) where
  pub retention_is : (r : Span) (x : Stored) (f : Option Span) (y : Stored) (g : Option Span) (z : Stored) → Reads mem words n (name_of (words_from mem words n 1)) r → x ≡ stored_of r → Finds mem words n (option_of (ascii "-domain") (words_from mem words n 1)) f → y ≡ found_or f → Finds mem words n (option_of (ascii "-elements") (words_from mem words n 1)) g → z ≡ found_or g → RetentionIs mem words n scope (record { name = x; domain = y; scope = scope; elements = z })
  unfolding retention_of new_retention
  retention_is r x f y g z p ex q ey t ez =
      rw (ex, ey, ez)
      (record {
        is = rw (p.is, or_found mem words n (option_of (ascii "-domain") (words_from mem words n 1)) f q, list_found mem words n (option_of (ascii "-elements") (words_from mem words n 1)) g t);
        within = λ d o. omega (arith, p.within d o, found_by_lem mem words n d o (option_of (ascii "-domain") (words_from mem words n 1)) f q, found_by_lem mem words n d o (option_of (ascii "-elements") (words_from mem words n 1)) g t);
      })

-- ---- the command
module _ (long : ℕ) (mem : Bytes) (words : List ℕ) (n : ℕ) (st : Store) (log : Bytes) (s : State) (v : Ready long mem words n st s) where
  abbrev ws : List Bytes
  ws = words_from mem words n 1

  abbrev now : Model
  now = model_of mem st s log

  abbrev more : List Retentionʳ
  more = now.retentions ++ (new_retention now.scope ws ∷ [])

  told : retention_command now ws ≡ with_retentions now more
  unfolding retention_command new_retention
  told = refl

  count : length now.retentions ≡ s.retentions.n
  unfolding model_of
  count = sized_length (retention_of mem) v.shaped.retentions

  scope_is_lem : now.scope ≡ string mem s.head.scope
  unfolding model_of
  scope_is_lem = refl

  pub retention_full : (r : Made) → 32 ≤ s.retentions.n → r ≡ full_made s → Did long mem st log s r (retention_command now ws)
  retention_full r h e =
      rw e
      (did_full long mem st log s v.shaped v.bounded (retention_command now ws)
      (ap records_fit told ∙ fit_retentions now (now_fits mem st s log v.shaped) more ∙ one_over now.retentions (new_retention now.scope ws) s.retentions.n 32 count h))

  pub retention_fine : (d : Retention) (u : State) (r : Made) → s.retentions.n < 32 → RetentionIs mem words n s.head.scope d → u ≡ retention_added s d → r ≡ fine_made u → Did long mem st log s r (retention_command now ws)
  retention_fine d u r h a e g =
      let l : s.retentions.n < length s.retentions.all = omega (arith, v.shaped.retentions.long) in
      rw (g, e)
      (did_state long mem st log s v.shaped v.bounded (retention_added s d) (retention_command now ws)
      (retention_view mem st s log d l ∙ ap (λ (y : Retentionʳ). with_retentions now (now.retentions ++ (y ∷ []))) (a.is ∙ ap (λ (z : Bytes). new_retention z ws) (sym scope_is_lem)) ∙ sym told)
      (retention_shaped st s v.shaped d h)
      (retention_bounded (reach_of long) (length mem) st s v.bounded d l (omega (arith, a.within (reach long) (none_reach long), v.line, v.bounded.scope)))
      (record { count = refl; scope = refl; end = refl; log = refl; words = refl }))
