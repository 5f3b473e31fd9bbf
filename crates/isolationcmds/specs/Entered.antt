-- A strategy more: what the command does. Assumes nothing.
use Rattle.std.specs.Prelude.{ℕ, ◌+◌, ◌≤◌, ◌<◌, ◌≡◌, List, [], ◌∷◌, ◌++◌, length}
use Rattle.std.proofs.Common.{arith, sym, ap, ◌∙◌}
use Rattle.std.proofs.Math.Path.{refl}
use Rattle.text.specs.Ascii.{Bytes}
use Rattle.spans.specs.Reach.{reach, none_reach}
use Rattle.args.specs.View.{words_from}
use Rattle.model.specs.Records.{Model, Isolation as Isolationʳ, with_isolations}
use Rattle.model.specs.Commands.{new_isolation, added}
use Rattle.store.specs.Strings.{string}
use Rattle.store.specs.View.{Store, isolation_of, model_of}
use Rattle.store.specs.Added.{isolation_added}
use Rattle.store.specs.Tables.{sized_length}
use Rattle.store.specs.Fits.{fit_isolations}
use Rattle.store.specs.Variables.{now_fits}
use Rattle.store.specs.Steps.{isolation_view, isolation_shaped, isolation_bounded}
use Rattle.store.specs.declared.state.Isolation.{Isolation}
use Rattle.store.specs.declared.state.State.{State}
use Rattle.made.specs.declared.Made.{Made}
use Rattle.made.specs.Made.{fine_made, full_made, reach_of, Ready, Did}
use Rattle.made.specs.Dids.{one_over, did_full}
use Rattle.made.specs.Done.{did_state}
use Rattle.isolationcmds.specs.Strategies.{new_strategy, IsolationIs}

module _ (long : ℕ) (mem : Bytes) (words : List ℕ) (n : ℕ) (st : Store) (log : Bytes) (s : State) (v : Ready long mem words n st s) where
  abbrev ws : List Bytes
  ws = words_from mem words n 1

  abbrev now : Model
  now = model_of mem st s log

  new_is : new_isolation now ws ≡ new_strategy (string mem s.head.scope) ws
  unfolding model_of new_strategy
  new_is = refl

  count : length now.isolations ≡ s.isolations.n
  unfolding model_of
  count = sized_length (isolation_of mem) v.shaped.isolations

  pub enter_full : (r : Made) → 32 ≤ s.isolations.n → r ≡ full_made s → Did long mem st log s r (added (model_of mem st s log) (words_from mem words n 1))
  enter_full r h e =
      rw e
      (did_full long mem st log s v.shaped v.bounded (added now ws)
      (fit_isolations now (now_fits mem st s log v.shaped) (now.isolations ++ (new_isolation now ws ∷ []))
      ∙ one_over now.isolations (new_isolation now ws) s.isolations.n 32 count h))

  pub enter_fine : (x : Isolation) (u : State) (r : Made) → s.isolations.n < 32 → IsolationIs mem words n s.head.scope x → u ≡ isolation_added s x → r ≡ fine_made u → Did long mem st log s r (added (model_of mem st s log) (words_from mem words n 1))
  enter_fine x u r h a e g =
      let l : s.isolations.n < length s.isolations.all = omega (arith, v.shaped.isolations.long) in
      rw (g, e)
      (did_state long mem st log s v.shaped v.bounded (isolation_added s x) (added now ws)
      (isolation_view mem st s log x l ∙ ap (λ (z : Isolationʳ). with_isolations now (now.isolations ++ (z ∷ []))) (a.is ∙ sym new_is))
      (isolation_shaped st s v.shaped x h)
      (isolation_bounded (reach_of long) (length mem) st s v.bounded x l (a.within (reach long) (none_reach long) (length mem) v.bounded.scope v.line))
      (record { count = refl; scope = refl; end = refl; log = refl; words = refl }))
