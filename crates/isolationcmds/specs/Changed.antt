-- set_isolation and set_isolation_control: the strategy that is meant, and what the commands do. Assumes nothing.
use Rattle.std.specs.Prelude.{Option}
use Rattle.std.specs.Prelude.{ℕ, ◌+◌, ◌≤◌, ◌<◌, ◌≡◌, Bool, true, false, List, ◌++◌, length, get_or, set, take, None, Some}
use Rattle.std.proofs.Common.{arith, ◌∙◌}
use Rattle.std.proofs.Math.Path.{refl, sym, ap}
use Rattle.text.specs.Ascii.{Bytes, ascii}
use Rattle.spans.specs.Reach.{reach, none_reach}
use Rattle.spans.specs.declared.span.Span.{Span}
use Rattle.tcl.specs.Arguments.{option_of, name_of, has_flag}
use Rattle.args.specs.View.{words_from, Reads, Finds}
use Rattle.model.specs.Records.{Model, Isolation as Isolationʳ, with_isolations}
use Rattle.model.specs.Commands.{on_first, warned, is_strategy, domain_of, updated, controlled, added, isolation_command, control_command}
use Rattle.store.specs.Strings.{string, stored_of, found_or}
use Rattle.store.specs.View.{Store, isolation_of, text_of, model_of}
use Rattle.store.specs.Order.{of_isolation}
use Rattle.store.specs.Added.{isolation_set}
use Rattle.store.specs.Tables.{sized_length, table_get, within_get}
use Rattle.store.specs.First.{first_at, first_hit, first_miss}
use Rattle.store.specs.Steps.{isolation_set_view, isolation_set_shaped, isolation_set_bounded}
use Rattle.store.specs.declared.stored.Stored.{Stored}
use Rattle.store.specs.declared.state.Isolation.{Isolation}
use Rattle.store.specs.declared.state.State.{State}
use Rattle.made.specs.declared.Made.{Made}
use Rattle.made.specs.Made.{fine_made, warned_made, reach_of, Ready, Did}
use Rattle.made.specs.Dids.{did_warn}
use Rattle.made.specs.Done.{did_state}
use Rattle.made.specs.Asked.{or_found}
use Rattle.made.specs.Firsts.{first_map}
use Rattle.lists.specs.Values.{Whole}
use Rattle.isolationcmds.specs.Strategies.{renewed, anew, is_strategy_at, AnewIs, ControlledIs}

module _ (files area : Bytes) (words : List ℕ) (n : ℕ) (st : Store) (log : Bytes) (s : State) (v : Ready (length files) (files ++ area) words n st s) where
  abbrev mem : Bytes
  mem = files ++ area

  abbrev ws : List Bytes
  ws = words_from mem words n 1

  abbrev now : Model
  now = model_of mem st s log

  whole : Whole files area words n
  whole = record { line = v.line; small = omega (arith, v.small) }

  count : length now.isolations ≡ s.isolations.n
  unfolding model_of
  count = sized_length (isolation_of mem) v.shaped.isolations

  -- the name, as it is stored
  module _ (r : Span) (x : Stored) (a : Reads (files ++ area) words n (name_of (words_from (files ++ area) words n 1)) r) (e : x ≡ stored_of r) where
    name_is : string mem x ≡ name_of ws
    name_is = rw e a.is

    name_ends : reach_of (length files) x ≤ length mem
    name_ends = rw e (omega (arith, a.within (reach (length files)) (none_reach (length files)), v.line))

    told_no : has_flag (ascii "-no_isolation") ws ≡ true → isolation_command now ws ≡ warned now (text_of 4 (string mem x))
    unfolding isolation_command text_of
    told_no t = rw (t, name_is)

    pub isolation_no : (b : Bool) (m : Made) → b ≡ has_flag (ascii "-no_isolation") (words_from (files ++ area) words n 1) → b ≡ true → m ≡ warned_made s 4 x → Did (length files) (files ++ area) st log s m (isolation_command (model_of (files ++ area) st s log) (words_from (files ++ area) words n 1))
    isolation_no b m h t g = rw (g, told_no (sym h ∙ t)) (did_warn (length files) mem st log s v.shaped v.bounded 4 x (omega arith) (omega arith) name_ends)

    -- and the domain
    module _ (f : Option Span) (y : Stored) (d : Finds (files ++ area) words n (option_of (ascii "-domain") (words_from (files ++ area) words n 1)) f) (g : y ≡ found_or f) where
      domain_is : string mem y ≡ domain_of ws
      domain_is = rw g (or_found mem words n (option_of (ascii "-domain") ws) f d)

      -- the code finds the strategy that is meant
      first_is : first_at (is_strategy (name_of ws) (domain_of ws)) now.isolations ≡ first_at (is_strategy_at mem x y) (take s.isolations.n s.isolations.all)
      unfolding model_of
      first_is = first_map (isolation_of mem) (is_strategy (name_of ws) (domain_of ws)) (is_strategy_at mem x y) (λ z. ap (λ (t : Bytes). is_strategy t (string mem y) (isolation_of mem z)) name_is ∙ ap (λ (t : Bytes). is_strategy (name_of ws) t (isolation_of mem z)) domain_is) (take s.isolations.n s.isolations.all)

      module _ (i : ℕ) (k : i ≡ first_at (is_strategy_at (files ++ area) x y) (take s.isolations.n s.isolations.all)) where
        missed : (F : Isolationʳ → Isolationʳ) → s.isolations.n ≤ i → on_first (is_strategy (name_of ws) (domain_of ws)) F now.isolations ≡ None
        missed F h = first_miss (is_strategy (name_of ws) (domain_of ws)) F now.isolations (omega (arith, count, first_is, k))

        told_unknown : s.isolations.n ≤ i → control_command now ws ≡ warned now (text_of 5 (string mem x))
        unfolding control_command text_of
        told_unknown h = rw (missed (controlled ws) h, name_is)

        pub control_unknown : (m : Made) → s.isolations.n ≤ i → m ≡ warned_made s 5 x → Did (length files) (files ++ area) st log s m (control_command (model_of (files ++ area) st s log) (words_from (files ++ area) words n 1))
        control_unknown m h q = rw (q, told_unknown h) (did_warn (length files) mem st log s v.shaped v.bounded 5 x (omega arith) (omega arith) name_ends)

        pub update_unknown : (b c : Bool) (m : Made) → b ≡ has_flag (ascii "-no_isolation") (words_from (files ++ area) words n 1) → b ≡ false → c ≡ has_flag (ascii "-update") (words_from (files ++ area) words n 1) → c ≡ true → s.isolations.n ≤ i → Did (length files) (files ++ area) st log s m (added (model_of (files ++ area) st s log) (words_from (files ++ area) words n 1)) → Did (length files) (files ++ area) st log s m (isolation_command (model_of (files ++ area) st s log) (words_from (files ++ area) words n 1))
        unfolding isolation_command
        update_unknown b c m p q o t h w = rw (← p, q, ← o, t, missed (updated now ws) h) w

        module _ (z : Isolation) (h : i < s.isolations.n) where
          abbrev old : Isolation
          old = get_or s.isolations.all i z

          at_is : get_or now.isolations i (isolation_of mem z) ≡ isolation_of mem old
          unfolding model_of
          at_is = table_get (isolation_of mem) s.isolations.all s.isolations.n i z h

          hit : (F : Isolationʳ → Isolationʳ) → on_first (is_strategy (name_of ws) (domain_of ws)) F now.isolations ≡ Some (set now.isolations i (F (isolation_of mem old)))
          hit F =
              let q : first_at (is_strategy (name_of ws) (domain_of ws)) now.isolations ≡ i = first_is ∙ sym k in
              first_hit (is_strategy (name_of ws) (domain_of ws)) F now.isolations (isolation_of mem z) (omega (arith, count, q)) ∙ rw (q, at_is)

          old_ends : of_isolation (reach_of (length files)) old ≤ length mem
          old_ends = within_get (of_isolation (reach_of (length files))) s.isolations.all s.isolations.n i z v.bounded.isolations h (omega (arith, v.shaped.isolations.long, v.shaped.isolations.count))

          -- it is changed so
          set_did : (F : Isolationʳ → Isolationʳ) (w : Isolation) (t : Model) → isolation_of mem w ≡ F (isolation_of mem old) → of_isolation (reach_of (length files)) w ≤ length mem → with_isolations now (set now.isolations i (F (isolation_of mem old))) ≡ t → Did (length files) mem st log s (fine_made (isolation_set s i w)) t
          set_did F w t p q o =
              did_state (length files) mem st log s v.shaped v.bounded (isolation_set s i w) t
              (isolation_set_view mem st s log i w h ∙ ap (λ (u : Isolationʳ). with_isolations now (set now.isolations i u)) p ∙ o)
              (isolation_set_shaped st s v.shaped i w)
              (isolation_set_bounded (reach_of (length files)) (length mem) st s v.bounded i w h q)
              (record { count = refl; scope = refl; end = refl; log = refl; words = refl })

          told_control : with_isolations now (set now.isolations i (controlled ws (isolation_of mem old))) ≡ control_command now ws
          unfolding control_command
          told_control = sym (rw (hit (controlled ws)))

          pub control_fine : (w : Isolation) (u : State) (m : Made) → ControlledIs (files ++ area) words n (get_or s.isolations.all i z) w → u ≡ isolation_set s i w → m ≡ fine_made u → Did (length files) (files ++ area) st log s m (control_command (model_of (files ++ area) st s log) (words_from (files ++ area) words n 1))
          control_fine w u m b p q =
              rw (q, p)
              (set_did (controlled ws) w (control_command now ws) b.is (b.within (reach (length files)) (none_reach (length files)) (length mem) old_ends v.line) told_control)

          updated_is : updated now ws (isolation_of mem old) ≡ anew (string mem s.head.scope) ws (isolation_of mem old)
          unfolding model_of renewed
          updated_is = refl

          told_update : (b c : Bool) → b ≡ has_flag (ascii "-no_isolation") ws → b ≡ false → c ≡ has_flag (ascii "-update") ws → c ≡ true → with_isolations now (set now.isolations i (updated now ws (isolation_of mem old))) ≡ isolation_command now ws
          unfolding isolation_command
          told_update b c p q o t = sym (rw (← p, q, ← o, t, hit (updated now ws)))

          pub update_fine : (b c : Bool) (w : Isolation) (u : State) (m : Made) → b ≡ has_flag (ascii "-no_isolation") (words_from (files ++ area) words n 1) → b ≡ false → c ≡ has_flag (ascii "-update") (words_from (files ++ area) words n 1) → c ≡ true → AnewIs files area words n s.head.scope (get_or s.isolations.all i z) w → u ≡ isolation_set s i w → m ≡ fine_made u → Did (length files) (files ++ area) st log s m (isolation_command (model_of (files ++ area) st s log) (words_from (files ++ area) words n 1))
          update_fine b c w u m p q o t y eu em =
              rw (em, eu)
              (set_did (updated now ws) w (isolation_command now ws) (y.is whole ∙ sym updated_is) (y.within (reach (length files)) (none_reach (length files)) (length mem) old_ends v.bounded.scope v.line) (told_update b c p q o t))

  -- with no `-update`
  pub isolation_new : (b c : Bool) (m : Made) → b ≡ has_flag (ascii "-no_isolation") (words_from (files ++ area) words n 1) → b ≡ false → c ≡ has_flag (ascii "-update") (words_from (files ++ area) words n 1) → c ≡ false → Did (length files) (files ++ area) st log s m (added (model_of (files ++ area) st s log) (words_from (files ++ area) words n 1)) → Did (length files) (files ++ area) st log s m (isolation_command (model_of (files ++ area) st s log) (words_from (files ++ area) words n 1))
  unfolding isolation_command
  isolation_new b c m p q o t w = rw (← p, q, ← o, t) w
