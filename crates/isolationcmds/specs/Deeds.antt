-- set_isolation and set_isolation_control: what their deeds do to the records, by what a command is told of the state. Assumes nothing.
use Rattle.store.specs.declared.state.Few.{Few}
use Rattle.std.specs.Prelude.{Option, Some, None}
use Rattle.std.specs.Prelude.{ℕ, ◌≤◌, ◌<◌, ◌≡◌, refl, Bool, true, false, List, ◌++◌, length, get_or, take}
use Rattle.std.proofs.Common.{arith, ap}
use Rattle.text.specs.Ascii.{Bytes, ascii}
use Rattle.spans.specs.declared.span.Span.{Span}
use Rattle.tcl.specs.Arguments.{option_of, name_of, has_flag}
use Rattle.args.specs.View.{words_from, Reads, Finds}
use Rattle.model.specs.Records.{Model}
use Rattle.model.specs.Commands.{added, isolation_command, control_command}
use Rattle.store.specs.Strings.{stored_of, found_or}
use Rattle.store.specs.Added.{isolation_added, isolation_set}
use Rattle.store.specs.First.{first_at}
use Rattle.store.specs.declared.stored.Stored.{Stored}
use Rattle.store.specs.declared.state.Isolation.{Isolation}
use Rattle.store.specs.declared.state.State.{State}
use Rattle.made.specs.declared.Brief.{Brief}
use Rattle.made.specs.declared.Deed.{Deed}
use Rattle.made.specs.declared.Deed.TheVariants as deed
use Rattle.made.specs.Made.{fine_made, full_made, warned_made, brief_of, done_by, Does}
use Rattle.isolationcmds.specs.Strategies.{is_strategy_at, IsolationIs, AnewIs, ControlledIs}
use Rattle.isolationcmds.specs.Entered.{enter_full, enter_fine}
use Rattle.isolationcmds.specs.Changed.{isolation_no, isolation_new, update_unknown, update_fine, control_unknown, control_fine}

module _ (files area : Bytes) (words : List ℕ) (n : ℕ) (b : Brief) where
  -- ---- a strategy more
  pub entered_full : 32 ≤ b.isolations → Does files area words n (λ (s : State). brief_of s ≡ b) deed.Full (λ (m : Model). added m (words_from (files ++ area) words n 1))
  entered_full h s e =
      record { fits = tt; did = λ st log v. enter_full (length files) (files ++ area) words n st log s v (full_made s) (omega (arith, h, ap (λ (z : Brief). z.isolations) e)) refl }

  pub entered_fine : (x : Isolation) → b.isolations < 32 → IsolationIs (files ++ area) words n b.scope x → Does files area words n (λ (s : State). brief_of s ≡ b) (deed.Isolation x) (λ (m : Model). added m (words_from (files ++ area) words n 1))
  entered_fine x h a s e =
      let l : s.isolations.n < 32 = omega (arith, h, ap (λ (z : Brief). z.isolations) e) in
      let y : IsolationIs (files ++ area) words n s.head.scope x = rw (ap (λ (z : Brief). z.scope) e) a in
      record { fits = l; did = λ st log v. enter_fine (length files) (files ++ area) words n st log s v x (isolation_added s x) (fine_made (isolation_added s x)) l y refl refl }

  module _ (t : Few Isolation) where
    -- with no `-update`
    pub told_new : (p q : Bool) (r : Deed) → p ≡ has_flag (ascii "-no_isolation") (words_from (files ++ area) words n 1) → p ≡ false → q ≡ has_flag (ascii "-update") (words_from (files ++ area) words n 1) → q ≡ false → Does files area words n (λ (s : State). brief_of s ≡ b) r (λ (m : Model). added m (words_from (files ++ area) words n 1)) → Does files area words n (λ (s : State). (brief_of s ≡ b) × (s.isolations ≡ t)) r (λ (m : Model). isolation_command m (words_from (files ++ area) words n 1))
    told_new p q r e1 e2 e3 e4 w s e =
        record { fits = (w s e.0).fits; did = λ st log v. isolation_new files area words n st log s v p q (done_by s r) e1 e2 e3 e4 ((w s e.0).did st log v) }

    -- the name, as it is stored
    module _ (w : Span) (x : Stored) (a : Reads (files ++ area) words n (name_of (words_from (files ++ area) words n 1)) w) (g : x ≡ stored_of w) where
      pub told_not : (p : Bool) → p ≡ has_flag (ascii "-no_isolation") (words_from (files ++ area) words n 1) → p ≡ true → Does files area words n (λ (s : State). (brief_of s ≡ b) × (s.isolations ≡ t)) (deed.Warning 4 x) (λ (m : Model). isolation_command m (words_from (files ++ area) words n 1))
      told_not p e1 e2 s e =
          record { fits = tt; did = λ st log v. isolation_no files area words n st log s v w x a g p (warned_made s 4 x) e1 e2 refl }

      -- the domain, and the place that was found
      module _ (f : Option Span) (y : Stored) (d : Finds (files ++ area) words n (option_of (ascii "-domain") (words_from (files ++ area) words n 1)) f) (o : y ≡ found_or f) (i : ℕ) (k : i ≡ first_at (is_strategy_at (files ++ area) x y) (take t.n t.all)) where
        found_in : (s : State) → s.isolations ≡ t → i ≡ first_at (is_strategy_at (files ++ area) x y) (take s.isolations.n s.isolations.all)
        found_in s e = rw e k

        pub told_unknown : t.n ≤ i → Does files area words n (λ (s : State). (brief_of s ≡ b) × (s.isolations ≡ t)) (deed.Warning 5 x) (λ (m : Model). control_command m (words_from (files ++ area) words n 1))
        told_unknown h s e =
            record { fits = tt; did = λ st log v. control_unknown files area words n st log s v w x a g f y d o i (found_in s e.1) (warned_made s 5 x) (rw e.1 h) refl }

        pub told_missing : (p q : Bool) (r : Deed) → p ≡ has_flag (ascii "-no_isolation") (words_from (files ++ area) words n 1) → p ≡ false → q ≡ has_flag (ascii "-update") (words_from (files ++ area) words n 1) → q ≡ true → t.n ≤ i → Does files area words n (λ (s : State). brief_of s ≡ b) r (λ (m : Model). added m (words_from (files ++ area) words n 1)) → Does files area words n (λ (s : State). (brief_of s ≡ b) × (s.isolations ≡ t)) r (λ (m : Model). isolation_command m (words_from (files ++ area) words n 1))
        told_missing p q r e1 e2 e3 e4 h z s e =
            record { fits = (z s e.0).fits; did = λ st log v. update_unknown files area words n st log s v w x a g f y d o i (found_in s e.1) p q (done_by s r) e1 e2 e3 e4 (rw e.1 h) ((z s e.0).did st log v) }

        module _ (u : Isolation) (l : t.n ≤ 32) (h : i < t.n) (z : Isolation) where
          pub told_control : ControlledIs (files ++ area) words n (get_or t.all i u) z → Does files area words n (λ (s : State). (brief_of s ≡ b) × (s.isolations ≡ t)) (deed.Controlled i z) (λ (m : Model). control_command m (words_from (files ++ area) words n 1))
          told_control c s e =
              record { fits = omega (arith, l, h); did = λ st log v. control_fine files area words n st log s v w x a g f y d o i (found_in s e.1) u (rw e.1 h) z (isolation_set s i z) (fine_made (isolation_set s i z)) (rw e.1 c) refl refl }

          pub told_update : (p q : Bool) → p ≡ has_flag (ascii "-no_isolation") (words_from (files ++ area) words n 1) → p ≡ false → q ≡ has_flag (ascii "-update") (words_from (files ++ area) words n 1) → q ≡ true → AnewIs files area words n b.scope (get_or t.all i u) z → Does files area words n (λ (s : State). (brief_of s ≡ b) × (s.isolations ≡ t)) (deed.Controlled i z) (λ (m : Model). isolation_command m (words_from (files ++ area) words n 1))
          told_update p q e1 e2 e3 e4 c s e =
              let c2 : AnewIs files area words n s.head.scope (get_or s.isolations.all i u) z = rw (e.1, ap (λ (m : Brief). m.scope) e.0) c in
              record { fits = omega (arith, l, h); did = λ st log v. update_fine files area words n st log s v w x a g f y d o i (found_in s e.1) u (rw e.1 h) p q z (isolation_set s i z) (fine_made (isolation_set s i z)) e1 e2 e3 e4 c2 refl refl }
