-- set_domain_supply_net: the first domain of a name, and what the command does. Assumes nothing.
use Rattle.std.specs.Prelude.{Option}
use Rattle.store.specs.declared.stored.Below.{Below}
use Rattle.std.specs.Prelude.{ℕ, ◌≤◌, ◌<◌, max, ◌≡◌, refl, Bool, List, length, get_or, set, take, None, Some, option_map}
use Rattle.std.proofs.Common.{arith, ◌∙◌}
use Rattle.std.proofs.Math.Path.{sym, ap}
use Rattle.text.specs.Ascii.{Bytes, ascii}
use Rattle.text.specs.Compare.{same}
use Rattle.spans.specs.Reach.{reach, none_reach}
use Rattle.spans.specs.declared.span.Span.{Span}
use Rattle.tcl.specs.Arguments.{option_of, name_of}
use Rattle.args.specs.View.{words_from, Reads, Finds}
use Rattle.model.specs.Scope.{scoped}
use Rattle.model.specs.Records.{Model, Domain as Domainʳ, with_domains}
use Rattle.model.specs.Commands.{on_first, warned, supplied, supply_command}
use Rattle.store.specs.Strings.{string, stored_of, below_found}
use Rattle.store.specs.View.{Store, domain_of, text_of, model_of}
use Rattle.store.specs.Order.{of_domain}
use Rattle.store.specs.Added.{supplied_by, domain_set}
use Rattle.store.specs.Tables.{sized_length, table_get, within_get}
use Rattle.store.specs.First.{first_at, first_hit, first_miss}
use Rattle.store.specs.Steps.{domain_set_view, domain_set_shaped, domain_set_bounded}
use Rattle.store.specs.declared.stored.Stored.{Stored}
use Rattle.store.specs.declared.state.Domain.{Domain}
use Rattle.store.specs.declared.state.State.{State}
use Rattle.made.specs.declared.Made.{Made}
use Rattle.made.specs.Made.{fine_made, warned_made, reach_of, Ready, Did}
use Rattle.made.specs.Dids.{did_warn}
use Rattle.made.specs.Done.{did_state, below_found_lem}
use Rattle.made.specs.Asked.{below_by}
use Rattle.made.specs.Firsts.{first_map}
use Rattle.finddomain.specs.Named.{is_named}

-- whether a domain of the records has the name
abbrev named : List Bytes → Domainʳ → Bool
named ws d = same d.name (name_of ws)

most_of_five : (a b c d e n : ℕ) → a ≤ n → b ≤ n → c ≤ n → d ≤ n → e ≤ n → max a (max b (max c (max d e))) ≤ n
most_of_five a b c d e n ha hb hc hd he = omega arith

-- two of five numbers anew
two_anew : (a b c d e c' d' n : ℕ) → max a (max b (max c (max d e))) ≤ n → c' ≤ n → d' ≤ n → max a (max b (max c' (max d' e))) ≤ n
two_anew a b c d e c' d' n h p q = most_of_five a b c' d' e n (omega arith) (omega arith) p q (omega arith)

module _ (long : ℕ) (mem : Bytes) (words : List ℕ) (n : ℕ) (st : Store) (log : Bytes) (s : State) (v : Ready long mem words n st s) where
  abbrev ws : List Bytes
  ws = words_from mem words n 1

  abbrev now : Model
  now = model_of mem st s log

  -- the supplies that the words name
  abbrev supplies : Domainʳ → Domainʳ
  supplies = supplied (option_map (scoped now.scope) (option_of (ascii "-primary_power_net") ws)) (option_map (scoped now.scope) (option_of (ascii "-primary_ground_net") ws))

  count : length now.domains ≡ s.domains.n
  unfolding model_of
  count = sized_length (domain_of mem) v.shaped.domains

  -- the code finds the domain that is meant
  module _ (r : Span) (x : Stored) (a : Reads mem words n (name_of ws) r) (e : x ≡ stored_of r) where
    name_is : string mem x ≡ name_of ws
    name_is = rw e a.is

    first_is : first_at (named ws) now.domains ≡ first_at (is_named mem x) (take s.domains.n s.domains.all)
    unfolding model_of domain_of
    first_is = first_map (domain_of mem) (named ws) (is_named mem x) (λ d. ap (same (string mem d.name)) name_is) (take s.domains.n s.domains.all)

    module _ (i : ℕ) (f : i ≡ first_at (is_named mem x) (take s.domains.n s.domains.all)) where
      told_none : s.domains.n ≤ i → supply_command now ws ≡ warned now (text_of 3 (string mem x))
      unfolding supply_command text_of
      told_none h =
          let q : on_first (named ws) supplies now.domains ≡ None = first_miss (named ws) supplies now.domains (omega (arith, count, first_is)) in
          rw (q, name_is)

      pub supply_warned : (m : Made) → s.domains.n ≤ i → m ≡ warned_made s 3 x → Did long mem st log s m (supply_command now ws)
      supply_warned m h g =
          rw (g, told_none h)
          (did_warn long mem st log s v.shaped v.bounded 3 x (omega arith) (omega arith)
          (rw e (omega (arith, a.within (reach long) (none_reach long), v.line))))

      module _ (z : Domain) (h : i < s.domains.n) (fp fg : Option Span) (ap' : Finds mem words n (option_of (ascii "-primary_power_net") ws) fp) (ag : Finds mem words n (option_of (ascii "-primary_ground_net") ws) fg) where
        -- the domain with its supplies anew, as the code has it
        abbrev anew : Domain
        anew = supplied_by (get_or s.domains.all i z) (below_found s.head.scope fp) (below_found s.head.scope fg)

        anew_is : domain_of mem anew ≡ supplies (domain_of mem (get_or s.domains.all i z))
        unfolding domain_of model_of
        anew_is =
            let p = below_found_lem mem words n (option_of (ascii "-primary_power_net") ws) fp s.head.scope ap' in
            let g = below_found_lem mem words n (option_of (ascii "-primary_ground_net") ws) fg s.head.scope ag in
            λ j. record {
              name = (domain_of mem (get_or s.domains.all i z)).name;
              elements = (domain_of mem (get_or s.domains.all i z)).elements;
              power = p j;
              ground_net = g j;
              scope = (domain_of mem (get_or s.domains.all i z)).scope;
            }

        at_is : get_or now.domains i (domain_of mem z) ≡ domain_of mem (get_or s.domains.all i z)
        unfolding model_of
        at_is = table_get (domain_of mem) s.domains.all s.domains.n i z h

        told_some : supply_command now ws ≡ with_domains now (set now.domains i (domain_of mem anew))
        unfolding supply_command
        told_some =
            let k : first_at (named ws) now.domains ≡ i = first_is ∙ sym f in
            let q : on_first (named ws) supplies now.domains ≡ Some (set now.domains (first_at (named ws) now.domains) (supplies (get_or now.domains (first_at (named ws) now.domains) (domain_of mem z)))) = first_hit (named ws) supplies now.domains (domain_of mem z) (omega (arith, count, k)) in
            rw (q, k, at_is, anew_is)

        anew_ends : of_domain (reach_of long) anew ≤ length mem
        anew_ends =
            two_anew _ _ _ _ _ _ _ (length mem)
            (within_get (of_domain (reach_of long)) s.domains.all s.domains.n i z v.bounded.domains h (omega (arith, v.shaped.domains.long, v.shaped.domains.count)))
            (omega (arith, v.line, v.bounded.scope, below_by mem words n (reach long) (none_reach long) (option_of (ascii "-primary_power_net") ws) fp s.head.scope ap'))
            (omega (arith, v.line, v.bounded.scope, below_by mem words n (reach long) (none_reach long) (option_of (ascii "-primary_ground_net") ws) fg s.head.scope ag))

        pub supply_fine : (p g : Option Below) (d : Domain) (u : State) (m : Made) → p ≡ below_found s.head.scope fp → g ≡ below_found s.head.scope fg → d ≡ supplied_by (get_or s.domains.all i z) p g → u ≡ domain_set s i d → m ≡ fine_made u → Did long mem st log s m (supply_command now ws)
        supply_fine p g d u m ep eg ed eu em =
            rw (em, eu, ed, ep, eg)
            (did_state long mem st log s v.shaped v.bounded (domain_set s i anew) (supply_command now ws)
            (domain_set_view mem st s log i anew h ∙ sym told_some)
            (domain_set_shaped st s v.shaped i anew)
            (domain_set_bounded (reach_of long) (length mem) st s v.bounded i anew h anew_ends)
            (record { count = refl; scope = refl; end = refl; log = refl; words = refl }))
