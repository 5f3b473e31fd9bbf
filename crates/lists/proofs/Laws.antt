-- Laws as the needs ask them: a value whole, one value more, the values of a command. Assumes nothing.
use Prim.Native.Nat.{ℕ, zero, suc, ◌+◌, ◌-◌, ◌≤◌, ◌<◌, ◌^◌}
use Prim.Native.String.{String}
use native.Mathlib.Omega.{arith}
use mathlib.Core.Path.{◌≡◌, refl, sym, ap, ◌∙◌}
use mathlib.Core.Bool.{Bool, true, false, cond}
use mathlib.Core.List.{List, [], ◌++◌, map-append}
use Rattle.std.specs.Prelude.{Option, None, Some}
use lib.Dec.{leb, ltb}
use lib.ListN.{length, take, drop, length-drop, drop_of_length-le}
use lib.Seq.{take-append-le}
use borrow.Author.Rules.{rules}
use borrow.Author.Tests.{le-leb, lt-leb, leb-true}
use Rattle.text.specs.Ascii.{Bytes, ascii}
use Rattle.text.specs.Lists.{drop_two}
use Rattle.spans.specs.Span.{◌⋯◌, bytes, pair_at, strings}
use Rattle.spans.specs.Reach.{reach, Held, filed, stored, held_by, reach_held}
use Rattle.spans.specs.declared.span.Span.{Span}
use Rattle.tcl.specs.Arguments.{option_of, states, State}
use Rattle.tcl.specs.Lists.{list}
use Rattle.args.specs.View.{words_from, pick, Finds, States}
use Rattle.model.specs.Numbers.{named_by}
use Rattle.cmdnames.specs.Table.{number_of}
use Rattle.cmdnames.specs.declared.Command.{Command}
use Rattle.cmdnames.specs.declared.Command.TheVariants as command
use Rattle.model.specs.Within.{option_value, state_values, entries_of, lists_by}
use Rattle.lists.specs.Count.{counted, and_one, and_all, size_of, Counts, all_append, all_counted}
use Rattle.lists.specs.Values.{Whole, optional, switch_values}
use Rattle.lists.specs.States.{pick_none, pick_some, pick_in, states_short, strings_length, line_states}

-- ---- a value as a part of the files or of the area
module _ (files area : Bytes) (s : Span) where
  filed_is : s.at + s.len ≤ length files → take s.len (drop s.at files) ≡ bytes (files ++ area) s
  unfolding bytes
  filed_is h =
      let k : s.len ≤ length (drop s.at files) = rw length-drop (omega arith) in
      sym (rw (drop_two s.at files area, take-append-le s.len (drop s.at files) (drop (s.at - length files) area) k))

  pub value_filed : (p : Bytes) → s.at < length files → p ≡ take s.len (drop s.at files) → Held (length files) s → p ≡ bytes (files ++ area) s
  value_filed p h e (filed g) = e ∙ filed_is g
  value_filed p h e (stored g) = absurd (omega arith)

  pub value_stored : (p : Bytes) → length files ≤ s.at → p ≡ take s.len (drop (s.at - length files) area) → Held (length files) s → p ≡ bytes (files ++ area) s
  unfolding bytes
  value_stored p h e q = e ∙ sym (rw (drop_two s.at files area, drop_of_length-le files {i = s.at} h))

pub ruleset parts = (rules, value_filed, value_stored)

-- ---- one value more
module _ (long : ℕ) (v : Span) (b p : Bytes) (f : Held long v → p ≡ b) (k : ℕ) (e : k ≡ length (list p)) where
  pub has_entries : (u : Bool) → u ≡ ltb 0 k → Held long v → u ≡ ltb 0 (length (list b))
  has_entries u g h = rw (← (f h), ← e) g

  module _ (h : Held long v) (c : Option ℕ) (t : ℕ) (g : c ≡ Some t) where
    pub one_64 : 64 < k → None ≡ and_one (length (list b)) c
    one_64 q = rw (← (f h), ← e, g, lt-leb k 64 q)

    pub one_1024 : k ≤ 64 → 1024 < t + k → None ≡ and_one (length (list b)) c
    one_1024 q w = rw (← (f h), ← e, g, le-leb k 64 q, lt-leb (t + k) 1024 w)

    pub one_more : k ≤ 64 → t + k ≤ 1024 → Some (t + k) ≡ and_one (length (list b)) c
    one_more q w = rw (← (f h), ← e, g, le-leb k 64 q, le-leb (t + k) 1024 w)

pub one_over : (k : ℕ) (c : Option ℕ) → c ≡ None → None ≡ and_one k c
one_over k c g = rw g

pub one_fits : (c : Option ℕ) (t k : ℕ) → size_of c ≤ 1024 → c ≡ Some t → k ≤ 64 → t + k < 2 ^ 64
one_fits c t k h g q = let w : t ≤ 1024 = rw g at h in omega arith

pub few_one : (k : ℕ) (c : Option ℕ) → size_of c ≤ 1024 → size_of (and_one k c) ≤ 1024
few_one k None h = omega arith
few_one k (Some t) h = go (leb k 64) (leb (t + k) 1024) refl
  where
    go : (a b : Bool) → leb (t + k) 1024 ≡ b → size_of (cond a (cond b (Some (t + k)) None) None) ≤ 1024
    go false b q = omega arith
    go true false q = omega arith
    go true true q = leb-true (t + k) 1024 q

pub ruleset ones = (rules, has_entries, one_64, one_1024, one_more, one_over, one_fits)

-- ---- the value of an option
module _ (files area : Bytes) (words : List ℕ) (n : ℕ) (w : Whole files area words n) where
  pub found_held : (o : Option Bytes) (r : Option Span) (v : Span) → Finds (files ++ area) words n o r → r ≡ Some v → Held (length files) v
  found_held o r v a g = held_by (length files) (length (files ++ area)) v w.small (omega (arith, rw g at (a.within (reach (length files)) (reach_held (length files) (0 ⋯ 0) (filed (omega arith)))), w.line))

  pub state_held : (o : Option State) (r : Option (Bool × Span)) (one : Bool) (v : Span) → States (files ++ area) words n o r → r ≡ Some (one, v) → Held (length files) v
  state_held o r one v a g = held_by (length files) (length (files ++ area)) v w.small (omega (arith, rw g at (a.within (reach (length files)) (reach_held (length files) (0 ⋯ 0) (filed (omega arith)))), w.line))

module _ (mem : Bytes) (words : List ℕ) (n : ℕ) (o : Option Bytes) (f : Option Span) (a : Finds mem words n o f) (c : Option ℕ) (few : size_of c ≤ 1024) where
  pub option_none : f ≡ None → Counts (entries_of (optional o)) c c
  unfolding and_all
  option_none g = record { is = rw (← a.is, g); few = few }

  pub option_at : (v : Span) (r : Option ℕ) → f ≡ Some v → r ≡ and_one (length (list (bytes mem v))) c → Counts (entries_of (optional o)) c r
  unfolding and_all
  option_at v r g e = record { is = rw (← a.is, g) e; few = rw e (few_one (length (list (bytes mem v))) c few) }

pub ruleset options = (rules, found_held, option_none, option_at)

-- the states that are left, from the k-th on, have the answer
pub record Left (n : ℕ) (ss : List State) (c : Option ℕ) (k : ℕ) (t : Option ℕ) : Type 0 where
  pub keeps : and_all (entries_of (state_values ss)) c ≡ and_all (entries_of (state_values (drop k ss))) t
  pub few : size_of t ≤ 1024
  pub short : length ss ≤ n

pub left_start : (mem : Bytes) (words : List ℕ) (n : ℕ) (one two : Bytes) (c : Option ℕ) → size_of c ≤ 1024 → Left n (states one two (strings mem words 0 n)) c 0 c
left_start mem words n one two c h =
    record { keeps = refl; few = h; short = omega (arith, states_short one two (strings mem words 0 n), strings_length mem words 0 n) }

module _ (n : ℕ) (ss : List State) (c : Option ℕ) (k : ℕ) (t : Option ℕ) (inv : Left n ss c k t) (mem : Bytes) (words : List ℕ) (r : Option (Bool × Span)) (a : States mem words n (pick k ss) r) where
  pub left_few : size_of t ≤ 1024
  left_few = inv.few

  pub left_end : r ≡ None → Counts (entries_of (state_values ss)) c t
  unfolding and_all
  left_end g =
      let z : None ≡ pick k ss = rw g at a.is in
      record { is = sym (inv.keeps ∙ rw (pick_none k ss z)); few = inv.few }

  module _ (one : Bool) (v : Span) (g : r ≡ Some (one, v)) where
    its : Some (record { one = one; value = bytes mem v }) ≡ pick k ss
    its = rw g at a.is

    pub left_on : (u : Option ℕ) → u ≡ and_one (length (list (bytes mem v))) t → Left n ss c (k + 1) u
    unfolding and_all
    left_on u e = record {
      keeps = inv.keeps ∙ rw (pick_some k ss (record { one = one; value = bytes mem v }) its, e);
      few = rw e (few_one (length (list (bytes mem v))) t inv.few);
      short = inv.short;
    }

-- no state is left behind the last word
pub left_done : (n : ℕ) (ss : List State) (c : Option ℕ) (k : ℕ) (t : Option ℕ) → Left n ss c k t → n ≤ k → Counts (entries_of (state_values ss)) c t
unfolding and_all
left_done n ss c k t inv h = record { is = sym (inv.keeps ∙ rw (drop_of_length-le ss {i = k} (omega (arith, inv.short, h)))); few = inv.few }

pub ruleset lefts = (rules, state_held, left_start, left_few, left_end, left_done, left_on)

-- ---- the values of a switch
then_all : (xs ys : List Bytes) (c d r : Option ℕ) → Counts (entries_of xs) c d → Counts (entries_of ys) d r → Counts (entries_of (xs ++ ys)) c r
then_all xs ys c d r a b = record { is = b.is ∙ ap (and_all (entries_of ys)) a.is ∙ sym (rw (map-append (λ (v : Bytes). length (list v)) xs ys) (all_append (entries_of xs) (entries_of ys) c)); few = b.few }

pub counts_few : (ks : List ℕ) (c r : Option ℕ) → Counts ks c r → size_of r ≤ 1024
counts_few ks c r a = a.few

pub switch_all : (ws line : List Bytes) (c c1 c2 c3 r : Option ℕ) → Counts (entries_of (optional (option_of (ascii "-control_port") ws))) c c1 → Counts (entries_of (state_values (states (ascii "-on_state") (ascii "-off_state") line))) c1 c2 → Counts (entries_of (optional (option_of (ascii "-input_supply_port") ws))) c2 c3 → Counts (entries_of (optional (option_of (ascii "-output_supply_port") ws))) c3 r → Counts (entries_of (switch_values ws line)) c r
switch_all ws line c c1 c2 c3 r a b d e =
    then_all (optional (option_of (ascii "-control_port") ws)) (state_values (states (ascii "-on_state") (ascii "-off_state") line) ++ (optional (option_of (ascii "-input_supply_port") ws) ++ optional (option_of (ascii "-output_supply_port") ws))) c c1 r a
    (then_all (state_values (states (ascii "-on_state") (ascii "-off_state") line)) (optional (option_of (ascii "-input_supply_port") ws) ++ optional (option_of (ascii "-output_supply_port") ws)) c1 c2 r b
    (then_all (optional (option_of (ascii "-input_supply_port") ws)) (optional (option_of (ascii "-output_supply_port") ws)) c2 c3 r d e))

pub ruleset switches = (rules, counts_few, switch_all)

option_is : (key : String) (ws : List Bytes) (o : Option Bytes) → option_of (ascii key) ws ≡ o → option_value key ws ≡ optional o
option_is key ws None e = rw e
option_is key ws (Some v) e = rw e

-- no other command reads a list
no_lists : (c : Command) (w : Bytes) (ws : List Bytes) → (c ≡ command.CreatePowerDomain → ⊥) → (c ≡ command.ConnectSupplyNet → ⊥) → (c ≡ command.CreatePowerSwitch → ⊥) → (c ≡ command.SetIsolation → ⊥) → (c ≡ command.SetRetention → ⊥) → (c ≡ command.AddPortState → ⊥) → (c ≡ command.CreatePst → ⊥) → (c ≡ command.AddPstState → ⊥) → lists_by (named_by (number_of c)) w ws ≡ []
no_lists command.Set w ws n5 n8 n21 n22 n24 n27 n28 n29 = refl
no_lists command.Puts w ws n5 n8 n21 n22 n24 n27 n28 n29 = refl
no_lists command.LoadUpf w ws n5 n8 n21 n22 n24 n27 n28 n29 = refl
no_lists command.SetDesignTop w ws n5 n8 n21 n22 n24 n27 n28 n29 = refl
no_lists command.SetScope w ws n5 n8 n21 n22 n24 n27 n28 n29 = refl
no_lists command.CreatePowerDomain w ws n5 n8 n21 n22 n24 n27 n28 n29 = absurd (n5 refl)
no_lists command.CreateSupplyNet w ws n5 n8 n21 n22 n24 n27 n28 n29 = refl
no_lists command.CreateSupplyPort w ws n5 n8 n21 n22 n24 n27 n28 n29 = refl
no_lists command.ConnectSupplyNet w ws n5 n8 n21 n22 n24 n27 n28 n29 = absurd (n8 refl)
no_lists command.SetDomainSupplyNet w ws n5 n8 n21 n22 n24 n27 n28 n29 = refl
no_lists command.CreatePowerSwitch w ws n5 n8 n21 n22 n24 n27 n28 n29 = absurd (n21 refl)
no_lists command.SetIsolation w ws n5 n8 n21 n22 n24 n27 n28 n29 = absurd (n22 refl)
no_lists command.SetIsolationControl w ws n5 n8 n21 n22 n24 n27 n28 n29 = refl
no_lists command.SetRetention w ws n5 n8 n21 n22 n24 n27 n28 n29 = absurd (n24 refl)
no_lists command.SetRetentionControl w ws n5 n8 n21 n22 n24 n27 n28 n29 = refl
no_lists command.SetLevelShifter w ws n5 n8 n21 n22 n24 n27 n28 n29 = refl
no_lists command.AddPortState w ws n5 n8 n21 n22 n24 n27 n28 n29 = absurd (n27 refl)
no_lists command.CreatePst w ws n5 n8 n21 n22 n24 n27 n28 n29 = absurd (n28 refl)
no_lists command.AddPstState w ws n5 n8 n21 n22 n24 n27 n28 n29 = absurd (n29 refl)
no_lists command.NotSimulated w ws n5 n8 n21 n22 n24 n27 n28 n29 = refl
no_lists command.Unknown w ws n5 n8 n21 n22 n24 n27 n28 n29 = refl

module _ (mem : Bytes) (words : List ℕ) (n : ℕ) (c : Command) (before : ℕ) (r : Option ℕ) (h : before ≤ 1024) where
  -- the values that it reads are these
  reads : (vs : List Bytes) → lists_by (named_by (number_of c)) (bytes mem (pair_at words 0)) (words_from mem words n 1) ≡ vs → Counts (entries_of vs) (Some before) r → r ≡ counted before (entries_of (lists_by (named_by (number_of c)) (bytes mem (pair_at words 0)) (words_from mem words n 1)))
  reads vs e a = a.is ∙ all_counted (entries_of vs) before h ∙ rw e

  pub at_create_power_domain : c ≡ command.CreatePowerDomain → Counts (entries_of (optional (option_of (ascii "-elements") (words_from mem words n 1)))) (Some before) r → r ≡ counted before (entries_of (lists_by (named_by (number_of c)) (bytes mem (pair_at words 0)) (words_from mem words n 1)))
  at_create_power_domain e a = reads (optional (option_of (ascii "-elements") (words_from mem words n 1))) (rw e (option_is "-elements" (words_from mem words n 1) (option_of (ascii "-elements") (words_from mem words n 1)) refl)) a

  pub at_connect_supply_net : c ≡ command.ConnectSupplyNet → Counts (entries_of (optional (option_of (ascii "-ports") (words_from mem words n 1)))) (Some before) r → r ≡ counted before (entries_of (lists_by (named_by (number_of c)) (bytes mem (pair_at words 0)) (words_from mem words n 1)))
  at_connect_supply_net e a = reads (optional (option_of (ascii "-ports") (words_from mem words n 1))) (rw e (option_is "-ports" (words_from mem words n 1) (option_of (ascii "-ports") (words_from mem words n 1)) refl)) a

  pub at_set_isolation : c ≡ command.SetIsolation → Counts (entries_of (optional (option_of (ascii "-elements") (words_from mem words n 1)))) (Some before) r → r ≡ counted before (entries_of (lists_by (named_by (number_of c)) (bytes mem (pair_at words 0)) (words_from mem words n 1)))
  at_set_isolation e a = reads (optional (option_of (ascii "-elements") (words_from mem words n 1))) (rw e (option_is "-elements" (words_from mem words n 1) (option_of (ascii "-elements") (words_from mem words n 1)) refl)) a

  pub at_set_retention : c ≡ command.SetRetention → Counts (entries_of (optional (option_of (ascii "-elements") (words_from mem words n 1)))) (Some before) r → r ≡ counted before (entries_of (lists_by (named_by (number_of c)) (bytes mem (pair_at words 0)) (words_from mem words n 1)))
  at_set_retention e a = reads (optional (option_of (ascii "-elements") (words_from mem words n 1))) (rw e (option_is "-elements" (words_from mem words n 1) (option_of (ascii "-elements") (words_from mem words n 1)) refl)) a

  pub at_create_pst : c ≡ command.CreatePst → Counts (entries_of (optional (option_of (ascii "-supplies") (words_from mem words n 1)))) (Some before) r → r ≡ counted before (entries_of (lists_by (named_by (number_of c)) (bytes mem (pair_at words 0)) (words_from mem words n 1)))
  at_create_pst e a = reads (optional (option_of (ascii "-supplies") (words_from mem words n 1))) (rw e (option_is "-supplies" (words_from mem words n 1) (option_of (ascii "-supplies") (words_from mem words n 1)) refl)) a

  pub at_add_pst_state : c ≡ command.AddPstState → Counts (entries_of (optional (option_of (ascii "-state") (words_from mem words n 1)))) (Some before) r → r ≡ counted before (entries_of (lists_by (named_by (number_of c)) (bytes mem (pair_at words 0)) (words_from mem words n 1)))
  at_add_pst_state e a = reads (optional (option_of (ascii "-state") (words_from mem words n 1))) (rw e (option_is "-state" (words_from mem words n 1) (option_of (ascii "-state") (words_from mem words n 1)) refl)) a

  pub at_create_power_switch : c ≡ command.CreatePowerSwitch → Counts (entries_of (switch_values (words_from mem words n 1) (strings mem words 0 n))) (Some before) r → r ≡ counted before (entries_of (lists_by (named_by (number_of c)) (bytes mem (pair_at words 0)) (words_from mem words n 1)))
  at_create_power_switch e a =
      reads (switch_values (words_from mem words n 1) (strings mem words 0 n))
      (rw (e, line_states mem words n (ascii "-on_state") (ascii "-off_state"), option_is "-control_port" (words_from mem words n 1) (option_of (ascii "-control_port") (words_from mem words n 1)) refl, option_is "-input_supply_port" (words_from mem words n 1) (option_of (ascii "-input_supply_port") (words_from mem words n 1)) refl, option_is "-output_supply_port" (words_from mem words n 1) (option_of (ascii "-output_supply_port") (words_from mem words n 1)) refl)) a

  pub at_add_port_state : c ≡ command.AddPortState → Counts (entries_of (state_values (states (ascii "-state") (ascii "-state") (strings mem words 0 n)))) (Some before) r → r ≡ counted before (entries_of (lists_by (named_by (number_of c)) (bytes mem (pair_at words 0)) (words_from mem words n 1)))
  at_add_port_state e a = reads (state_values (states (ascii "-state") (ascii "-state") (strings mem words 0 n))) (rw (e, line_states mem words n (ascii "-state") (ascii "-state"))) a

  pub at_rest : (c ≡ command.CreatePowerDomain → ⊥) → (c ≡ command.ConnectSupplyNet → ⊥) → (c ≡ command.CreatePowerSwitch → ⊥) → (c ≡ command.SetIsolation → ⊥) → (c ≡ command.SetRetention → ⊥) → (c ≡ command.AddPortState → ⊥) → (c ≡ command.CreatePst → ⊥) → (c ≡ command.AddPstState → ⊥) → r ≡ Some before → r ≡ counted before (entries_of (lists_by (named_by (number_of c)) (bytes mem (pair_at words 0)) (words_from mem words n 1)))
  unfolding and_all
  at_rest n5 n8 n21 n22 n24 n27 n28 n29 e =
      reads [] (no_lists c (bytes mem (pair_at words 0)) (words_from mem words n 1) n5 n8 n21 n22 n24 n27 n28 n29) (record { is = e; few = rw e h })

pub ruleset numbers = (rules, at_create_power_domain, at_connect_supply_net, at_create_power_switch, at_set_isolation, at_set_retention, at_add_port_state, at_create_pst, at_add_pst_state, at_rest)
