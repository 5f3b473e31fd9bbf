-- create_power_switch and add_port_state: what the words come to, and what the commands do. Assumes nothing.
use Rattle.std.specs.Prelude.{Option, Some, None}
use Rattle.std.specs.Prelude.{ℕ, ◌+◌, ◌-◌, ◌*◌, ◌≤◌, ◌<◌, ◌^◌, ◌≡◌, refl, true, false, length, take, drop}
use Rattle.std.proofs.Common.{arith, le_trans, add-zero, ◌∙◌, length-append, take_at, drop_at, take_all}
use Rattle.std.proofs.Math.Nat.{max-le}
use Rattle.std.proofs.Math.Path.{sym, ap}
use mathlib.Core.List.{List, [], ◌∷◌, ◌++◌, map, flat_map, append-nil}
use Rattle.std.proofs.lemmas.List.{length-map}
use Rattle.std.proofs.Math.Seq.{drop-append-add}
use Rattle.text.specs.Ascii.{Bytes, ascii}
use Rattle.spans.specs.Span.{bytes, pair_at, strings}
use Rattle.spans.specs.Reach.{reach, none_reach}
use Rattle.spans.specs.declared.span.Span.{Span}
use Rattle.tcl.specs.Arguments.{option_of, name_of, states}
use Rattle.tcl.specs.Lists.{list}
use Rattle.args.specs.View.{words_from, Reads, Finds}
use Rattle.model.specs.Scope.{scoped}
use Rattle.model.specs.Records.{Model, Switch as Switchʳ, PortState as PortStateʳ, with_switches, with_port_states}
use Rattle.model.specs.Commands.{option_list, supply_of, controls_of, on_state, off_state, port_state_of as port_state_ofʳ, switch_command, port_state_command}
use Rattle.store.specs.Strings.{string, span_of, stored_of, maybe_found, found_or}
use Rattle.store.specs.View.{Store, at_scope, on_of, named_of, words_at, switch_of, port_state_of, model_of}
use Rattle.store.specs.Order.{Within, of_maybe, of_below, switch_words, port_words, Bounded}
use Rattle.store.specs.Added.{switch_added, portstate_added}
use Rattle.store.specs.Tables.{sized_length, within_le, within_append}
use Rattle.store.specs.Fits.{fit_switches, fit_port_states}
use Rattle.store.specs.Variables.{now_fits}
use Rattle.store.specs.Steps.{switch_view, switch_shaped, switch_bounded, portstate_view, portstate_shaped, portstate_bounded}
use Rattle.store.specs.declared.stored.Stored.{Stored}
use Rattle.store.specs.declared.state.Switch.{Switch}
use Rattle.store.specs.declared.state.PortState.{PortState}
use Rattle.store.specs.declared.state.State.{State}
use Rattle.made.specs.declared.Made.{Made}
use Rattle.made.specs.declared.Brief.{Brief}
use Rattle.made.specs.declared.Deed.TheVariants as deed
use Rattle.made.specs.Made.{fine_made, full_made, reach_of, Ready, Did, words_set, brief_of}
use Rattle.made.specs.Dids.{one_over, did_full}
use Rattle.made.specs.Done.{did_state}
use Rattle.made.specs.Asked.{list_found, maybe_found_lem, found_by_lem, maybe_by}
use Rattle.lists.specs.States.{strings_length, line_states}
use Rattle.statecmds.specs.Words.{words_put, worded, words_long, words_then, grown_view, grown_shaped, grown_bounded}
use Rattle.statecmds.specs.Chosen.{chosen, ons_are, offs_are, both_kinds, ports_are, states_half, behind_name}
use Rattle.statecmds.specs.Puts.{PutRoom, SwitchRoom}
use Rattle.statecmds.specs.Stated.{Puts, SwitchIs, WordRoom, WordsDid}

-- a supply of a switch depends on the scope alone
supply_scope : (m : Model) (es : List Bytes) → supply_of m es ≡ supply_of (at_scope m.scope) es
supply_scope m [] = refl
supply_scope m (p ∷ []) = refl
supply_scope m (p ∷ n ∷ es) = refl

-- the words of a record among all
ons_part : (a b c : List Stored) (k : ℕ) → length a ≡ k → take (length b) (drop k (a ++ (b ++ c))) ≡ b
ons_part a b c k e = ap (take (length b)) (drop_at a (b ++ c) k e) ∙ take_at b c (length b) refl

offs_part : (a b c : List Stored) (k : ℕ) → length a ≡ k → take (length c) (drop (k + length b) (a ++ (b ++ c))) ≡ c
offs_part a b c k e =
    ap (λ (j : ℕ). take (length c) (drop (j + length b) (a ++ (b ++ c)))) (sym e)
    ∙ ap (take (length c)) (drop-append-add a (b ++ c) (length b) ∙ drop_at b c (length b) refl)
    ∙ take_all (length c) c (omega arith)

all_part : (a b : List Stored) (k : ℕ) → length a ≡ k → take (length b) (drop k (a ++ b)) ≡ b
all_part a b k e = ap (take (length b)) (drop_at a b k e) ∙ take_all (length b) b (omega arith)

-- the switch of the records, its states with these keys
unfoldable pub new_switch : Bytes → Bytes → Model → Bytes → List Bytes → Switchʳ
new_switch one two m w ws =
    record {
      name = name_of ws;
      domain = option_of (ascii "-domain") ws;
      input = supply_of m (option_list "-input_supply_port" ws);
      output = supply_of m (option_list "-output_supply_port" ws);
      controls = controls_of (option_list "-control_port" ws);
      on_states = flat_map on_state (states one two (w ∷ ws));
      off_states = flat_map off_state (states one two (w ∷ ws));
    }

pub switch_told : (m : Model) (w : Bytes) (ws : List Bytes) → with_switches m (m.switches ++ (new_switch (ascii "-on_state") (ascii "-off_state") m w ws ∷ [])) ≡ switch_command m w ws
unfolding switch_command new_switch
switch_told m w ws = refl

-- the port state of the records
unfoldable pub new_port_state : Bytes → Model → Bytes → List Bytes → PortStateʳ
new_port_state key m w ws = record { name = scoped m.scope (name_of ws); states = map port_state_ofʳ (states key key (w ∷ ws)) }

pub port_told : (m : Model) (w : Bytes) (ws : List Bytes) → with_port_states m (m.port_states ++ (new_port_state (ascii "-state") m w ws ∷ [])) ≡ port_state_command m w ws
unfolding port_state_command new_port_state
port_told m w ws = refl

-- ---- the switch that the words name
module _ (mem : Bytes) (words : List ℕ) (n : ℕ) (scope : Stored) (first mid end : ℕ) (named : Span) (domain input output controls : Option Span)
    (a0 : Reads mem words n (name_of (words_from mem words n 1)) named)
    (a1 : Finds mem words n (option_of (ascii "-domain") (words_from mem words n 1)) domain)
    (a2 : Finds mem words n (option_of (ascii "-input_supply_port") (words_from mem words n 1)) input)
    (a3 : Finds mem words n (option_of (ascii "-output_supply_port") (words_from mem words n 1)) output)
    (a4 : Finds mem words n (option_of (ascii "-control_port") (words_from mem words n 1)) controls) where
  abbrev ws : List Bytes
  ws = words_from mem words n 1

  pub switch_made : (n0 i0 o0 c0 : Stored) (d0 : Option Stored) → n0 ≡ stored_of named → d0 ≡ maybe_found domain → i0 ≡ found_or input → o0 ≡ found_or output → c0 ≡ found_or controls → SwitchIs mem words n scope first mid end (record { name = n0; domain = d0; scope = scope; input = i0; output = o0; controls = c0; first = first; ons = mid - first; offs = end - mid })
  switch_made n0 i0 o0 c0 d0 q0 q1 q2 q3 q4 =
      rw (q0, q1, q2, q3, q4)
      (record {
        name = a0.is;
        domain = maybe_found_lem mem words n (option_of (ascii "-domain") ws) domain a1;
        below = refl;
        input = list_found mem words n (option_of (ascii "-input_supply_port") ws) input a2;
        output = list_found mem words n (option_of (ascii "-output_supply_port") ws) output a3;
        controls = list_found mem words n (option_of (ascii "-control_port") ws) controls a4;
        from = refl;
        ons = refl;
        offs = refl;
        within = λ e z m h l.
            max-le {a = e named} (le_trans (a0.within e z) l)
            (max-le {a = of_maybe (λ s. e (span_of s)) (maybe_found domain)} (le_trans (maybe_by mem words n e z (option_of (ascii "-domain") ws) domain a1) l)
            (max-le {a = e (span_of scope)} h
            (max-le {a = e (span_of (found_or input))} (le_trans (found_by_lem mem words n e z (option_of (ascii "-input_supply_port") ws) input a2) l)
            (max-le {a = e (span_of (found_or output))} {b = e (span_of (found_or controls))} (le_trans (found_by_lem mem words n e z (option_of (ascii "-output_supply_port") ws) output a3) l)
            (le_trans (found_by_lem mem words n e z (option_of (ascii "-control_port") ws) controls a4) l)))));
      })

-- ---- a limit is passed: no word is put
none_put : (long : ℕ) (mem : Bytes) (s : State) (st : Store) (log : Bytes) (r : Made) (t : Model) → Did long mem st log s r t → Did long mem (worded st []) log (words_set s (s.fill.words + 0)) r t
none_put long mem s st log r t d = rw (add-zero, append-nil) d

module _ (long : ℕ) (mem : Bytes) (words : List ℕ) (n : ℕ) (s : State) (st : Store) (log : Bytes) (v : Ready long mem words n st s) where
  abbrev told : Model
  told = model_of mem st s log

  switch_count : length told.switches ≡ s.switches.n
  unfolding model_of
  switch_count = sized_length (switch_of mem st.words) v.shaped.switches

  switch_over : 32 ≤ s.switches.n → Did long mem st log s (full_made s) (switch_command (model_of mem st s log) (bytes mem (pair_at words 0)) (words_from mem words n 1))
  unfolding switch_command
  switch_over h =
      did_full long mem st log s v.shaped v.bounded (switch_command told (bytes mem (pair_at words 0)) (words_from mem words n 1))
      (fit_switches told (now_fits mem st s log v.shaped) (switch_command told (bytes mem (pair_at words 0)) (words_from mem words n 1)).switches
      ∙ one_over told.switches _ s.switches.n 32 switch_count h)

  port_count : length told.port_states ≡ s.portstates.n
  unfolding model_of
  port_count = sized_length (port_state_of mem st.words) v.shaped.portstates

  port_over : 32 ≤ s.portstates.n → Did long mem st log s (full_made s) (port_state_command (model_of mem st s log) (bytes mem (pair_at words 0)) (words_from mem words n 1))
  unfolding port_state_command
  port_over h =
      did_full long mem st log s v.shaped v.bounded (port_state_command told (bytes mem (pair_at words 0)) (words_from mem words n 1))
      (fit_port_states told (now_fits mem st s log v.shaped) (port_state_command told (bytes mem (pair_at words 0)) (words_from mem words n 1)).port_states
      ∙ one_over told.port_states _ s.portstates.n 32 port_count h)

-- the room for words, by what a command is told of the state
stored_is : (s : State) (b : Brief) → brief_of s ≡ b → b.words ≤ 63 * (b.switches + b.portstates) → s.fill.words ≤ 63 * (s.switches.n + s.portstates.n)
stored_is s b o h = rw (← o) at h

module _ (files area : Bytes) (words : List ℕ) (n : ℕ) (nums : List ℕ) (b : Brief) (one two : Bytes) (w : WordRoom one two (files ++ area) words n nums b) where
  pub switch_full : 32 ≤ b.switches → WordsDid files area words n nums nums b deed.Full (λ (m : Model). switch_command m (bytes (files ++ area) (pair_at words 0)) (words_from (files ++ area) words n 1))
  unfolding words_put
  switch_full h =
      record {
        put = [];
        becomes = refl;
        done = λ s o.
            let l : 32 ≤ s.switches.n = omega (arith, h, ap (λ (z : Brief). z.switches) o) in
            record { fits = tt; stored = stored_is s b o w.stored; did = λ st log v. none_put (length files) (files ++ area) s st log (full_made s) _ (switch_over (length files) (files ++ area) words n s st log v l) };
      }

  pub port_full : 32 ≤ b.portstates → WordsDid files area words n nums nums b deed.Full (λ (m : Model). port_state_command m (bytes (files ++ area) (pair_at words 0)) (words_from (files ++ area) words n 1))
  unfolding words_put
  port_full h =
      record {
        put = [];
        becomes = refl;
        done = λ s o.
            let l : 32 ≤ s.portstates.n = omega (arith, h, ap (λ (z : Brief). z.portstates) o) in
            record { fits = tt; stored = stored_is s b o w.stored; did = λ st log v. none_put (length files) (files ++ area) s st log (full_made s) _ (port_over (length files) (files ++ area) words n s st log v l) };
      }

-- ---- the commands
module _ (mem : Bytes) (words : List ℕ) (n : ℕ) (nums : List ℕ) (b : Brief) (one two : Bytes) (w : WordRoom one two mem words n nums b) where
  abbrev line : List Bytes
  line = strings mem words 0 n

  abbrev name : Bytes
  name = bytes mem (pair_at words 0)

  abbrev rest : List Bytes
  rest = words_from mem words n 1

  -- a command has at most 63 states
  few_states : length (states one two (strings mem words 0 n)) ≤ 63
  few_states =
      let e : states one two line ≡ states one two rest = line_states mem words n one two ∙ behind_name one two name rest w.named in
      omega (arith, ap length e, states_half one two rest, strings_length mem words 1 (n - 1), w.few)

  -- ---- there is room
  switch_last : b.switches < 32 → b.words + length (states one two (strings mem words 0 n)) ≤ 4032
  switch_last h = omega (arith, w.stored, w.portstates, few_states)

  pub switch_room : b.switches < 32 → PutRoom words n nums (b.words + length (chosen true (states one two (strings mem words 0 n))))
  switch_room h = record { line = w.line; long = w.long; room = omega (arith, switch_last h, both_kinds (states one two line)) }

  port_last : b.portstates < 32 → b.words + length (chosen true (states one two (strings mem words 0 n))) ≤ 4032
  port_last h = omega (arith, w.stored, w.switches, few_states, both_kinds (states one two line))

  pub port_room : b.portstates < 32 → PutRoom words n nums (b.words + length (chosen true (states one two (strings mem words 0 n))))
  port_room h = record { line = w.line; long = w.long; room = port_last h }

  module _ (nums1 : List ℕ) (end : ℕ) (p : Puts mem words n (chosen true (states one two (strings mem words 0 n))) nums nums1 b.words end) where
    its_length : length p.put ≡ length (chosen true (states one two line))
    its_length = sym (length-map p.put (string mem)) ∙ ap length p.is

    pub switch_room_2 : b.switches < 32 → PutRoom words n nums1 (end + length (chosen false (states one two (strings mem words 0 n))))
    switch_room_2 h =
        let e : length nums1 ≡ length nums = ap length p.becomes ∙ words_long nums b.words p.put in
        record { line = w.line; long = omega (arith, e, w.long); room = omega (arith, switch_last h, both_kinds (states one two line), p.ends, its_length) }

    pub port_first : b.portstates < 32 → b.words < 2 ^ 32
    port_first h = omega (arith, port_last h)

    pub port_begins : b.words ≤ end
    port_begins = omega (arith, p.ends)

    pub port_count_fits : b.portstates < 32 → end - b.words < 2 ^ 32
    port_count_fits h = omega (arith, port_last h, p.ends, its_length)

  -- ---- a switch more
  module _ (nums1 nums2 : List ℕ) (mid end : ℕ) (p : Puts mem words n (chosen true (states one two (strings mem words 0 n))) nums nums1 b.words mid) (q : Puts mem words n (chosen false (states one two (strings mem words 0 n))) nums1 nums2 mid end) where
    abbrev put : List Stored
    put = p.put ++ q.put

    put_length : length put ≡ length p.put + length q.put
    put_length = length-append p.put q.put

    ons_length : length p.put ≡ length (chosen true (states one two line))
    ons_length = sym (length-map p.put (string mem)) ∙ ap length p.is

    offs_length : length q.put ≡ length (chosen false (states one two line))
    offs_length = sym (length-map q.put (string mem)) ∙ ap length q.is

    few_put : length put ≤ 63
    few_put = omega (arith, put_length, ons_length, offs_length, both_kinds (states one two line), few_states)

    end_is : end ≡ b.words + length put
    end_is = omega (arith, p.ends, q.ends, put_length)

    pub switch_room_3 : b.switches < 32 → SwitchRoom words n b.words mid end
    switch_room_3 h =
        record { line = w.line; begins = omega (arith, p.ends); goes_on = omega (arith, q.ends); last = omega (arith, switch_last h, few_put, end_is, put_length, ons_length, offs_length, both_kinds (states one two line)) }

    both_becomes : nums2 ≡ words_put nums b.words put
    both_becomes = q.becomes ∙ ap (λ (l : List ℕ). words_put l mid q.put) p.becomes ∙ ap (λ (k : ℕ). words_put (words_put nums b.words p.put) k q.put) p.ends ∙ words_then nums b.words p.put q.put

    pub both_long : length nums2 ≡ length nums
    both_long = ap length both_becomes ∙ words_long nums b.words put

    module _ (long : ℕ) (s : State) (o : brief_of s ≡ b) (st : Store) (log : Bytes) (v : Ready long mem words n st s) where
      abbrev now : Model
      now = model_of mem st s log

      words_is : s.fill.words ≡ b.words
      words_is = ap (λ (z : Brief). z.words) o

      here : length st.words ≡ b.words
      here = sym v.shaped.words ∙ words_is

      put_ends : Within (reach_of long) (length mem) put
      put_ends = within_append (reach_of long) (within_le (reach_of long) v.line (p.within (reach long) (none_reach long))) (within_le (reach_of long) v.line (q.within (reach long) (none_reach long)))

      ons_at : words_at mem (st.words ++ put) b.words (length p.put) ≡ chosen true (states one two line)
      ons_at = ap (map (string mem)) (ons_part st.words p.put q.put b.words here) ∙ p.is

      offs_at : words_at mem (st.words ++ put) (b.words + length p.put) (length q.put) ≡ chosen false (states one two line)
      offs_at = ap (map (string mem)) (offs_part st.words p.put q.put b.words here) ∙ q.is

      module _ (x : Switch) (a : SwitchIs mem words n b.scope b.words mid end x) where
        x_ons : x.ons ≡ length p.put
        x_ons = omega (arith, a.ons, p.ends)

        x_offs : x.offs ≡ length q.put
        x_offs = omega (arith, a.offs, q.ends)

        x_words : switch_words x ≤ length (st.words ++ put)
        x_words = omega (arith, a.from, x_ons, x_offs, length-append st.words put, put_length, here)

        abbrev st1 : Store
        st1 = worded st put

        abbrev s1 : State
        s1 = words_set s (s.fill.words + length put)

        scope_is_lem : string mem x.scope ≡ now.scope
        unfolding model_of
        scope_is_lem = ap (string mem) (a.below ∙ sym (ap (λ (z : Brief). z.scope) o))

        supply_is : (y : Stored) (es : List Bytes) → list (string mem y) ≡ es → supply_of (at_scope (string mem x.scope)) (list (string mem y)) ≡ supply_of now es
        supply_is y es e = ap (λ (z : Bytes). supply_of (at_scope z) (list (string mem y))) scope_is_lem ∙ ap (supply_of (at_scope now.scope)) e ∙ sym (supply_scope now es)

        on_is : map on_of (words_at mem (st.words ++ put) x.first x.ons) ≡ flat_map on_state (states one two (name ∷ rest))
        on_is =
            ap (λ (f : ℕ). map on_of (words_at mem (st.words ++ put) f x.ons)) a.from
            ∙ ap (λ (c : ℕ). map on_of (words_at mem (st.words ++ put) b.words c)) x_ons
            ∙ ap (map on_of) ons_at ∙ sym (ons_are (states one two line)) ∙ ap (flat_map on_state) (line_states mem words n one two)

        off_is : map named_of (words_at mem (st.words ++ put) (x.first + x.ons) x.offs) ≡ flat_map off_state (states one two (name ∷ rest))
        off_is =
            ap (λ (f : ℕ). map named_of (words_at mem (st.words ++ put) (f + x.ons) x.offs)) a.from
            ∙ ap (λ (c : ℕ). map named_of (words_at mem (st.words ++ put) (b.words + c) x.offs)) x_ons
            ∙ ap (λ (c : ℕ). map named_of (words_at mem (st.words ++ put) (b.words + length p.put) c)) x_offs
            ∙ ap (map named_of) offs_at ∙ sym (offs_are (states one two line)) ∙ ap (flat_map off_state) (line_states mem words n one two)

        switch_is : switch_of mem (st.words ++ put) x ≡ new_switch one two now name rest
        unfolding switch_of new_switch
        switch_is = λ i. record {
          name = a.name i;
          domain = a.domain i;
          input = supply_is x.input (option_list "-input_supply_port" rest) a.input i;
          output = supply_is x.output (option_list "-output_supply_port" rest) a.output i;
          controls = controls_of (a.controls i);
          on_states = on_is i;
          off_states = off_is i;
        }

        switch_did : (h : s.switches.n < 32) → Did long mem st1 log s1 (fine_made (switch_added s1 x)) (with_switches now (now.switches ++ (new_switch one two now name rest ∷ [])))
        switch_did h =
            let l : s.switches.n < length s.switches.all = omega (arith, v.shaped.switches.long) in
            let y : Bounded (reach_of long) (length mem) st1 s1 = grown_bounded (reach_of long) (length mem) st s put v.bounded put_ends (s.fill.words + length put) in
            did_state long mem st1 log s1 (grown_shaped st s v.shaped put) y (switch_added s1 x) (with_switches now (now.switches ++ (new_switch one two now name rest ∷ [])))
            (switch_view mem st1 s1 log x l
            ∙ ap (λ (m : Model). with_switches m (m.switches ++ (switch_of mem (st.words ++ put) x ∷ []))) (grown_view st s v.shaped put mem log)
            ∙ ap (λ (y : Switchʳ). with_switches now (now.switches ++ (y ∷ []))) switch_is)
            (switch_shaped st1 s1 (grown_shaped st s v.shaped put) x h x_words)
            (switch_bounded (reach_of long) (length mem) st1 s1 y x l (a.within (reach long) (none_reach long) (length mem) (rw (ap (λ (z : Brief). z.scope) o) at v.bounded.scope) v.line))
            (record { count = refl; scope = refl; end = refl; log = refl; words = refl })

-- the number of words by another name
moved : (mem : Bytes) (st : Store) (log : Bytes) (s u : State) (long : ℕ) (t : Model) (k j : ℕ) → k ≡ j → Did long mem st log s (fine_made (words_set u k)) t → Did long mem st log s (fine_made (words_set u j)) t
moved mem st log s u long t k j e d = rw (← e) d

module _ (files area : Bytes) (words : List ℕ) (n : ℕ) (nums : List ℕ) (b : Brief) (one two : Bytes) (w : WordRoom one two (files ++ area) words n nums b) (nums1 nums2 : List ℕ) (mid end : ℕ) (p : Puts (files ++ area) words n (chosen true (states one two (strings (files ++ area) words 0 n))) nums nums1 b.words mid) (q : Puts (files ++ area) words n (chosen false (states one two (strings (files ++ area) words 0 n))) nums1 nums2 mid end) where
  pub switch_words_did : (command : Model → Model) → ((m : Model) → with_switches m (m.switches ++ (new_switch one two m (bytes (files ++ area) (pair_at words 0)) (words_from (files ++ area) words n 1) ∷ [])) ≡ command m) → (x : Switch) → b.switches < 32 → SwitchIs (files ++ area) words n b.scope b.words mid end x → WordsDid files area words n nums nums2 b (deed.Switch x end) command
  switch_words_did command t x h a =
      record {
        put = p.put ++ q.put;
        becomes = both_becomes (files ++ area) words n nums b one two w nums1 nums2 mid end p q;
        done = λ s o.
            let l : s.switches.n < 32 = omega (arith, h, ap (λ (z : Brief). z.switches) o) in
            let k : s.fill.words + length (p.put ++ q.put) ≡ end = ap (λ (z : Brief). z.words + length (p.put ++ q.put)) o ∙ sym (end_is (files ++ area) words n nums b one two w nums1 nums2 mid end p q) in
            record {
              fits = l;
              stored = omega (arith, k, few_put (files ++ area) words n nums b one two w nums1 nums2 mid end p q, stored_is s b o w.stored);
              did = λ st log v. rw (← (t (model_of (files ++ area) st s log)))
                  (moved (files ++ area) (worded st (p.put ++ q.put)) log (words_set s (s.fill.words + length (p.put ++ q.put))) (switch_added s x) (length files) _ (s.fill.words + length (p.put ++ q.put)) end k
                  (switch_did (files ++ area) words n nums b one two w nums1 nums2 mid end p q (length files) s o st log v x a l));
            };
      }

-- ---- a port state more
module _ (mem : Bytes) (words : List ℕ) (n : ℕ) (nums : List ℕ) (b : Brief) (key : Bytes) (w : WordRoom key key mem words n nums b) (nums1 : List ℕ) (end : ℕ) (p : Puts mem words n (chosen true (states key key (strings mem words 0 n))) nums nums1 b.words end) (r : Span) (y : Stored) (a : Reads mem words n (name_of (words_from mem words n 1)) r) (e : y ≡ stored_of r) where
  abbrev portstate : PortState
  portstate = record { name = record { scope = b.scope; word = y }; first = b.words; count = end - b.words }

  count_is : end - b.words ≡ length p.put
  count_is = omega (arith, p.ends)

  put_few : length p.put ≤ 63
  put_few =
      omega (arith, few_states mem words n nums b key key w, both_kinds (states key key (strings mem words 0 n)), length-map p.put (string mem), ap length p.is)

  module _ (long : ℕ) (s : State) (o : brief_of s ≡ b) (st : Store) (log : Bytes) (v : Ready long mem words n st s) where
    abbrev port_now : Model
    port_now = model_of mem st s log

    port_here_lem : length st.words ≡ b.words
    port_here_lem = sym v.shaped.words ∙ ap (λ (z : Brief). z.words) o

    states_at : words_at mem (st.words ++ p.put) b.words (end - b.words) ≡ chosen true (states key key (strings mem words 0 n))
    states_at = ap (λ (c : ℕ). words_at mem (st.words ++ p.put) b.words c) count_is ∙ ap (map (string mem)) (all_part st.words p.put b.words port_here_lem) ∙ p.is

    named_is : string mem y ≡ name_of (words_from mem words n 1)
    named_is = rw e a.is

    below_is : string mem b.scope ≡ port_now.scope
    unfolding model_of
    below_is = ap (λ (z : Brief). string mem z.scope) (sym o)

    portstate_is : port_state_of mem (st.words ++ p.put) portstate ≡ new_port_state key port_now (bytes mem (pair_at words 0)) (words_from mem words n 1)
    unfolding port_state_of new_port_state
    portstate_is = λ i. record {
      name = scoped (below_is i) (named_is i);
      states = (ap (map named_of) states_at ∙ sym (ports_are key (strings mem words 0 n)) ∙ ap (map port_state_ofʳ) (line_states mem words n key key)) i;
    }

    port_did : (h : s.portstates.n < 32) → Did long mem (worded st p.put) log (words_set s (s.fill.words + length p.put)) (fine_made (portstate_added (words_set s (s.fill.words + length p.put)) portstate)) (with_port_states port_now (port_now.port_states ++ (new_port_state key port_now (bytes mem (pair_at words 0)) (words_from mem words n 1) ∷ [])))
    port_did h =
        let l : s.portstates.n < length s.portstates.all = omega (arith, v.shaped.portstates.long) in
        let q : Within (reach_of long) (length mem) p.put = within_le (reach_of long) v.line (p.within (reach long) (none_reach long)) in
        let x : Bounded (reach_of long) (length mem) (worded st p.put) (words_set s (s.fill.words + length p.put)) = grown_bounded (reach_of long) (length mem) st s p.put v.bounded q (s.fill.words + length p.put) in
        let k : port_words portstate ≤ length (st.words ++ p.put) = omega (arith, count_is, length-append st.words p.put, port_here_lem) in
        let c : of_below (reach_of long) portstate.name ≤ length mem = max-le {a = reach_of long b.scope} {b = reach_of long y} (rw (ap (λ (z : Brief). z.scope) o) at v.bounded.scope) (rw e (le_trans (a.within (reach long) (none_reach long)) v.line)) in
        did_state long mem (worded st p.put) log (words_set s (s.fill.words + length p.put)) (grown_shaped st s v.shaped p.put) x (portstate_added (words_set s (s.fill.words + length p.put)) portstate) (with_port_states port_now (port_now.port_states ++ (new_port_state key port_now (bytes mem (pair_at words 0)) (words_from mem words n 1) ∷ [])))
        (portstate_view mem (worded st p.put) (words_set s (s.fill.words + length p.put)) log portstate l
        ∙ ap (λ (m : Model). with_port_states m (m.port_states ++ (port_state_of mem (st.words ++ p.put) portstate ∷ []))) (grown_view st s v.shaped p.put mem log)
        ∙ ap (λ (z : PortStateʳ). with_port_states port_now (port_now.port_states ++ (z ∷ []))) portstate_is)
        (portstate_shaped (worded st p.put) (words_set s (s.fill.words + length p.put)) (grown_shaped st s v.shaped p.put) portstate h k)
        (portstate_bounded (reach_of long) (length mem) (worded st p.put) (words_set s (s.fill.words + length p.put)) x portstate l c)
        (record { count = refl; scope = refl; end = refl; log = refl; words = refl })

module _ (files area : Bytes) (words : List ℕ) (n : ℕ) (nums : List ℕ) (b : Brief) (key : Bytes) (w : WordRoom key key (files ++ area) words n nums b) (nums1 : List ℕ) (end : ℕ) (p : Puts (files ++ area) words n (chosen true (states key key (strings (files ++ area) words 0 n))) nums nums1 b.words end) (r : Span) (y : Stored) (a : Reads (files ++ area) words n (name_of (words_from (files ++ area) words n 1)) r) (e : y ≡ stored_of r) where
  pub port_words_did : (command : Model → Model) → ((m : Model) → with_port_states m (m.port_states ++ (new_port_state key m (bytes (files ++ area) (pair_at words 0)) (words_from (files ++ area) words n 1) ∷ [])) ≡ command m) → b.portstates < 32 → WordsDid files area words n nums nums1 b (deed.PortState (record { name = record { scope = b.scope; word = y }; first = b.words; count = end - b.words }) end) command
  port_words_did command t h =
      record {
        put = p.put;
        becomes = p.becomes;
        done = λ s o.
            let l : s.portstates.n < 32 = omega (arith, h, ap (λ (z : Brief). z.portstates) o) in
            let k : s.fill.words + length p.put ≡ end = ap (λ (z : Brief). z.words + length p.put) o ∙ sym p.ends in
            record {
              fits = l;
              stored = omega (arith, k, put_few (files ++ area) words n nums b key w nums1 end p r y a e, stored_is s b o w.stored);
              did = λ st log v. rw (← (t (model_of (files ++ area) st s log)))
                  (moved (files ++ area) (worded st p.put) log (words_set s (s.fill.words + length p.put)) (portstate_added s (portstate (files ++ area) words n nums b key w nums1 end p r y a e)) (length files) _ (s.fill.words + length p.put) end k
                  (port_did (files ++ area) words n nums b key w nums1 end p r y a e (length files) s o st log v l));
            };
      }
