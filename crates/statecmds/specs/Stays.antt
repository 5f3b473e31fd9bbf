-- The room for words of states is kept by every command: none takes a switch or a port state away. Assumes nothing.
use Rattle.std.specs.Prelude.{ℕ, ◌+◌, ◌*◌, ◌≤◌, ◌<◌, ◌^◌, ◌≡◌, refl, Bool, true, false, cond, List, [], ◌∷◌, ◌++◌, length, Option, None, Some, option_map}
use Rattle.std.proofs.Common.{arith, ap, length-append}
use Rattle.text.specs.Ascii.{Bytes, ascii}
use Rattle.text.specs.Compare.{same}
use Rattle.text.specs.Scan.{any}
use Rattle.out.specs.Fill.{format1}
use Rattle.spans.specs.Span.{bytes, pair_at, pairs}
use Rattle.spans.specs.Reach.{span_end, last_of}
use Rattle.tcl.specs.Arguments.{positionals, option_of, has_flag, name_of, is_key}
use Rattle.model.specs.Names.{Command, is_query}
use Rattle.model.specs.Records.{Model, Domain, Switch, PortState, Table, with_domains, with_nets, with_isolations, with_tables, with_switches, with_port_states}
use Rattle.model.specs.Commands.{below_scope, warned, on_first, or_warned, supplied, is_strategy, domain_of, updated, added, controlled, table_of, with_state, set_to, set_command, puts_command, design_top_command, domain_command, net_command, port_command, connect_command, supply_command, switch_command, isolation_command, control_command, retention_command, shifter_command, port_state_command, table_command, table_state_command, unsupported, carried_out}
use Rattle.store.specs.Start.{Fresh}
use Rattle.store.specs.View.{Store, switch_of, port_state_of, model_of}
use Rattle.store.specs.Order.{Shaped}
use Rattle.store.specs.Tables.{sized_length}
use Rattle.store.specs.declared.state.State.{State}
use Rattle.made.specs.Made.{brief_of}
use Rattle.statecmds.specs.Stated.{WordRoom}

-- the records that have words
unfoldable pub worded_records : Model → ℕ
worded_records m = length m.switches + length m.port_states

by_test : (k : ℕ) (b : Bool) (x y : Model) → k ≤ worded_records x → k ≤ worded_records y → k ≤ worded_records (cond b x y)
by_test k true x y p q = p
by_test k false x y p q = q

by_first : {A : Type 0} (k : ℕ) (o : Option (List A)) (go : List A → Model) (z : Model) → ((xs : List A) → k ≤ worded_records (go xs)) → k ≤ worded_records z → k ≤ worded_records (or_warned o go z)
by_first k None go z p q = q
by_first k (Some xs) go z p q = p xs

-- both tables are kept
stay : (m x : Model) → x.switches ≡ m.switches → x.port_states ≡ m.port_states → worded_records m ≤ worded_records x
unfolding worded_records
stay m x p q = rw (p, q) (omega arith)

by_set : (m : Model) (ps : List Bytes) → worded_records m ≤ worded_records (set_to m ps)
by_set m [] = stay m m refl refl
by_set m (n ∷ []) = stay m m refl refl
by_set m (n ∷ v ∷ ps) = stay m _ refl refl

pub unsupported_stays : (m : Model) (w : Bytes) → worded_records m ≤ worded_records (unsupported m w)
unfolding unsupported
unsupported_stays m w = by_test (worded_records m) (is_query w) m (warned m (format1 "unsupported UPF command '{0}' ignored" w)) (stay m m refl refl) (stay m _ refl refl)

more_switches : (m : Model) (xs : List Switch) → worded_records m ≤ worded_records (with_switches m (m.switches ++ xs))
unfolding worded_records
more_switches m xs = omega (arith, length-append m.switches xs)

more_port_states : (m : Model) (xs : List PortState) → worded_records m ≤ worded_records (with_port_states m (m.port_states ++ xs))
unfolding worded_records
more_port_states m xs = omega (arith, length-append m.port_states xs)

pub records_stay : (c : Command) (m : Model) (w : Bytes) (ws : List Bytes) → worded_records m ≤ worded_records (carried_out c m w ws)
unfolding set_command puts_command design_top_command domain_command net_command port_command connect_command supply_command switch_command isolation_command control_command retention_command shifter_command port_state_command table_command table_state_command
records_stay Command.set m w ws = by_set m (positionals ws)
records_stay Command.puts m w ws = stay m _ refl refl
records_stay Command.set_design_top m w ws = stay m _ refl refl
records_stay Command.create_power_domain m w ws = stay m _ refl refl
records_stay Command.create_supply_net m w ws = by_test (worded_records m) (any (λ n. same n (below_scope m (name_of ws))) m.nets) m (with_nets m (m.nets ++ (below_scope m (name_of ws) ∷ []))) (stay m m refl refl) (stay m _ refl refl)
records_stay Command.create_supply_port m w ws = stay m _ refl refl
records_stay Command.connect_supply_net m w ws = stay m _ refl refl
records_stay Command.set_domain_supply_net m w ws =
    by_first (worded_records m)
    (on_first (λ (d : Domain). same d.name (name_of ws)) (supplied (option_map (below_scope m) (option_of (ascii "-primary_power_net") ws)) (option_map (below_scope m) (option_of (ascii "-primary_ground_net") ws))) m.domains)
    (with_domains m) (warned m (format1 "set_domain_supply_net: unknown power domain '{0}'" (name_of ws))) (λ xs. stay m (with_domains m xs) refl refl) (stay m _ refl refl)
records_stay Command.create_power_switch m w ws = more_switches m _
records_stay Command.set_isolation m w ws =
    by_test (worded_records m) (has_flag (ascii "-no_isolation") ws) (warned m (format1 "set_isolation {0}: -no_isolation, ignored" (name_of ws)))
    (cond (has_flag (ascii "-update") ws) (or_warned (on_first (is_strategy (name_of ws) (domain_of ws)) (updated m ws) m.isolations) (with_isolations m) (added m ws)) (added m ws)) (stay m _ refl refl)
    (by_test (worded_records m) (has_flag (ascii "-update") ws) (or_warned (on_first (is_strategy (name_of ws) (domain_of ws)) (updated m ws) m.isolations) (with_isolations m) (added m ws)) (added m ws)
    (by_first (worded_records m) (on_first (is_strategy (name_of ws) (domain_of ws)) (updated m ws) m.isolations) (with_isolations m) (added m ws) (λ xs. stay m (with_isolations m xs) refl refl) (stay m (added m ws) refl refl))
    (stay m (added m ws) refl refl))
records_stay Command.set_isolation_control m w ws =
    by_first (worded_records m) (on_first (is_strategy (name_of ws) (domain_of ws)) (controlled ws) m.isolations) (with_isolations m)
    (warned m (format1 "set_isolation_control: unknown isolation strategy '{0}'" (name_of ws))) (λ xs. stay m (with_isolations m xs) refl refl) (stay m _ refl refl)
records_stay Command.set_retention m w ws = stay m _ refl refl
records_stay Command.set_retention_control m w ws = stay m m refl refl
records_stay Command.set_level_shifter m w ws = stay m _ refl refl
records_stay Command.add_port_state m w ws = more_port_states m _
records_stay Command.create_pst m w ws = stay m _ refl refl
records_stay Command.add_pst_state m w ws =
    by_first (worded_records m) (on_first (λ (t : Table). same t.name (table_of ws)) (with_state ws) m.tables) (with_tables m)
    (warned m (format1 "add_pst_state: unknown PST '{0}'" (table_of ws))) (λ xs. stay m (with_tables m xs) refl refl) (stay m _ refl refl)
records_stay Command.not_simulated m w ws = stay m _ refl refl

-- the numbers of the state are those of the records
pub records_are : (mem : Bytes) (st : Store) (s : State) (log : Bytes) → Shaped st s → worded_records (model_of mem st s log) ≡ s.switches.n + s.portstates.n
unfolding model_of worded_records
records_are mem st s log v = omega (arith, sized_length (switch_of mem st.words) v.switches, sized_length (port_state_of mem st.words) v.portstates)

-- the room for words stays where no word is put
pub room_stays : (mem log : Bytes) (st st' : Store) (s u : State) (t : Model) → Shaped st s → Shaped st' u → model_of mem st' u log ≡ t → worded_records (model_of mem st s log) ≤ worded_records t → u.fill.words ≡ s.fill.words → s.fill.words ≤ 63 * (s.switches.n + s.portstates.n) → u.fill.words ≤ 63 * (u.switches.n + u.portstates.n)
room_stays mem log st st' s u t v w e h k q =
    omega (arith, records_are mem st s log v, records_are mem st' u log w, ap worded_records e)

-- there is room before the first command
pub room_first : (one two mem : Bytes) (words : List ℕ) (n : ℕ) (nums : List ℕ) (s : State) → Fresh s → last_of span_end (pairs words 0 n) < 2 ^ 32 → n ≤ 128 → is_key one two (bytes mem (pair_at words 0)) ≡ false → 16384 ≤ length nums → WordRoom one two mem words n nums (brief_of s)
room_first one two mem words n nums s f l h k g =
    record {
      line = l;
      few = h;
      named = k;
      long = g;
      switches = omega (arith, f.switches);
      portstates = omega (arith, f.portstates);
      stored = rw f.fill (omega arith);
    }
