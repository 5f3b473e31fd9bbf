-- Theorem: every reading that ends leaves records whose lists are within the limits. Assumes nothing.
use Rattle.std.specs.Prelude.{ℕ, zero, suc, ◌+◌, ◌*◌, ◌≤◌, max, Bool, ◌&&◌, not, option_map, Option, None, Some}
use Prim.Native.String.{String}
use Rattle.std.proofs.Common.{arith, le_trans, ap, leb-true}
use Rattle.std.proofs.Math.Path.{◌≡◌, refl}
use Rattle.std.proofs.Math.Bool.{true, false, cond}
use mathlib.Core.List.{List, [], ◌∷◌, ◌++◌, map, map-append}
use Rattle.std.proofs.Math.Dec.{leb}
use Rattle.std.proofs.Math.ListN.{length, length-append}
use Rattle.std.proofs.lemmas.List.{length-map}
use Rattle.text.specs.Ascii.{Bytes, ascii}
use Rattle.text.specs.Compare.{same}
use Rattle.text.specs.Scan.{all, any}
use Rattle.text.specs.Sames.{both}
use Rattle.out.specs.Fill.{format1}
use Rattle.tcl.specs.Lists.{list}
use Rattle.tcl.specs.Words.{Word}
use Rattle.tcl.specs.Substitution.{Variable, values, costs}
use Rattle.tcl.specs.Arguments.{positionals, option_of, has_flag, name_of}
use Rattle.joblines.specs.Job.{File, Job}
use Rattle.model.specs.Limits.{most_entries}
use Rattle.model.specs.Records.{Domain, Switch, Isolation, Retention, TableState, Table, Model, no_records, with_scope, with_design_top, with_domains, with_nets, with_isolations, with_tables}
use Rattle.model.specs.Names.{Command, Named, command_named, is_query}
use Rattle.model.specs.Commands.{option_list, all_below, below_scope, warned, on_first, or_warned, set_to, set_command, puts_command, design_top_command, scope_command, domain_command, net_command, port_command, connect_command, supplied, supply_command, controls_of, switch_states, switch_command, replaced, is_strategy, domain_of, new_isolation, updated, added, isolation_command, controlled, control_command, retention_command, shifter_command, port_state_command, table_command, table_of, with_state, table_state_command, unsupported, carried_out, given}
use Rattle.model.specs.Within.{option_value, state_values, lists_of, lists_by, total, entries_of, Counted, nothing_counted, records_fit, counts_fit, within}
use Rattle.read.specs.Reading.{Reading, done, refused, Line, line_of, entered_by, acts_by, counted_by, restored, afterwards, step, command, go_on, read_commands, file_named, read_body, read_file, reading, joined_path}
use Rattle.store.specs.Order.{Within as Bound, none_left, one_more}
use Rattle.store.specs.Tables.{within_snoc}
use Rattle.readfacts.specs.Few.{Few, most_values}

-- ---- lists of numbers within a limit

all_front : (t : ℕ → Bool) (xs ys : List ℕ) → all t (xs ++ ys) ≡ true → all t xs ≡ true
unfolding all
all_front t [] ys e = refl
all_front t (x ∷ xs) ys e =
    let a : t x ≡ true = (both (t x) (all t (xs ++ ys)) e).0 in
    let b : all t (xs ++ ys) ≡ true = (both (t x) (all t (xs ++ ys)) e).1 in
    rw (a, all_front t xs ys b)

-- the entries of an option's value
module _ (key : String) (ws : List Bytes) where
  few_option : all (λ k. leb k most_entries) (entries_of (option_value key ws)) ≡ true → length (option_list key ws) ≤ 64
  unfolding all
  few_option h = go (option_of (ascii key) ws) refl
    where
      go : (o : Option Bytes) → option_of (ascii key) ws ≡ o → length (option_list key ws) ≤ 64
      go None e = rw e (omega arith)
      go (Some v) e = rw e (leb-true (length (list v)) 64 (both (leb (length (list v)) 64) true (rw e at h)).0)

  total_option : total (entries_of (option_value key ws)) ≡ length (option_list key ws)
  unfolding total
  total_option = go (option_of (ascii key) ws) refl
    where
      go : (o : Option Bytes) → option_of (ascii key) ws ≡ o → total (entries_of (option_value key ws)) ≡ length (option_list key ws)
      go None e = rw e
      go (Some v) e = rw e (omega arith)

below_size : (m : Model) (ns : List Bytes) → length (all_below m ns) ≡ length ns
below_size m ns = length-map ns (below_scope m)

total_push : (xs : List ℕ) (x : ℕ) → total (xs ++ (x ∷ [])) ≡ total xs + x
unfolding total
total_push [] x = omega arith
total_push (y ∷ xs) x = rw (total_push xs x) (omega arith)

map_push : {A : Type 0} (f : A → ℕ) (xs : List A) (x : A) → map f (xs ++ (x ∷ [])) ≡ map f xs ++ (f x ∷ [])
map_push f [] x = refl
map_push f (y ∷ xs) x = ap (λ (l : List ℕ). f y ∷ l) (map_push f xs x)

-- the first that passes a test changed
module _ {A : Type 0} (t : A → Bool) (g : A → A) (e : A → ℕ) (n : ℕ) (keeps : (x : A) → e x ≤ n → e (g x) ≤ n) where
  first_kept : (xs ys : List A) → on_first t g xs ≡ Some ys → Bound e n xs → Bound e n ys
  unfolding on_first
  first_kept [] ys h none_left = absurd (let z : ◌≡◌ {A = ℕ} 0 1 = cc in omega arith)
  first_kept (x ∷ xs) ys h (one_more p b) = by (t x) refl (λ zs d. first_kept xs zs d b)
    where
      rest : (o : Option (List A)) → on_first t g xs ≡ o → option_map (λ (zs : List A). x ∷ zs) o ≡ Some ys → ((zs : List A) → on_first t g xs ≡ Some zs → Bound e n zs) → Bound e n ys
      rest None d f k = absurd (let z : ◌≡◌ {A = ℕ} 0 1 = cc in omega arith)
      rest (Some zs) d f k = let q : ys ≡ x ∷ zs = cc in rw q (one_more p (k zs d))

      by : (c : Bool) → t x ≡ c → ((zs : List A) → on_first t g xs ≡ Some zs → Bound e n zs) → Bound e n ys
      by true d k = let q : Some (g x ∷ xs) ≡ Some ys = rw d at h in let r : ys ≡ g x ∷ xs = cc in rw r (one_more (keeps x p) b)
      by false d k = rest (on_first t g xs) refl (rw d at h) k

-- ---- what no command but its own changes

pub few_more : (e e' : ℕ) (m : Model) → e ≤ e' → Few e m → Few e' m
few_more e e' m h f = record { domains = f.domains; switches = f.switches; isolations = f.isolations; tables = f.tables; states = f.states; retained = le_trans f.retained h }

module _ (e : ℕ) (m : Model) (f : Few e m) where
  few_warned : (t : Bytes) → Few e (warned m t)
  few_warned t = record { domains = f.domains; switches = f.switches; isolations = f.isolations; tables = f.tables; states = f.states; retained = f.retained }

  few_scope : (x : Bytes) → Few e (with_scope m x)
  few_scope x = record { domains = f.domains; switches = f.switches; isolations = f.isolations; tables = f.tables; states = f.states; retained = f.retained }

  few_top : (x : Option Bytes) → Few e (with_design_top m x)
  few_top x = record { domains = f.domains; switches = f.switches; isolations = f.isolations; tables = f.tables; states = f.states; retained = f.retained }

  few_domains : (xs : List Domain) → Bound (λ (d : Domain). length d.elements) 65 xs → Few e (with_domains m xs)
  few_domains xs b = record { domains = b; switches = f.switches; isolations = f.isolations; tables = f.tables; states = f.states; retained = f.retained }

  few_isolations : (xs : List Isolation) → Bound (λ (i : Isolation). length i.elements) 64 xs → Few e (with_isolations m xs)
  few_isolations xs b = record { domains = f.domains; switches = f.switches; isolations = b; tables = f.tables; states = f.states; retained = f.retained }

  few_tables : (xs : List Table) → Bound (λ (t : Table). length t.supplies) 64 xs → Bound (λ (t : Table). most_values t.states) 64 xs → Few e (with_tables m xs)
  few_tables xs b c = record { domains = f.domains; switches = f.switches; isolations = f.isolations; tables = b; states = c; retained = f.retained }

-- ---- each command: `fits` says that its lists are within the limit
abbrev Fits : List Bytes → Type 0
Fits vs = all (λ k. leb k most_entries) (entries_of vs) ≡ true

values_push : (ss : List TableState) (s : TableState) → most_values (ss ++ (s ∷ [])) ≡ max (most_values ss) (length s.values)
unfolding most_values
values_push [] s = omega arith
values_push (x ∷ ss) s = rw (values_push ss s) (omega arith)

controls_half : (k : ℕ) (es : List Bytes) → length es ≤ k → 2 * length (controls_of es) ≤ length es
controls_half k [] h = omega arith
controls_half k (p ∷ []) h = omega arith
controls_half zero (p ∷ s ∷ es) h = absurd (omega arith)
controls_half (suc zero) (p ∷ s ∷ es) h = absurd (omega arith)
controls_half (suc (suc k)) (p ∷ s ∷ es) h = let g : 2 * length (controls_of es) ≤ length es = controls_half k es (omega arith) in omega arith

module _ (e : ℕ) (m : Model) (f : Few e m) (w : Bytes) (ws : List Bytes) where
  few_set : Few e (set_command m ws)
  unfolding set_command
  few_set = go (positionals ws)
    where
      go : (ps : List Bytes) → Few e (set_to m ps)
      go [] = f
      go (n ∷ []) = f
      go (n ∷ v ∷ ps) = record { domains = f.domains; switches = f.switches; isolations = f.isolations; tables = f.tables; states = f.states; retained = f.retained }

  few_puts : Few e (puts_command m ws)
  unfolding puts_command
  few_puts = record { domains = f.domains; switches = f.switches; isolations = f.isolations; tables = f.tables; states = f.states; retained = f.retained }

  few_design_top : Few e (design_top_command m ws)
  unfolding design_top_command
  few_design_top = record { domains = f.domains; switches = f.switches; isolations = f.isolations; tables = f.tables; states = f.states; retained = f.retained }

  few_domain : Fits (option_value "-elements" ws) → Few e (domain_command m ws)
  unfolding domain_command
  few_domain h =
      few_domains e m f (m.domains ++ (record { name = name_of ws; elements = all_below m (option_list "-elements" ws) ++ cond (has_flag (ascii "-include_scope") ws) (m.scope ∷ []) []; power = None; ground_net = None; scope = m.scope } ∷ []))
      (within_snoc (λ (d : Domain). length d.elements) (record { name = name_of ws; elements = all_below m (option_list "-elements" ws) ++ cond (has_flag (ascii "-include_scope") ws) (m.scope ∷ []) []; power = None; ground_net = None; scope = m.scope }) f.domains (size (has_flag (ascii "-include_scope") ws)))
    where
      size : (b : Bool) → length (all_below m (option_list "-elements" ws) ++ cond b (m.scope ∷ []) []) ≤ 65
      size true = omega (arith, length-append (all_below m (option_list "-elements" ws)) (m.scope ∷ []), below_size m (option_list "-elements" ws), few_option "-elements" ws h)
      size false = omega (arith, length-append {A = Bytes} (all_below m (option_list "-elements" ws)) [], below_size m (option_list "-elements" ws), few_option "-elements" ws h)

  few_net : Few e (net_command m ws)
  unfolding net_command
  few_net = go (any (λ n. same n (below_scope m (name_of ws))) m.nets)
    where
      go : (b : Bool) → Few e (cond b m (with_nets m (m.nets ++ (below_scope m (name_of ws) ∷ []))))
      go true = f
      go false = record { domains = f.domains; switches = f.switches; isolations = f.isolations; tables = f.tables; states = f.states; retained = f.retained }

  few_port : Few e (port_command m ws)
  unfolding port_command
  few_port = record { domains = f.domains; switches = f.switches; isolations = f.isolations; tables = f.tables; states = f.states; retained = f.retained }

  few_connect : Few e (connect_command m ws)
  unfolding connect_command
  few_connect = record { domains = f.domains; switches = f.switches; isolations = f.isolations; tables = f.tables; states = f.states; retained = f.retained }

  few_supply : Few e (supply_command m ws)
  unfolding supply_command
  few_supply =
      go (on_first (λ (d : Domain). same d.name (name_of ws)) (supplied (option_map (below_scope m) (option_of (ascii "-primary_power_net") ws)) (option_map (below_scope m) (option_of (ascii "-primary_ground_net") ws))) m.domains) refl
    where
      go : (o : Option (List Domain)) → on_first (λ (d : Domain). same d.name (name_of ws)) (supplied (option_map (below_scope m) (option_of (ascii "-primary_power_net") ws)) (option_map (below_scope m) (option_of (ascii "-primary_ground_net") ws))) m.domains ≡ o
          → Few e (or_warned o (with_domains m) (warned m (format1 "set_domain_supply_net: unknown power domain '{0}'" (name_of ws))))
      go None d = few_warned e m f (format1 "set_domain_supply_net: unknown power domain '{0}'" (name_of ws))
      go (Some xs) d =
          few_domains e m f xs
          (first_kept (λ (x : Domain). same x.name (name_of ws)) (supplied (option_map (below_scope m) (option_of (ascii "-primary_power_net") ws)) (option_map (below_scope m) (option_of (ascii "-primary_ground_net") ws))) (λ (x : Domain). length x.elements) 65 (λ x h. h) m.domains xs d f.domains)

  few_switch : Fits (lists_of Command.create_power_switch w ws) → Few e (switch_command m w ws)
  unfolding switch_command
  few_switch h =
      let a : Fits (option_value "-control_port" ws) = all_front (λ k. leb k most_entries) (entries_of (option_value "-control_port" ws)) (entries_of (state_values (switch_states w ws) ++ (option_value "-input_supply_port" ws ++ option_value "-output_supply_port" ws))) (rw (map-append (λ (v : Bytes). length (list v)) (option_value "-control_port" ws) (state_values (switch_states w ws) ++ (option_value "-input_supply_port" ws ++ option_value "-output_supply_port" ws))) at h) in
      let b : length (option_list "-control_port" ws) ≤ 64 = few_option "-control_port" ws a in
      let c : 2 * length (controls_of (option_list "-control_port" ws)) ≤ length (option_list "-control_port" ws) = controls_half 64 (option_list "-control_port" ws) b in
      record { domains = f.domains; switches = within_snoc (λ (x : Switch). length x.controls) _ f.switches (omega arith); isolations = f.isolations; tables = f.tables; states = f.states; retained = f.retained }

  new_few : Fits (option_value "-elements" ws) → length (new_isolation m ws).elements ≤ 64
  new_few h = omega (arith, below_size m (option_list "-elements" ws), few_option "-elements" ws h)

  few_added : Fits (option_value "-elements" ws) → Few e (added m ws)
  few_added h = few_isolations e m f (m.isolations ++ (new_isolation m ws ∷ [])) (within_snoc (λ (i : Isolation). length i.elements) (new_isolation m ws) f.isolations (new_few h))

  updated_few : Fits (option_value "-elements" ws) → (x : Isolation) → length x.elements ≤ 64 → length (updated m ws x).elements ≤ 64
  updated_few h x g = go (all_below m (option_list "-elements" ws)) (omega (arith, below_size m (option_list "-elements" ws), few_option "-elements" ws h))
    where
      go : (es : List Bytes) → length es ≤ 64 → length (replaced es x.elements) ≤ 64
      go [] k = g
      go (y ∷ es) k = k

  few_isolation : Fits (option_value "-elements" ws) → Few e (isolation_command m ws)
  unfolding isolation_command
  few_isolation h = by (has_flag (ascii "-no_isolation") ws) (has_flag (ascii "-update") ws)
    where
      found : (o : Option (List Isolation)) → on_first (is_strategy (name_of ws) (domain_of ws)) (updated m ws) m.isolations ≡ o → Few e (or_warned o (with_isolations m) (added m ws))
      found None d = few_added h
      found (Some xs) d = few_isolations e m f xs (first_kept (is_strategy (name_of ws) (domain_of ws)) (updated m ws) (λ (i : Isolation). length i.elements) 64 (updated_few h) m.isolations xs d f.isolations)

      by : (a b : Bool) → Few e (cond a (warned m (format1 "set_isolation {0}: -no_isolation, ignored" (name_of ws))) (cond b (or_warned (on_first (is_strategy (name_of ws) (domain_of ws)) (updated m ws) m.isolations) (with_isolations m) (added m ws)) (added m ws)))
      by true b = few_warned e m f (format1 "set_isolation {0}: -no_isolation, ignored" (name_of ws))
      by false true = found (on_first (is_strategy (name_of ws) (domain_of ws)) (updated m ws) m.isolations) refl
      by false false = few_added h

  few_control : Few e (control_command m ws)
  unfolding control_command
  few_control = go (on_first (is_strategy (name_of ws) (domain_of ws)) (controlled ws) m.isolations) refl
    where
      go : (o : Option (List Isolation)) → on_first (is_strategy (name_of ws) (domain_of ws)) (controlled ws) m.isolations ≡ o → Few e (or_warned o (with_isolations m) (warned m (format1 "set_isolation_control: unknown isolation strategy '{0}'" (name_of ws))))
      go None d = few_warned e m f (format1 "set_isolation_control: unknown isolation strategy '{0}'" (name_of ws))
      go (Some xs) d = few_isolations e m f xs (first_kept (is_strategy (name_of ws) (domain_of ws)) (controlled ws) (λ (i : Isolation). length i.elements) 64 (λ x h. h) m.isolations xs d f.isolations)

  few_retention : Few (e + total (entries_of (option_value "-elements" ws))) (retention_command m ws)
  unfolding retention_command
  few_retention =
      let x : Retention = record { name = name_of ws; domain = domain_of ws; elements = all_below m (option_list "-elements" ws) } in
      let a : map (λ (r : Retention). length r.elements) (m.retentions ++ (x ∷ [])) ≡ map (λ (r : Retention). length r.elements) m.retentions ++ (length x.elements ∷ []) = map_push (λ (r : Retention). length r.elements) m.retentions x in
      record {
        domains = f.domains;
        switches = f.switches;
        isolations = f.isolations;
        tables = f.tables;
        states = f.states;
        retained = rw a (rw (total_push (map (λ (r : Retention). length r.elements) m.retentions) (length x.elements)) (omega (arith, f.retained, below_size m (option_list "-elements" ws), total_option "-elements" ws)));
      }

  few_shifter : Few e (shifter_command m ws)
  unfolding shifter_command
  few_shifter = record { domains = f.domains; switches = f.switches; isolations = f.isolations; tables = f.tables; states = f.states; retained = f.retained }

  few_port_state : Few e (port_state_command m w ws)
  unfolding port_state_command
  few_port_state = record { domains = f.domains; switches = f.switches; isolations = f.isolations; tables = f.tables; states = f.states; retained = f.retained }

  few_table : Fits (option_value "-supplies" ws) → Few e (table_command m ws)
  unfolding table_command most_values
  few_table h =
      let x : Table = record { name = name_of ws; supplies = all_below m (option_list "-supplies" ws); states = [] } in
      few_tables e m f (m.tables ++ (x ∷ []))
      (within_snoc (λ (t : Table). length t.supplies) x f.tables (omega (arith, below_size m (option_list "-supplies" ws), few_option "-supplies" ws h)))
      (within_snoc (λ (t : Table). most_values t.states) x f.states (omega arith))

  few_table_state : Fits (option_value "-state" ws) → Few e (table_state_command m ws)
  unfolding table_state_command
  few_table_state h = go (on_first (λ (t : Table). same t.name (table_of ws)) (with_state ws) m.tables) refl
    where
      grown : (t : Table) → most_values t.states ≤ 64 → most_values (with_state ws t).states ≤ 64
      grown t g = rw (values_push t.states (record { name = name_of ws; values = option_list "-state" ws })) (omega (arith, few_option "-state" ws h))

      go : (o : Option (List Table)) → on_first (λ (t : Table). same t.name (table_of ws)) (with_state ws) m.tables ≡ o → Few e (or_warned o (with_tables m) (warned m (format1 "add_pst_state: unknown PST '{0}'" (table_of ws))))
      go None d = few_warned e m f (format1 "add_pst_state: unknown PST '{0}'" (table_of ws))
      go (Some xs) d =
          few_tables e m f xs
          (first_kept (λ (t : Table). same t.name (table_of ws)) (with_state ws) (λ (t : Table). length t.supplies) 64 (λ t g. g) m.tables xs d f.tables)
          (first_kept (λ (t : Table). same t.name (table_of ws)) (with_state ws) (λ (t : Table). most_values t.states) 64 grown m.tables xs d f.states)

  few_unsupported : Few e (unsupported m w)
  unfolding unsupported
  few_unsupported = go (is_query w)
    where
      go : (b : Bool) → Few e (cond b m (warned m (format1 "unsupported UPF command '{0}' ignored" w)))
      go true = f
      go false = few_warned e m f (format1 "unsupported UPF command '{0}' ignored" w)

-- ---- a command that moves no scope
module _ (e : ℕ) (m : Model) (f : Few e m) (w : Bytes) (ws : List Bytes) where
  abbrev After : Command → Type 0
  After c = Few (e + total (entries_of (lists_of c w ws))) (carried_out c m w ws)

  more : (c : Command) (m' : Model) → Few e m' → Few (e + total (entries_of (lists_of c w ws))) m'
  more c m' g = few_more e (e + total (entries_of (lists_of c w ws))) m' (omega arith) g

  few_carried : (c : Command) → Fits (lists_of c w ws) → After c
  few_carried Command.set h = more Command.set (set_command m ws) (few_set e m f w ws)
  few_carried Command.puts h = more Command.puts (puts_command m ws) (few_puts e m f w ws)
  few_carried Command.set_design_top h = more Command.set_design_top (design_top_command m ws) (few_design_top e m f w ws)
  few_carried Command.create_power_domain h = more Command.create_power_domain (domain_command m ws) (few_domain e m f w ws h)
  few_carried Command.create_supply_net h = more Command.create_supply_net (net_command m ws) (few_net e m f w ws)
  few_carried Command.create_supply_port h = more Command.create_supply_port (port_command m ws) (few_port e m f w ws)
  few_carried Command.connect_supply_net h = more Command.connect_supply_net (connect_command m ws) (few_connect e m f w ws)
  few_carried Command.set_domain_supply_net h = more Command.set_domain_supply_net (supply_command m ws) (few_supply e m f w ws)
  few_carried Command.create_power_switch h = more Command.create_power_switch (switch_command m w ws) (few_switch e m f w ws h)
  few_carried Command.set_isolation h = more Command.set_isolation (isolation_command m ws) (few_isolation e m f w ws h)
  few_carried Command.set_isolation_control h = more Command.set_isolation_control (control_command m ws) (few_control e m f w ws)
  few_carried Command.set_retention h = few_retention e m f w ws
  few_carried Command.set_retention_control h = more Command.set_retention_control m f
  few_carried Command.set_level_shifter h = more Command.set_level_shifter (shifter_command m ws) (few_shifter e m f w ws)
  few_carried Command.add_port_state h = more Command.add_port_state (port_state_command m w ws) (few_port_state e m f w ws)
  few_carried Command.create_pst h = more Command.create_pst (table_command m ws) (few_table e m f w ws h)
  few_carried Command.add_pst_state h = more Command.add_pst_state (table_state_command m ws) (few_table_state e m f w ws h)
  few_carried Command.not_simulated h = more Command.not_simulated (warned m (format1 "'{0}' parsed but not simulated" w)) (few_warned e m f (format1 "'{0}' parsed but not simulated" w))

-- ---- any command
few_entered : (e : ℕ) (m : Model) (o : Option Bytes) → Few e m → Few e (entered_by o m)
few_entered e m None f = f
few_entered e m (Some s) f = few_scope e m f _

few_moved : (e : ℕ) (m : Model) (ws : List Bytes) → Few e m → Few e (scope_command m ws)
unfolding scope_command
few_moved e m ws f = few_scope e m f _

few_acts : (c : Named) (e : ℕ) (m : Model) (l : Line) → Few e m → Fits (lists_by c l.name l.rest) → Few (e + total (entries_of (lists_by c l.name l.rest))) (acts_by c m l)
few_acts Named.load_upf e m l f h = few_more e (e + total []) (entered_by (option_of (ascii "-scope") l.rest) m) (omega arith) (few_entered e m (option_of (ascii "-scope") l.rest) f)
few_acts Named.set_scope e m l f h = few_more e (e + total []) (scope_command m l.rest) (omega arith) (few_moved e m l.rest f)
few_acts (Named.other c) e m l f h = few_carried e m f l.name l.rest c h
few_acts Named.unknown e m l f h = few_more e (e + total []) (unsupported m l.name) (omega arith) (few_unsupported e m f l.name l.rest)

-- ---- what a reading leaves

abbrev pub FewIn : Reading → Type 0
FewIn (done n m) = Few n.entries m
FewIn (refused x k) = Unit {0}

few_restored : (m : Model) (r : Reading) → FewIn r → FewIn (restored m r)
few_restored m (done n m') f = few_top n.entries (with_scope m' m.scope) (few_scope n.entries m' f m.scope) (given m.design_top m'.design_top)
few_restored m (refused x k) f = f

-- a file that is loaded leaves few, whatever it finds
abbrev Loads : (Bytes → Counted → Model → Reading) → Type 0
Loads load = (p : Bytes) (n : Counted) (m : Model) → Few n.entries m → FewIn (load p n m)

module _ (load : Bytes → Counted → Model → Reading) (loads : Loads load) (path : Bytes) where
  few_afterwards : (c : Named) (l : Line) (m : Model) (n : Counted) (m' : Model) → Few n.entries m' → FewIn (afterwards load path c l m n m')
  few_afterwards Named.load_upf l m n m' f = few_restored m (load (joined_path path (name_of l.rest)) n m') (loads (joined_path path (name_of l.rest)) n m' f)
  few_afterwards Named.set_scope l m n m' f = f
  few_afterwards (Named.other c) l m n m' f = f
  few_afterwards Named.unknown l m n m' f = f

  few_step : (c : Named) (words cost : ℕ) (l : Line) (n : Counted) (m : Model) → Few n.entries m → FewIn (step load path c words cost l n m)
  few_step c words cost l n m f = go (within words (entries_of (lists_by c l.name l.rest)) (counted_by c cost l n (acts_by c m l)) (acts_by c m l)) refl
    where
      go : (b : Bool) → within words (entries_of (lists_by c l.name l.rest)) (counted_by c cost l n (acts_by c m l)) (acts_by c m l) ≡ b
          → FewIn (cond b (afterwards load path c l m (counted_by c cost l n (acts_by c m l)) (acts_by c m l)) (refused 10 (n.commands + 1)))
      go true h =
          let a : all (λ k. leb k most_entries) (entries_of (lists_by c l.name l.rest)) && (counts_fit (counted_by c cost l n (acts_by c m l)) && records_fit (acts_by c m l)) ≡ true = (both (leb words 128) (all (λ k. leb k most_entries) (entries_of (lists_by c l.name l.rest)) && (counts_fit (counted_by c cost l n (acts_by c m l)) && records_fit (acts_by c m l))) h).1 in
          let b : Fits (lists_by c l.name l.rest) = (both (all (λ k. leb k most_entries) (entries_of (lists_by c l.name l.rest))) (counts_fit (counted_by c cost l n (acts_by c m l)) && records_fit (acts_by c m l)) a).0 in
          few_afterwards c l m (counted_by c cost l n (acts_by c m l)) (acts_by c m l) (few_acts c n.entries m l f b)
      go false h = tt

  few_commands : (vs : List Variable) (cs : List (List Word)) (n : Counted) (m : Model) → Few n.entries m → FewIn (read_commands load path vs cs n m)
  unfolding read_commands
  few_commands vs [] n m f = f
  few_commands vs (c ∷ cs) n m f = go (command load path vs c n m) (few_step (command_named (line_of (values vs c)).name) (length c) (costs vs c) (line_of (values vs c)) n m f) (λ k r g. few_commands vs cs k r g)
    where
      go : (r : Reading) → FewIn r → ((k : Counted) (m' : Model) → Few k.entries m' → FewIn (read_commands load path vs cs k m')) → FewIn (go_on load path r (read_commands load path vs cs))
      go (done k m') g rest = rest k m' g
      go (refused x k) g rest = g

few_body : (load : Bytes → Counted → Model → Reading) → Loads load → (path : Bytes) (o : Option Bytes) (n : Counted) (m : Model) → Few n.entries m → FewIn (read_body load path o n m)
few_body load loads path None n m f = tt
few_body load loads path (Some body) n m f = few_commands load loads path m.variables _ n m f

few_file : (files : List File) (left : ℕ) (path : Bytes) (n : Counted) (m : Model) → Few n.entries m → FewIn (read_file files left path n m)
unfolding read_file
few_file files zero path n m f = few_body (λ p k r. refused 8 k.commands) (λ p k r g. tt) path (file_named files path) n m f
few_file files (suc left) path n m f = few_body (read_file files left) (λ p k r g. few_file files left p k r g) path (file_named files path) n m f

-- before the first command there is nothing
few_none : Few 0 no_records
unfolding total
few_none = record { domains = none_left; switches = none_left; isolations = none_left; tables = none_left; states = none_left; retained = omega arith }

-- THEOREM: a reading that ends leaves records whose lists are within the limits
pub reading_few : (j : Job) (n : Counted) (m : Model) → reading j ≡ done n m → Few n.entries m
reading_few j n m e = rw e at (few_file j.files 16 j.start nothing_counted no_records few_none)
