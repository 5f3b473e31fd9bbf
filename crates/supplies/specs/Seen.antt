-- Laws: the nets of the stored records are those of the records that they stand for; texts of nets by a setting that has the nets alone.
-- Assumes nothing.
use Rattle.std.specs.Prelude.{ℕ, ◌≡◌, take}
use Rattle.std.proofs.Math.Path.{refl}
use Rattle.std.proofs.Common.{sym, ap, ap₂, ◌∙◌}
use mathlib.Core.List.{List, [], ◌∷◌, ◌++◌, map, flat_map}
use Rattle.text.specs.Ascii.{Bytes}
use Rattle.out.specs.Bytewise.{dotted}
use Rattle.out.specs.Fill.{fill}
use Rattle.tcl.specs.Lists.{list}
use Rattle.joblines.specs.Lines.{no_module}
use Rattle.design.specs.Lists.{those, add_all}
use Rattle.model.specs.Records.{Connection, Switch as Switchʳ, SupplyPort, no_records, with_nets}
use Rattle.listnames.specs.Lists.{supply_net_lem}
use Rattle.texts.specs.Setting.{Setting}
use Rattle.texts.specs.Supplies.{net_of, supply_nets, net_blocks, unrooted}
use Rattle.format.specs.Args.{rooted}
use Rattle.texts.specs.Texts.{package_of}
use Rattle.store.specs.Strings.{string}
use Rattle.store.specs.View.{port_of, switch_of, connections_of, model_of}
use Rattle.store.specs.Rows.{rows_in, store_of}
use Rattle.store.specs.declared.stored.Stored.{Stored}
use Rattle.store.specs.declared.state.Port.{Port}
use Rattle.store.specs.declared.state.Switch.{Switch}
use Rattle.store.specs.declared.state.State.{State}
use Rattle.scope.specs.Parts.{parts}
use Rattle.setting.specs.Stands.{Stands}
use Rattle.supplies.specs.Nets.{port_net, both_nets, nets_of}

ports_seen : (mem : Bytes) (cs : List Connection) (ps : List Port) → map (port_net mem cs) ps ≡ map (λ (p : SupplyPort). net_of cs p.name p.name) (map (port_of mem) ps)
unfolding port_of
ports_seen mem cs [] = refl
ports_seen mem cs (p ∷ ps) = ap (λ (l : List Bytes). port_net mem cs p ∷ l) (ports_seen mem cs ps)

both_seen : (mem : Bytes) (ws : List Stored) (x : Switch) → both_nets mem x ≡ (switch_of mem ws x).input.net ∷ (switch_of mem ws x).output.net ∷ []
unfolding switch_of
both_seen mem ws x = sym (rw (supply_net_lem (string mem x.scope) (list (string mem x.input)), supply_net_lem (string mem x.scope) (list (string mem x.output))))

switches_seen : (mem : Bytes) (ws : List Stored) (xs : List Switch) → flat_map (both_nets mem) xs ≡ flat_map (λ (s : Switchʳ). s.input.net ∷ s.output.net ∷ []) (map (switch_of mem ws) xs)
unfolding flat_map
switches_seen mem ws [] = refl
switches_seen mem ws (x ∷ xs) = rw (← (switches_seen mem ws xs)) (ap (λ (l : List Bytes). l ++ flat_map (both_nets mem) xs) (both_seen mem ws x))

-- the supply nets of a state, as the records have them
pub nets_model : (mem : Bytes) (nums : List ℕ) (s : State) (log : Bytes) → nets_of mem (rows_in nums s.fill.rows) s.nets s.ports s.switches ≡ supply_nets (model_of mem (store_of nums s) s log)
unfolding supply_nets model_of
nets_model mem nums s log =
    rw (ports_seen mem (flat_map (connections_of mem) (rows_in nums s.fill.rows)) (take s.ports.n s.ports.all), switches_seen mem (store_of nums s).words (take s.switches.n s.switches.all))

-- ---- the texts of nets look at the top, the scope and the nets alone

abbrev pub nets_setting : Bytes → List Bytes → List Bytes → Setting
nets_setting top scope nets = record { top = top; scope = scope; base = no_module; design = []; records = with_nets no_records nets }

-- a template for a net: its name, its path, its path with dots, and the top
abbrev pub case_of : Bytes → Bytes → List Bytes → Bytes → Bytes
case_of t top scope n = fill t n (rooted top scope n) (dotted (unrooted (rooted top scope n))) top []

pub nets_only : (nets : List Bytes) → supply_nets (with_nets no_records nets) ≡ nets
unfolding supply_nets add_all those flat_map
nets_only nets = refl

pub blocks_same : (s : Setting) → net_blocks (nets_setting s.top s.scope (supply_nets s.records)) ≡ net_blocks s
blocks_same s = rw (nets_only (supply_nets s.records))

pub package_same : (s : Setting) → package_of (nets_setting s.top s.scope (supply_nets s.records)) ≡ package_of s
unfolding package_of
package_same s = rw (nets_only (supply_nets s.records))

-- ---- of every setting that the values stand for
module _ (job : Bytes) (nums : List ℕ) (count k : ℕ) (files area over : Bytes) (from : ℕ) (top : Bytes) (s : State) (t : Setting) (st : Stands job nums count k files area over from top s t) where
  logless : (log : Bytes) → supply_nets (model_of (files ++ area) (store_of nums s) s []) ≡ supply_nets (model_of (files ++ area) (store_of nums s) s log)
  unfolding supply_nets model_of
  logless log = refl

  pub nets_stand : supply_nets (model_of (files ++ area) (store_of nums s) s []) ≡ supply_nets t.records
  nets_stand = logless t.records.log ∙ ap supply_nets (sym st.records_are)

  pub blocks_stand : net_blocks (nets_setting top (parts over from) (supply_nets t.records)) ≡ net_blocks t
  blocks_stand = ap₂ (λ (n : Bytes) (p : List Bytes). net_blocks (nets_setting n p (supply_nets t.records))) (sym st.top_is) (sym st.scope_is_lem) ∙ blocks_same t

  pub package_stand : package_of (nets_setting top (parts over from) (supply_nets t.records)) ≡ package_of t
  package_stand = ap₂ (λ (n : Bytes) (p : List Bytes). package_of (nets_setting n p (supply_nets t.records))) (sym st.top_is) (sym st.scope_is_lem) ∙ package_same t
