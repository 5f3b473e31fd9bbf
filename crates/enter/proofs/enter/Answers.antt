-- `enter::enter` meets its contract. Assumes nothing.
use mathlib.Core.Path.{ap}
use Rattle.model.specs.Names.{Command, Named}
use Rattle.model.specs.Numbers.{named_by}
use Rattle.cmdnames.specs.Table.{number_of}
use Rattle.std.proofs.Common.{arith, rules}
use Rattle.std.specs.Prelude.{◌≡◌}
use Rattle.made.specs.First.{line_first}
use Rattle.enter.specs.Entered.{Told, done_by_lem, nothing_done, unknown_done, parsed_done, left_over}
use Rattle.enter.proofs.enter.Goals as goal

pub returns-in-Set : goal.returns-in-Set
returns-in-Set c =
    done_by_lem c.args.mem.now.files.now c.args.mem.now.area.now c.args.command.now.rows.now c.args.command.now.n (number_of c.args.c) (Told c.args.b c.args.domains c.args.nets c.args.isolations c.args.tables) c.set.result (Named.other Command.set) _ (ap (λ x. named_by (number_of x)) c.in-Set.is) (λ s t. t.brief) c.set.ensures

pub returns-in-SetDesignTop : goal.returns-in-SetDesignTop
returns-in-SetDesignTop c =
    done_by_lem c.args.mem.now.files.now c.args.mem.now.area.now c.args.command.now.rows.now c.args.command.now.n (number_of c.args.c) (Told c.args.b c.args.domains c.args.nets c.args.isolations c.args.tables) c.set_design_top.result (Named.other Command.set_design_top) _ (ap (λ x. named_by (number_of x)) c.in-SetDesignTop.is) (λ s t. t.brief) c.set_design_top.ensures

pub returns-in-CreatePowerDomain : goal.returns-in-CreatePowerDomain
returns-in-CreatePowerDomain c =
    done_by_lem c.args.mem.now.files.now c.args.mem.now.area.now c.args.command.now.rows.now c.args.command.now.n (number_of c.args.c) (Told c.args.b c.args.domains c.args.nets c.args.isolations c.args.tables) c.create_power_domain.result (Named.other Command.create_power_domain) _ (ap (λ x. named_by (number_of x)) c.in-CreatePowerDomain.is) (λ s t. t.brief) c.create_power_domain.ensures

pub returns-in-CreateSupplyNet : goal.returns-in-CreateSupplyNet
returns-in-CreateSupplyNet c =
    done_by_lem c.args.mem.now.files.now c.args.mem.now.area.now c.args.command.now.rows.now c.args.command.now.n (number_of c.args.c) (Told c.args.b c.args.domains c.args.nets c.args.isolations c.args.tables) c.create_supply_net.result (Named.other Command.create_supply_net) _ (ap (λ x. named_by (number_of x)) c.in-CreateSupplyNet.is) (λ s t. (t.brief, t.nets)) c.create_supply_net.ensures

pub returns-in-CreateSupplyPort : goal.returns-in-CreateSupplyPort
returns-in-CreateSupplyPort c =
    done_by_lem c.args.mem.now.files.now c.args.mem.now.area.now c.args.command.now.rows.now c.args.command.now.n (number_of c.args.c) (Told c.args.b c.args.domains c.args.nets c.args.isolations c.args.tables) c.create_supply_port.result (Named.other Command.create_supply_port) _ (ap (λ x. named_by (number_of x)) c.in-CreateSupplyPort.is) (λ s t. t.brief) c.create_supply_port.ensures

pub returns-in-ConnectSupplyNet : goal.returns-in-ConnectSupplyNet
returns-in-ConnectSupplyNet c =
    done_by_lem c.args.mem.now.files.now c.args.mem.now.area.now c.args.command.now.rows.now c.args.command.now.n (number_of c.args.c) (Told c.args.b c.args.domains c.args.nets c.args.isolations c.args.tables) c.connect_supply_net.result (Named.other Command.connect_supply_net) _ (ap (λ x. named_by (number_of x)) c.in-ConnectSupplyNet.is) (λ s t. t.brief) c.connect_supply_net.ensures

pub returns-in-SetDomainSupplyNet : goal.returns-in-SetDomainSupplyNet
returns-in-SetDomainSupplyNet c =
    done_by_lem c.args.mem.now.files.now c.args.mem.now.area.now c.args.command.now.rows.now c.args.command.now.n (number_of c.args.c) (Told c.args.b c.args.domains c.args.nets c.args.isolations c.args.tables) c.set_domain_supply_net.result (Named.other Command.set_domain_supply_net) _ (ap (λ x. named_by (number_of x)) c.in-SetDomainSupplyNet.is) (λ s t. (t.brief, t.domains)) c.set_domain_supply_net.ensures

pub returns-in-SetIsolation : goal.returns-in-SetIsolation
returns-in-SetIsolation c =
    done_by_lem c.args.mem.now.files.now c.args.mem.now.area.now c.args.command.now.rows.now c.args.command.now.n (number_of c.args.c) (Told c.args.b c.args.domains c.args.nets c.args.isolations c.args.tables) c.set_isolation.result (Named.other Command.set_isolation) _ (ap (λ x. named_by (number_of x)) c.in-SetIsolation.is) (λ s t. (t.brief, t.isolations)) c.set_isolation.ensures

pub returns-in-SetIsolationControl : goal.returns-in-SetIsolationControl
returns-in-SetIsolationControl c =
    done_by_lem c.args.mem.now.files.now c.args.mem.now.area.now c.args.command.now.rows.now c.args.command.now.n (number_of c.args.c) (Told c.args.b c.args.domains c.args.nets c.args.isolations c.args.tables) c.set_isolation_control.result (Named.other Command.set_isolation_control) _ (ap (λ x. named_by (number_of x)) c.in-SetIsolationControl.is) (λ s t. (t.brief, t.isolations)) c.set_isolation_control.ensures

pub returns-in-SetRetention : goal.returns-in-SetRetention
returns-in-SetRetention c =
    done_by_lem c.args.mem.now.files.now c.args.mem.now.area.now c.args.command.now.rows.now c.args.command.now.n (number_of c.args.c) (Told c.args.b c.args.domains c.args.nets c.args.isolations c.args.tables) c.set_retention.result (Named.other Command.set_retention) _ (ap (λ x. named_by (number_of x)) c.in-SetRetention.is) (λ s t. t.brief) c.set_retention.ensures

pub returns-in-SetRetentionControl : goal.returns-in-SetRetentionControl
returns-in-SetRetentionControl c =
    nothing_done c.args.mem.now.files.now c.args.mem.now.area.now c.args.command.now.rows.now c.args.command.now.n (number_of c.args.c) (Told c.args.b c.args.domains c.args.nets c.args.isolations c.args.tables) (ap number_of c.in-SetRetentionControl.is)

pub returns-in-SetLevelShifter : goal.returns-in-SetLevelShifter
returns-in-SetLevelShifter c =
    done_by_lem c.args.mem.now.files.now c.args.mem.now.area.now c.args.command.now.rows.now c.args.command.now.n (number_of c.args.c) (Told c.args.b c.args.domains c.args.nets c.args.isolations c.args.tables) c.set_level_shifter.result (Named.other Command.set_level_shifter) _ (ap (λ x. named_by (number_of x)) c.in-SetLevelShifter.is) (λ s t. t.brief) c.set_level_shifter.ensures

pub returns-in-CreatePst : goal.returns-in-CreatePst
returns-in-CreatePst c =
    done_by_lem c.args.mem.now.files.now c.args.mem.now.area.now c.args.command.now.rows.now c.args.command.now.n (number_of c.args.c) (Told c.args.b c.args.domains c.args.nets c.args.isolations c.args.tables) c.create_pst.result (Named.other Command.create_pst) _ (ap (λ x. named_by (number_of x)) c.in-CreatePst.is) (λ s t. t.brief) c.create_pst.ensures

pub returns-in-AddPstState : goal.returns-in-AddPstState
returns-in-AddPstState c =
    done_by_lem c.args.mem.now.files.now c.args.mem.now.area.now c.args.command.now.rows.now c.args.command.now.n (number_of c.args.c) (Told c.args.b c.args.domains c.args.nets c.args.isolations c.args.tables) c.add_pst_state.result (Named.other Command.add_pst_state) _ (ap (λ x. named_by (number_of x)) c.in-AddPstState.is) (λ s t. (t.brief, t.tables)) c.add_pst_state.ensures

pub returns-in-Unknown : goal.returns-in-Unknown
returns-in-Unknown c =
    unknown_done c.args.mem.now.files.now c.args.mem.now.area.now c.args.command.now.rows.now c.args.command.now.n (number_of c.args.c) (Told c.args.b c.args.domains c.args.nets c.args.isolations c.args.tables) c.unsupported.result (ap (λ x. named_by (number_of x)) c.in-Unknown.is) c.requires.enters.words c.unsupported.ensures

pub returns-in-NotSimulated : goal.returns-in-NotSimulated
returns-in-NotSimulated c =
    let k : number_of c.args.c ≡ 10 = ap number_of c.in-NotSimulated.is in
    parsed_done c.args.mem.now.files.now c.args.mem.now.area.now c.args.command.now.rows.now c.args.command.now.n (number_of c.args.c) (Told c.args.b c.args.domains c.args.nets c.args.isolations c.args.tables) c.not_simulated.result (omega (arith, k)) (omega (arith, k)) c.requires.enters.words (c.not_simulated.ensures c.args.mem.now.files.now c.args.mem.now.area.now)

pub set-requires : goal.set-requires
set-requires c = c.requires.line

pub set_design_top-requires : goal.set_design_top-requires
set_design_top-requires c = c.requires.line

pub create_power_domain-requires : goal.create_power_domain-requires
create_power_domain-requires c = c.requires.line

pub create_supply_net-requires : goal.create_supply_net-requires
create_supply_net-requires c = (c.requires.line, c.requires.nets)

pub create_supply_port-requires : goal.create_supply_port-requires
create_supply_port-requires c = c.requires.line

pub connect_supply_net-requires : goal.connect_supply_net-requires
connect_supply_net-requires c = c.requires.line

pub set_domain_supply_net-requires : goal.set_domain_supply_net-requires
set_domain_supply_net-requires c = (c.requires.line, c.requires.domains)

pub set_isolation-requires : goal.set_isolation-requires
set_isolation-requires c = (c.requires.line, c.requires.isolations)

pub set_isolation_control-requires : goal.set_isolation_control-requires
set_isolation_control-requires c = (c.requires.line, c.requires.isolations)

pub set_retention-requires : goal.set_retention-requires
set_retention-requires c = c.requires.line

pub set_level_shifter-requires : goal.set_level_shifter-requires
set_level_shifter-requires c = c.requires.line

pub create_pst-requires : goal.create_pst-requires
create_pst-requires c = c.requires.line

pub add_pst_state-requires : goal.add_pst_state-requires
add_pst_state-requires c = (c.requires.line, c.requires.tables)

pub unsupported-requires : goal.unsupported-requires
unsupported-requires c = line_first _ _ c.requires.enters.words c.requires.line

pub not_simulated-requires : goal.not_simulated-requires
not_simulated-requires c = line_first _ _ c.requires.enters.words c.requires.line
