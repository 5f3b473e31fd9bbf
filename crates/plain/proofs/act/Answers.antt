-- `plain::act` meets its contract. Assumes nothing.
use mathlib.Core.Path.{ap}
use Rattle.model.specs.Names.{Command}
use Rattle.model.specs.Numbers.{named_by}
use Rattle.cmdnames.specs.Table.{number_of, no_switch, no_port_state}
use Rattle.std.proofs.Common.{rules}
use Rattle.plain.proofs.Acting.{worded_asks, worded_acts, switch_asks, port_asks, enter_asks, entered_asks, entered_acts}
use Rattle.plain.proofs.act.Goals as goal

pub create_power_switch-d-requires : goal.create_power_switch-d-requires
create_power_switch-d-requires c =
    let p = c.requires in
    switch_asks c.args.mem.now.files.now c.args.mem.now.area.now c.args.nums.now c.args.command.now.rows.now c.args.command.now.n (number_of c.args.c) c.args.rows c.args.warnings c.args.b c.args.domains c.args.nets c.args.isolations c.args.tables p (ap number_of c.in-CreatePowerSwitch.is)

pub put_deed-requires : goal.put_deed-requires
put_deed-requires c =
    let p = c.requires in
    worded_asks c.args.mem.now.files.now c.args.mem.now.area.now c.args.nums.now c.args.command.now.rows.now c.args.command.now.n (number_of c.args.c) c.args.rows c.args.warnings c.args.b c.args.domains c.args.nets c.args.isolations c.args.tables p Command.create_power_switch (ap (λ x. named_by (number_of x)) c.in-CreatePowerSwitch.is) _ _ c.create_power_switch-d.ensures

pub returns-in-CreatePowerSwitch : goal.returns-in-CreatePowerSwitch
returns-in-CreatePowerSwitch c =
    λ v. worded_acts c.args.mem.now.files.now c.args.mem.now.area.now c.args.nums.now c.args.command.now.rows.now c.args.command.now.n (number_of c.args.c) c.args.rows c.args.warnings c.args.b c.args.domains c.args.nets c.args.isolations c.args.tables v Command.create_power_switch (ap (λ x. named_by (number_of x)) c.in-CreatePowerSwitch.is) _ _ c.create_power_switch-d.ensures _ c.put_deed.ensures

pub add_port_state-d-requires : goal.add_port_state-d-requires
add_port_state-d-requires c =
    let p = c.requires in
    port_asks c.args.mem.now.files.now c.args.mem.now.area.now c.args.nums.now c.args.command.now.rows.now c.args.command.now.n (number_of c.args.c) c.args.rows c.args.warnings c.args.b c.args.domains c.args.nets c.args.isolations c.args.tables p (ap number_of c.in-AddPortState.is)

pub put_deed-requires-in-AddPortState : goal.put_deed-requires-in-AddPortState
put_deed-requires-in-AddPortState c =
    let p = c.requires in
    worded_asks c.args.mem.now.files.now c.args.mem.now.area.now c.args.nums.now c.args.command.now.rows.now c.args.command.now.n (number_of c.args.c) c.args.rows c.args.warnings c.args.b c.args.domains c.args.nets c.args.isolations c.args.tables p Command.add_port_state (ap (λ x. named_by (number_of x)) c.in-AddPortState.is) _ _ c.add_port_state-d.ensures

pub returns-in-AddPortState : goal.returns-in-AddPortState
returns-in-AddPortState c =
    λ v. worded_acts c.args.mem.now.files.now c.args.mem.now.area.now c.args.nums.now c.args.command.now.rows.now c.args.command.now.n (number_of c.args.c) c.args.rows c.args.warnings c.args.b c.args.domains c.args.nets c.args.isolations c.args.tables v Command.add_port_state (ap (λ x. named_by (number_of x)) c.in-AddPortState.is) _ _ c.add_port_state-d.ensures _ c.put_deed-in-AddPortState.ensures

pub enter-d-requires : goal.enter-d-requires
enter-d-requires c =
    let p = c.requires in
    enter_asks c.args.mem.now.files.now c.args.mem.now.area.now c.args.nums.now c.args.command.now.rows.now c.args.command.now.n (number_of c.args.c) c.args.rows c.args.warnings c.args.b c.args.domains c.args.nets c.args.isolations c.args.tables p (no_switch _ (search rules)) (no_port_state _ (search rules))

pub put_deed-requires-2 : goal.put_deed-requires-2
put_deed-requires-2 c =
    let p = c.requires in
    entered_asks c.args.mem.now.files.now c.args.mem.now.area.now c.args.nums.now c.args.command.now.rows.now c.args.command.now.n (number_of c.args.c) c.args.rows c.args.warnings c.args.b c.args.domains c.args.nets c.args.isolations c.args.tables p _ c.enter-d.ensures

pub returns : goal.returns
returns c =
    λ v. entered_acts c.args.mem.now.files.now c.args.mem.now.area.now c.args.nums.now c.args.command.now.rows.now c.args.command.now.n (number_of c.args.c) c.args.rows c.args.warnings c.args.b c.args.domains c.args.nets c.args.isolations c.args.tables v _ c.enter-d.ensures _ c.put_deed-2.ensures
