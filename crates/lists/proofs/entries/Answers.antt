-- `lists::entries` meets its contract: the commands that read no list. Assumes nothing.
use Rattle.std.specs.Prelude.{refl, ◌++◌}
use Rattle.lists.proofs.Laws.{at_rest}
use Rattle.lists.proofs.entries.Goals as goal

pub returns-in_default : goal.returns-in_default
returns-in_default c =
    let d = c.in_default in
    at_rest (c.args.mem.now.files.now ++ c.args.mem.now.area.now) c.args.command.now.rows.now c.args.command.now.n c.args.c c.args.before _ c.requires.1 d.not-CreatePowerDomain d.not-ConnectSupplyNet d.not-CreatePowerSwitch d.not-SetIsolation d.not-SetRetention d.not-AddPortState d.not-CreatePst d.not-AddPstState refl
