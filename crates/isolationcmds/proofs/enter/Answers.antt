-- `isolationcmds::enter` meets its contract. Assumes nothing.
use Rattle.isolationcmds.specs.Deeds.{entered_full, entered_fine}
use Rattle.isolationcmds.proofs.enter.Goals as goal

pub returns-then-b-ge32 : goal.returns-then-b-ge32
returns-then-b-ge32 c =
    entered_full c.args.mem.now.files.now c.args.mem.now.area.now c.args.command.now.rows.now c.args.command.now.n c.args.b c.if-b-ge32.true

pub isolation-x-requires : goal.isolation-x-requires
isolation-x-requires c = c.requires

pub returns : goal.returns
returns c =
    entered_fine c.args.mem.now.files.now c.args.mem.now.area.now c.args.command.now.rows.now c.args.command.now.n c.args.b c.isolation-x.result c.if-b-ge32.false c.isolation-x.ensures
