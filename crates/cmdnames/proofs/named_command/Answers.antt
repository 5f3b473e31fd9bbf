-- `cmdnames::named_command` meets its contract. Assumes nothing.
use Rattle.std.proofs.Common.{sym, ◌∙◌}
use Rattle.cmdnames.proofs.named_command.Goals as goal

pub returns : goal.returns
returns c = c.number.ensures.is ∙ sym c.command_at.ensures
