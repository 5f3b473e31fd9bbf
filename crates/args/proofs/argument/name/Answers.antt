-- `args::argument::name` meets its contract. Assumes nothing.
use Rattle.args.proofs.Loops.{name_is}
use Rattle.args.proofs.argument.name.Goals as goal

pub returns : goal.returns
returns c = search name_is
