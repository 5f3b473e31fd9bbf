-- `switches::write::string_arg` meets its contract. Assumes nothing.
use Rattle.switches.proofs.Glue.{arg_string}
use Rattle.switches.proofs.write.string_arg.Goals as goal

pub returns : goal.returns
returns c = search arg_string
