-- `switches::write::control_at` meets its contract. Assumes nothing.
use Rattle.switches.proofs.Glue.{control_row}
use Rattle.switches.proofs.write.control_at.Goals as goal

pub put_control-requires : goal.put_control-requires
put_control-requires c = c.requires.0

pub returns : goal.returns
returns c = search control_row
