-- `tablelines::put_state_by` meets its contract. Assumes nothing.
use Rattle.tablelines.proofs.States.{states}
use Rattle.tablelines.proofs.put_state_by.Goals as goal

pub entries-n-requires : goal.entries-n-requires
entries-n-requires c = search states

pub put_values-requires : goal.put_values-requires
put_values-requires c = search states

pub returns : goal.returns
returns c = search states
