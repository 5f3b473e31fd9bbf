-- `intent::read_intent` meets its contract.
-- Assumes nothing.
use Rattle.intent.specs.Reads.{halted, started, ended}
use Rattle.intent.proofs.read_intent.Goals as goal

pub read-o-requires : goal.read-o-requires
read-o-requires c = search started

pub returns-in-Err : goal.returns-in-Err
returns-in-Err c = search halted

pub returns-in-Ok : goal.returns-in-Ok
returns-in-Ok c = search ended
