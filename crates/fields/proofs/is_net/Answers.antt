-- `fields::is_net` meets its contract.
-- Assumes nothing.
use Rattle.fields.proofs.Leaves.{net_name, net_rest}
use Rattle.fields.proofs.is_net.Goals as goal

pub returns-then-is_name : goal.returns-then-is_name
returns-then-is_name c = search (net_name, net_rest)

pub returns : goal.returns
returns c = search (net_name, net_rest)
