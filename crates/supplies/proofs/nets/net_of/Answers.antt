use borrow.Author.Rules.{rules}
use Rattle.supplies.proofs.Rows.{nets_start, nets_few, nets_connects, nets_step, nets_done}
use Rattle.supplies.proofs.nets.net_of.Goals as goal

pub loop-k-init : goal.loop-k-init
loop-k-init c = (search rules, search nets_start)

pub row_at-requires : goal.row_at-requires
row_at-requires c = search nets_few

pub connected-net-requires : goal.connected-net-requires
connected-net-requires c = search nets_connects

pub loop-k-preserved : goal.loop-k-preserved
loop-k-preserved c = (search rules, search nets_step)

pub returns : goal.returns
returns c = search nets_done
