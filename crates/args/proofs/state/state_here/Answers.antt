-- `args::state::state_here` meets its contract. Assumes nothing.
use Rattle.args.proofs.Keys.{heres}
use Rattle.args.proofs.state.state_here.Goals as goal

pub returns-then-saturating_sub-le1 : goal.returns-then-saturating_sub-le1
returns-then-saturating_sub-le1 c = search heres

pub returns-then-is : goal.returns-then-is
returns-then-is c = search heres

pub returns-then-is-2 : goal.returns-then-is-2
returns-then-is-2 c = search heres

pub returns : goal.returns
returns c = search heres
