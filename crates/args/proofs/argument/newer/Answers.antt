-- `args::argument::newer` meets its contract. Assumes nothing.
use Rattle.args.proofs.Loops.{newers}
use Rattle.args.proofs.argument.newer.Goals as goal

pub returns-then-is : goal.returns-then-is
returns-then-is c = search newers

pub returns : goal.returns
returns c = search newers
