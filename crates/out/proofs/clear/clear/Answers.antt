use Rattle.std.proofs.Common.{rules}
use Rattle.out.proofs.Cleared.{cleared_is}
use Rattle.out.proofs.clear.clear.Goals as goal

pub returns : goal.returns
returns c = search (rules, cleared_is)
