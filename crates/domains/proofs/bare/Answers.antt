-- `domains::bare` meets its contract. Assumes nothing.
use borrow.Author.Rules.{rules}
use Rattle.out.specs.Emit.{over_written}
use Rattle.domains.proofs.OneDomain.{bare_line}
use Rattle.domains.proofs.bare.Goals as goal

pub returns : goal.returns
returns c = bare_line _ _ _ _ _ _ (over_written _ _ _ _ _ _ _ c.unpowered_line.ensures.1 c.over-v.ensures.from (search rules))
