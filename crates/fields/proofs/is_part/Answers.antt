-- `fields::is_part` meets its contract.
-- Assumes nothing.
use Rattle.fields.proofs.Leaves.{part_none, part_dot, part_rest}
use borrow.Author.Rules.{rules}
use Rattle.fields.proofs.is_part.Goals as goal

pub returns-then-w-eq0 : goal.returns-then-w-eq0
returns-then-w-eq0 c = search (rules, part_none, part_dot, part_rest)

pub returns-then-same : goal.returns-then-same
returns-then-same c = search (rules, part_none, part_dot, part_rest)

pub returns : goal.returns
returns c = search (rules, part_none, part_dot, part_rest)
