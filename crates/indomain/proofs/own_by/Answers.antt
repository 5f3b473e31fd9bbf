-- `indomain::own_by` meets its contract. Assumes nothing.
use borrow.Author.Rules.{rules}
use Rattle.indomain.proofs.Elements.{own_few, own_told}
use Rattle.indomain.proofs.own_by.Goals as goal

pub in_elements-requires : goal.in_elements-requires
in_elements-requires c = (search rules, (search rules, search own_few))

pub returns : goal.returns
returns c = search own_told
