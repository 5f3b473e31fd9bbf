-- `indomain::outputs_by` meets its contract. Assumes nothing.
use borrow.Author.Rules.{rules}
use Rattle.indomain.proofs.Elements.{outputs_few, outputs_told}
use Rattle.indomain.proofs.outputs_by.Goals as goal

pub in_elements-requires : goal.in_elements-requires
in_elements-requires c = (search rules, (search rules, search outputs_few))

pub returns : goal.returns
returns c = search outputs_told
