-- `indomain::domain_outputs` meets its contract. Assumes nothing.
use borrow.Author.Rules.{rules}
use Rattle.indomain.proofs.Elements.{rooms}
use Rattle.indomain.proofs.domain_outputs.Goals as goal

pub outputs_by-requires : goal.outputs_by-requires
outputs_by-requires c = (search rules, (search rules, search rooms))
