-- `indomain::own_elements` meets its contract. Assumes nothing.
use borrow.Author.Rules.{rules}
use Rattle.indomain.proofs.Elements.{rooms}
use Rattle.indomain.proofs.own_elements.Goals as goal

pub own_by-requires : goal.own_by-requires
own_by-requires c = (search rules, (search rules, search rooms))
