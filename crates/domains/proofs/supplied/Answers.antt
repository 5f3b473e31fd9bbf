-- `domains::supplied` meets its contract. Assumes nothing.
use borrow.Author.Rules.{rules}
use Rattle.domains.proofs.supplied.Goals as goal

pub supplied_by-requires : goal.supplied_by-requires
supplied_by-requires c = (c.requires.0, (c.requires.1, search rules))

pub returns : goal.returns
returns c = c.supplied_by.ensures
