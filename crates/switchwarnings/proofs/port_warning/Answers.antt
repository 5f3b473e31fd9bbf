-- `switchwarnings::port_warning` meets its contract. Assumes nothing.
use borrow.Author.Rules.{rules}
use Rattle.switchwarnings.proofs.States.{port_told}
use Rattle.switchwarnings.proofs.Words.{more_fits}
use Rattle.switchwarnings.proofs.port_warning.Goals as goal

pub overflow_add-result : goal.overflow_add-result
overflow_add-result c = record { fits = more_fits _ c.requires }

pub returns : goal.returns
returns c = (search rules, search port_told)
