-- `commands::resolve::word` meets its contract. Assumes nothing.
use borrow.Author.Rules.{rules}
use Rattle.commands.proofs.Placing.{placings}
use Rattle.commands.proofs.resolve.word.Goals as goal

pub returns-then-c-eq123 : goal.returns-then-c-eq123
returns-then-c-eq123 c = search placings

pub returns-then-c-eq34 : goal.returns-then-c-eq34
returns-then-c-eq34 c = search placings

pub returns-then-c-eq91 : goal.returns-then-c-eq91
returns-then-c-eq91 c = search placings

pub plain_word-requires : goal.plain_word-requires
plain_word-requires c = (search placings, (search placings, search rules))

pub returns : goal.returns
returns c = search placings
