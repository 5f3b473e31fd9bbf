-- `commands::resolve::plain_word` meets its contract. Assumes nothing.
use Rattle.commands.proofs.Placing.{plains}
use Rattle.commands.proofs.resolve.plain_word.Goals as goal

pub find-requires : goal.find-requires
find-requires c = search plains

pub to_area-requires : goal.to_area-requires
to_area-requires c = search plains

pub shape_of-area-then-find-body : goal.shape_of-area-then-find-body
shape_of-area-then-find-body c = search plains

pub returns-then-find-body : goal.returns-then-find-body
returns-then-find-body c = search plains

pub returns : goal.returns
returns c = search plains
