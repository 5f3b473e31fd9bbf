-- `paths::path::is_path` meets its contract. Assumes nothing.
use Rattle.paths.proofs.Pieces.{sames}
use Rattle.paths.proofs.path.is_path.Goals as goal

pub overflow_add-at : goal.overflow_add-at
overflow_add-at c = search sames

pub overflow_add-at-2 : goal.overflow_add-at-2
overflow_add-at-2 c = search sames

pub returns-then-row-at : goal.returns-then-row-at
returns-then-row-at c = search sames

pub part-requires : goal.part-requires
part-requires c = search sames

pub same-requires : goal.same-requires
same-requires c = search sames

pub returns-then-not-same : goal.returns-then-not-same
returns-then-not-same c = search sames

pub part-requires-2 : goal.part-requires-2
part-requires-2 c = search sames

pub same-requires-2 : goal.same-requires-2
same-requires-2 c = search sames

pub returns-then-not-same-2 : goal.returns-then-not-same-2
returns-then-not-same-2 c = search sames

pub part-requires-3 : goal.part-requires-3
part-requires-3 c = search sames

pub is_dotted-requires : goal.is_dotted-requires
is_dotted-requires c = search sames

pub returns : goal.returns
returns c = search sames
