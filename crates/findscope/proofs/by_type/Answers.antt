-- `findscope::by_type` meets its contract. Assumes nothing.
use Rattle.findscope.proofs.Turns.{type_some}
use Rattle.findscope.proofs.by_type.Goals as goal

pub returns-in-Some-module_found : goal.returns-in-Some-module_found
returns-in-Some-module_found c = type_some _ _ _ c.requires.0 _ _ c.in-Ok.ensures _ c.in-Some.is _ c.in-Some-module_found.ensures _ _ _ c.requires.1 c.write_way-n.ensures
