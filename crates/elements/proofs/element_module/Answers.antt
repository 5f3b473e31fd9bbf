use Rattle.std.proofs.Common.{rules}
use Rattle.memo.specs.Known.{known_none}
use Rattle.elements.proofs.element_module.Goals as goal

pub module_by-requires : goal.module_by-requires
module_by-requires c = (search rules, (search rules, known_none _ _))
