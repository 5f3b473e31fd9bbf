use Rattle.elements.proofs.Turns.{begin_first}
use Rattle.elements.proofs.begin.Goals as goal

pub returns-in_default : goal.returns-in_default
returns-in_default c = begin_first _ _ _ _ _ c.requires _ _ c.insts_from-from.ensures

pub returns-in_default-next_inst : goal.returns-in_default-next_inst
returns-in_default-next_inst c = begin_first _ _ _ _ _ c.requires _ _ c.insts_from-from.ensures

pub returns-in-Other : goal.returns-in-Other
returns-in-Other c = begin_first _ _ _ _ _ c.requires _ _ c.insts_from-from.ensures
