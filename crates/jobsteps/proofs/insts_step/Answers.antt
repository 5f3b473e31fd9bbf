-- `jobsteps::insts_step` meets its contract.
-- Assumes nothing.
use Rattle.std.specs.Prelude.{[], ◌∷◌}
use borrow.Author.Rules.{rules}
use Rattle.joblines.specs.Lines.{module_line, end_line}
use Rattle.jobsteps.proofs.Within.{inst_at_fits, inst_room, inst_at_small, inst_len_small, inst_other, inst_refused, inst_good}
use Rattle.jobsteps.proofs.insts_step.Goals as goal

pub overflow_add-from-in-Some : goal.overflow_add-from-in-Some
overflow_add-from-in-Some c = search (rules, inst_at_fits)

pub inst_on-requires : goal.inst_on-requires
inst_on-requires c = (search rules, (inst_room _ _ _ _ _ _ _ c.part-line.ensures c.requires _ c.in_ok-name.ensures _ c.in-Some.is, (search rules, (inst_at_small _ _ _ _ _ _ _ c.part-line.ensures c.requires _ c.in_ok-name.ensures _ c.in-Some.is, inst_len_small _ _ _ _ _ _ _ c.part-line.ensures c.requires _ c.in_ok-name.ensures _ c.in-Some.is))))

pub returns-in_err-name : goal.returns-in_err-name
returns-in_err-name c = inst_refused _ _ _ _ _ _ _ c.part-line.ensures (module_line ∷ end_line ∷ []) c.requires _ c.in_err-name.ensures _ c.from_residual.ensures.1

pub returns-in-Some : goal.returns-in-Some
returns-in-Some c = inst_good _ _ _ _ _ _ _ c.part-line.ensures (module_line ∷ end_line ∷ []) c.requires _ c.in_ok-name.ensures _ c.in-Some.is _ _ c.inst_on.ensures

pub returns : goal.returns
returns c = inst_other _ _ _ _ _ _ _ c.part-line.ensures (module_line ∷ end_line ∷ []) c.requires _ c.in_ok-name.ensures c.in_default.is _ _ c.leave_step.ensures
