-- `jobsteps::next_step` meets its contract.
-- Assumes nothing.
use Rattle.std.specs.Prelude.{[], ◌∷◌}
use Rattle.joblines.specs.Lines.{end_line}
use Rattle.jobsteps.proofs.Between.{module_other, module_refused, module_good}
use Rattle.jobsteps.proofs.next_step.Goals as goal

pub returns-in_err-module_line : goal.returns-in_err-module_line
returns-in_err-module_line c = module_refused _ _ _ _ _ c.args.opened _ c.part-line.ensures c.requires (end_line ∷ []) _ c.in_err-module_line.ensures _ c.from_residual.ensures.1

pub returns-then-branch : goal.returns-then-branch
returns-then-branch c = module_good _ _ _ _ _ c.args.opened _ c.part-line.ensures c.requires (end_line ∷ []) _ c.in_ok-module_line.ensures c.if-branch.true _ c.module_on.ensures

pub returns : goal.returns
returns c = module_other _ _ _ _ _ c.args.opened _ c.part-line.ensures c.requires (end_line ∷ []) _ c.in_ok-module_line.ensures c.if-branch.false _ _ (c.end_step.ensures _)
