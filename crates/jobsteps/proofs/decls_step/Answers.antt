-- `jobsteps::decls_step` meets its contract.
-- Assumes nothing.
use Rattle.std.specs.Prelude.{[], ◌∷◌}
use borrow.Author.Rules.{rules}
use Rattle.joblines.specs.Lines.{inst_line, module_line, end_line}
use Rattle.jobsteps.proofs.Within.{decl_small, decl_other, decl_refused, decl_good}
use Rattle.jobsteps.proofs.decls_step.Goals as goal

pub decl_on-requires : goal.decl_on-requires
decl_on-requires c = (search rules, search (rules, decl_small))

pub returns-in_err-decl_line : goal.returns-in_err-decl_line
returns-in_err-decl_line c = decl_refused _ _ _ _ _ _ _ c.part-line.ensures (inst_line ∷ module_line ∷ end_line ∷ []) c.requires _ c.in_err-decl_line.ensures _ c.from_residual.ensures.1

pub returns-then-branch : goal.returns-then-branch
returns-then-branch c = decl_good _ _ _ _ _ _ _ c.part-line.ensures (inst_line ∷ module_line ∷ end_line ∷ []) c.requires _ c.in_ok-decl_line.ensures c.if-branch.true _ c.decl_on.ensures

pub returns : goal.returns
returns c = decl_other _ _ _ _ _ _ _ c.part-line.ensures (inst_line ∷ module_line ∷ end_line ∷ []) c.requires _ c.in_ok-decl_line.ensures c.if-branch.false _ _ c.insts_step.ensures
