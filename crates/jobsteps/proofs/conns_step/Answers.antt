-- `jobsteps::conns_step` meets its contract.
-- Assumes nothing.
use Rattle.std.specs.Prelude.{[], ◌∷◌}
use borrow.Author.Rules.{rules}
use Rattle.joblines.specs.Lines.{inst_line, module_line, end_line}
use Rattle.jobsteps.proofs.Within.{conn_small, conn_other, conn_refused, conn_good}
use Rattle.jobsteps.proofs.conns_step.Goals as goal

pub conn_on-requires : goal.conn_on-requires
conn_on-requires c = (search rules, search (rules, conn_small))

pub returns-in_err-conn_line : goal.returns-in_err-conn_line
returns-in_err-conn_line c = conn_refused _ _ _ _ _ _ _ c.part-line.ensures (inst_line ∷ module_line ∷ end_line ∷ []) c.requires _ c.in_err-conn_line.ensures _ c.from_residual.ensures.1

pub returns-then-branch : goal.returns-then-branch
returns-then-branch c = conn_good _ _ _ _ _ _ _ c.part-line.ensures (inst_line ∷ module_line ∷ end_line ∷ []) c.requires _ c.in_ok-conn_line.ensures c.if-branch.true _ c.conn_on.ensures

pub returns : goal.returns
returns c = conn_other _ _ _ _ _ _ _ c.part-line.ensures (inst_line ∷ module_line ∷ end_line ∷ []) c.requires _ c.in_ok-conn_line.ensures c.if-branch.false _ _ c.insts_step.ensures
