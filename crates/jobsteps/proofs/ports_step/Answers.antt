-- `jobsteps::ports_step` meets its contract.
-- Assumes nothing.
use Rattle.std.specs.Prelude.{[], ◌∷◌}
use borrow.Author.Rules.{rules}
use Rattle.joblines.specs.Lines.{decl_line, inst_line, module_line, end_line}
use Rattle.jobsteps.proofs.Within.{port_small, port_other, port_refused, port_good}
use Rattle.jobsteps.proofs.ports_step.Goals as goal

pub port_on-requires : goal.port_on-requires
port_on-requires c = (search rules, search (rules, port_small))

pub returns-in_err-port_line : goal.returns-in_err-port_line
returns-in_err-port_line c = port_refused _ _ _ _ _ _ _ c.part-line.ensures (decl_line ∷ inst_line ∷ module_line ∷ end_line ∷ []) c.requires _ c.in_err-port_line.ensures _ c.from_residual.ensures.1

pub returns-then-branch : goal.returns-then-branch
returns-then-branch c = port_good _ _ _ _ _ _ _ c.part-line.ensures (decl_line ∷ inst_line ∷ module_line ∷ end_line ∷ []) c.requires _ c.in_ok-port_line.ensures c.if-branch.true _ c.port_on.ensures

pub returns : goal.returns
returns c = port_other _ _ _ _ _ _ _ c.part-line.ensures (decl_line ∷ inst_line ∷ module_line ∷ end_line ∷ []) c.requires _ c.in_ok-port_line.ensures c.if-branch.false _ _ c.decls_step.ensures
