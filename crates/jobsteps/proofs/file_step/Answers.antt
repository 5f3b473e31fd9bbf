-- `jobsteps::file_step` meets its contract.
-- Assumes nothing.
use Rattle.std.specs.Prelude.{[]}
use Rattle.std.proofs.Math.Path.{refl}
use Rattle.jobsteps.proofs.Between.{file_none, file_refused, file_good}
use Rattle.jobsteps.proofs.file_step.Goals as goal

pub returns-in_err-file_line : goal.returns-in_err-file_line
returns-in_err-file_line c = file_refused _ _ _ _ _ c.args.opened _ c.part-line.ensures c.requires [] _ c.in_err-file_line.ensures _ c.from_residual.ensures.1

pub returns-then-branch : goal.returns-then-branch
returns-then-branch c = file_good _ _ _ _ _ c.args.opened _ c.part-line.ensures c.requires [] _ c.in_ok-file_line.ensures c.if-branch.true _ c.file_on.ensures

pub returns : goal.returns
returns c = file_none _ _ _ _ _ c.args.opened _ c.part-line.ensures c.requires [] _ c.in_ok-file_line.ensures c.if-branch.false refl
