-- `job::lines` meets its contract.
-- Assumes nothing.
use Rattle.job.proofs.Going.{going_first, going_in, going_ends, going_asks, going_refused, going_less, going_on}
use Rattle.job.proofs.lines.Goals as goal

pub loop-line-init : goal.loop-line-init
loop-line-init c = going_first _ _ c.requires

pub cut_line-m-requires : goal.cut_line-m-requires
cut_line-m-requires c = search going_in

pub returns-in_default : goal.returns-in_default
returns-in_default c = search going_ends

pub line_step-requires : goal.line_step-requires
line_step-requires c = going_asks _ _ _ _ _ _ _ _ c.loop-line.invariant _ c.cut_line-m.ensures.1 _ c.cut_line-m.ensures.0 _ c.in-Some.is

pub returns-in-Err : goal.returns-in-Err
returns-in-Err c = going_refused _ _ _ _ _ _ _ _ c.loop-line.invariant _ c.cut_line-m.ensures.1 _ c.cut_line-m.ensures.0 _ c.in-Some.is _ _ c.line_step.ensures _ c.in-Err.is

pub loop-line-smaller : goal.loop-line-smaller
loop-line-smaller c = going_less _ _ _ _ _ _ _ _ c.loop-line.invariant _ c.cut_line-m.ensures.1 _ c.cut_line-m.ensures.0 _ c.in-Some.is _ _ c.line_step.ensures _ c.in-Ok.is

pub loop-line-preserved : goal.loop-line-preserved
loop-line-preserved c = going_on _ _ _ _ _ _ _ _ c.loop-line.invariant _ c.cut_line-m.ensures.1 _ c.cut_line-m.ensures.0 _ c.in-Some.is _ _ c.line_step.ensures _ c.in-Ok.is
