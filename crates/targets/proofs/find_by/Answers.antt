use Rattle.targets.proofs.Turns.{more_less, seek_fits, seek_fits_on, seek_found, seek_lost, seek_none, seek_on, seek_stop}
use Rattle.targets.proofs.find_by.Goals as goal

pub returns-in-Last : goal.returns-in-Last
returns-in-Last c = seek_found _ _ _ _ _ _ _ _ _ c.loop-d.invariant _ _ _ c.in-Some.ensures _ _ _ c.in-Last.is _ c.part_of-part.ensures _ c.in_ok-row-in-Last.ensures

pub overflow_add-upto : goal.overflow_add-upto
overflow_add-upto c = record { fits = seek_fits _ _ _ _ _ _ _ _ _ c.loop-d.invariant _ _ _ c.in-Some.ensures _ _ _ _ c.in-More.is _ c.part_of-part-in-More.ensures }

pub overflow_add-upto-in-More : goal.overflow_add-upto-in-More
overflow_add-upto-in-More c = record { fits = seek_fits_on _ _ _ _ _ _ _ _ _ c.loop-d.invariant _ _ _ c.in-Some.ensures _ _ _ _ c.in-More.is _ c.part_of-part-in-More.ensures }

pub loop-d-smaller : goal.loop-d-smaller
loop-d-smaller c = more_less _ _ _ _ _ _ _ c.in-Some.ensures _ _ _ _ c.in-More.is

pub loop-d-preserved : goal.loop-d-preserved
loop-d-preserved c = seek_on _ _ _ _ _ _ _ _ _ c.loop-d.invariant _ _ _ c.in-Some.ensures _ _ _ _ c.in-More.is _ c.part_of-part-in-More.ensures _ c.in_ok-m-in-More.ensures

pub returns : goal.returns
returns c = seek_none _ _ _ _ _ _ _ _ _ c.loop-d.invariant _ _ c.in_default.ensures

pub returns-in_err-row-in-Last : goal.returns-in_err-row-in-Last
returns-in_err-row-in-Last c = rw c.from_residual.ensures (seek_lost _ _ _ _ _ _ _ _ _ c.loop-d.invariant _ _ _ c.in-Some.ensures _ _ _ c.in-Last.is _ c.part_of-part.ensures c.in_err-row-in-Last.ensures)

pub returns-in_err-m-in-More : goal.returns-in_err-m-in-More
returns-in_err-m-in-More c = rw c.from_residual-in_err-m-in-More.ensures (seek_stop _ _ _ _ _ _ _ _ _ c.loop-d.invariant _ _ _ c.in-Some.ensures _ _ _ _ c.in-More.is _ c.part_of-part-in-More.ensures c.in_err-m-in-More.ensures)
