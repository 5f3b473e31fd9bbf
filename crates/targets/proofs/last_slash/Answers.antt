use Rattle.targets.proofs.Slashes.{scan_end, scan_fits, scan_slash, scan_start, scan_step}
use Rattle.targets.proofs.last_slash.Goals as goal

pub loop-b-init : goal.loop-b-init
loop-b-init c = scan_start _ _ _ c.requires

pub loop-b-preserved-then-b-eq47 : goal.loop-b-preserved-then-b-eq47
loop-b-preserved-then-b-eq47 c = scan_slash _ _ _ _ _ _ c.loop-b.invariant _ _ c.in-Some.ensures c.if-b-eq47.true

pub loop-b-preserved : goal.loop-b-preserved
loop-b-preserved c = scan_step _ _ _ _ _ _ c.loop-b.invariant _ _ c.in-Some.ensures c.if-b-eq47.false

pub returns : goal.returns
returns c = scan_end _ _ _ _ _ _ c.loop-b.invariant c.in_default.ensures

pub overflow_add-n : goal.overflow_add-n
overflow_add-n c = record { fits = scan_fits _ _ _ _ _ _ c.loop-b.invariant _ _ c.in-Some.ensures }
