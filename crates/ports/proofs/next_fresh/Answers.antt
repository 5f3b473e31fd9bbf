use Rattle.ports.proofs.Turns.{fresh_bodied, fresh_headed, fresh_here, fresh_none}
use Rattle.ports.proofs.next_fresh.Goals as goal

pub loop-own-preserved-then-is_output : goal.loop-own-preserved-then-is_output
loop-own-preserved-then-is_output c = fresh_headed _ _ _ _ _ _ _ _ _ c.loop-own.invariant _ c.in-Some.ensures _ c.part_of-n.ensures _ c.is_output.ensures c.if-is_output.true

pub loop-own-preserved : goal.loop-own-preserved
loop-own-preserved c = fresh_bodied _ _ _ _ _ _ _ _ _ c.loop-own.invariant _ c.in-Some.ensures _ c.part_of-n.ensures _ c.is_output.ensures c.if-is_output.false _ c.is_of.ensures c.if-is_of.true

pub returns-in-Some : goal.returns-in-Some
returns-in-Some c = fresh_here _ _ _ _ _ _ _ _ _ c.loop-own.invariant _ c.in-Some.ensures _ c.part_of-n.ensures _ c.is_output.ensures c.if-is_output.false _ c.is_of.ensures c.if-is_of.false

pub returns : goal.returns
returns c = fresh_none _ _ _ _ _ _ _ _ _ c.loop-own.invariant c.in_default.ensures
