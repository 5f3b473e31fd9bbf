use Rattle.std.proofs.Common.{arith}
use Rattle.targets.proofs.Off.{word_step}
use Rattle.targets.proofs.word_off.Goals as goal

pub loop-own-preserved : goal.loop-own-preserved
loop-own-preserved c = word_step _ _ _ _ _ c.loop-own.invariant (omega arith) _ _ c.in-Some.ensures c.if-b.false c.if-b-own.false
