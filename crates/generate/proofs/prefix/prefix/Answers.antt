use Rattle.generate.proofs.Prefixes.{adds}
use Rattle.generate.proofs.prefix.prefix.Goals as goal

pub loop-part-init : goal.loop-part-init
loop-part-init c = search adds

pub overflow_add-n : goal.overflow_add-n
overflow_add-n c = search adds

pub overflow_add-n-in-Some : goal.overflow_add-n-in-Some
overflow_add-n-in-Some c = search adds

pub loop-part-smaller : goal.loop-part-smaller
loop-part-smaller c = search adds

pub loop-part-preserved : goal.loop-part-preserved
loop-part-preserved c = search adds

pub returns : goal.returns
returns c = search adds
