use Rattle.pathnumber.proofs.Numbers.{numbers}
use Rattle.pathnumber.proofs.number_on.Goals as goal

pub loop-b-init : goal.loop-b-init
loop-b-init c = search numbers

pub loop-b-preserved : goal.loop-b-preserved
loop-b-preserved c = search numbers

pub returns : goal.returns
returns c = search numbers
