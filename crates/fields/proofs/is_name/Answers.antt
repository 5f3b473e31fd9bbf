use Rattle.fields.proofs.Leaves.{alls}
use Rattle.fields.proofs.is_name.Goals as goal

pub returns-then-w-eq0 : goal.returns-then-w-eq0
returns-then-w-eq0 c = search alls

pub returns-then-w-gt64 : goal.returns-then-w-gt64
returns-then-w-gt64 c = search alls

pub bounds-w-0 : goal.bounds-w-0
bounds-w-0 c = search alls

pub opens_name-requires : goal.opens_name-requires
opens_name-requires c = search alls

pub returns-then-not-opens_name : goal.returns-then-not-opens_name
returns-then-not-opens_name c = search alls

pub loop-i-init : goal.loop-i-init
loop-i-init c = search alls

pub bounds-w-i : goal.bounds-w-i
bounds-w-i c = search alls

pub in_name-requires : goal.in_name-requires
in_name-requires c = search alls

pub returns-then-not-in_name : goal.returns-then-not-in_name
returns-then-not-in_name c = search alls

pub loop-i-preserved : goal.loop-i-preserved
loop-i-preserved c = search alls

pub returns : goal.returns
returns c = search alls
