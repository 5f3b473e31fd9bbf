use Rattle.supplies.proofs.Tables.{looks_start, look_yes, look_no, look_none}
use Rattle.supplies.proofs.nets.is_listed.Goals as goal

pub loop-k-init : goal.loop-k-init
loop-k-init c = search looks_start

pub returns-then-same_names : goal.returns-then-same_names
returns-then-same_names c = search look_yes

pub loop-k-preserved : goal.loop-k-preserved
loop-k-preserved c = search look_no

pub returns : goal.returns
returns c = search look_none
