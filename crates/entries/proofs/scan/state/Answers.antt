-- `entries::scan::state` meets its contract. Assumes nothing.
use Rattle.entries.proofs.Scans.{states}
use Rattle.entries.specs.Raw.{state_of}
use Rattle.entries.proofs.scan.state.Goals as goal

pub returns-then-k-eq123 : goal.returns-then-k-eq123
unfolding state_of
returns-then-k-eq123 c = search states depth 8

pub returns-then-k-eq34 : goal.returns-then-k-eq34
unfolding state_of
returns-then-k-eq34 c = search states depth 8

pub returns-then-k-eq91 : goal.returns-then-k-eq91
unfolding state_of
returns-then-k-eq91 c = search states depth 8

pub returns-then-k-eq35 : goal.returns-then-k-eq35
unfolding state_of
returns-then-k-eq35 c = search states depth 8

pub returns : goal.returns
unfolding state_of
returns c = search states depth 8
