-- `listnames::nth` meets its contract. Assumes nothing.
use Rattle.listnames.proofs.Values.{inside_whole, nth_missing, nth_there}
use Rattle.listnames.proofs.nth.Goals as goal

pub inside-requires : goal.inside-requires
inside-requires c = let x = c.args in search (inside_whole x.mem.now.files.now x.mem.now.area.now)

pub returns-in_default : goal.returns-in_default
returns-in_default c = search nth_missing

pub returns : goal.returns
returns c = search nth_there
