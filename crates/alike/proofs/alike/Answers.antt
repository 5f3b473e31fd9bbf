-- `alike::alike` meets its contract. Assumes nothing.
use Rattle.alike.proofs.Values.{alikes}
use Rattle.alike.proofs.alike.Goals as goal

pub returns-then-i-j : goal.returns-then-i-j
returns-then-i-j c = search alikes
