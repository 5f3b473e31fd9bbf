-- `format::arg::put` meets its contract. Assumes nothing.
use Rattle.format.proofs.Arguments.{wraps}
use Rattle.format.proofs.arg.put.Goals as goal

pub returns-in-Plain : goal.returns-in-Plain
returns-in-Plain c = search wraps

pub returns-in-Hier : goal.returns-in-Hier
returns-in-Hier c = search wraps

pub returns-in-Rooted : goal.returns-in-Rooted
returns-in-Rooted c = search wraps

pub returns-in-Dots : goal.returns-in-Dots
returns-in-Dots c = search wraps

pub returns-in-Top : goal.returns-in-Top
returns-in-Top c = search wraps

pub returns-in-Literal : goal.returns-in-Literal
returns-in-Literal c = search wraps
