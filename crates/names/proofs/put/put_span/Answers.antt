-- `names::put::put_span` meets its contract. Assumes nothing.
use Rattle.names.proofs.Written.{written}
use Rattle.names.proofs.put.put_span.Goals as goal

pub returns-then-s-eq0 : goal.returns-then-s-eq0
returns-then-s-eq0 c = search written

pub returns-then-s-saturating_sub : goal.returns-then-s-saturating_sub
returns-then-s-saturating_sub c = search written
