-- `spans::area::append_span` meets its contract: the part that lies in the files, then the part that lies in the area itself. Assumes nothing.
use Rattle.spans.proofs.Spans.{owns}
use Rattle.spans.proofs.area.append_span.Goals as goal

pub append-e-requires : goal.append-e-requires
append-e-requires c = search owns

pub returns-then-q-eq0 : goal.returns-then-q-eq0
returns-then-q-eq0 c = search owns

pub append_own-requires : goal.append_own-requires
append_own-requires c = search owns

pub returns : goal.returns
returns c = search owns
