-- `alike::alike_rows` meets its contract. Assumes nothing.
use Rattle.alike.proofs.Values.{rows}
use Rattle.alike.proofs.alike_rows.Goals as goal

pub returns-then-not-same_dotted : goal.returns-then-not-same_dotted
returns-then-not-same_dotted c = search rows

pub returns : goal.returns
returns c = search rows
