-- `names::compare::less_streams` meets its contract. Assumes nothing.
use Rattle.text.proofs.Streams.{streams_less}
use Rattle.names.specs.Stream.{left_of}
use Rattle.names.proofs.compare.less_streams.Goals as goal

pub returns : goal.returns
returns c = streams_less left_of left_of _ _ c.lt.result c.lt.ensures.ran
