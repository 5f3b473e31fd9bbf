-- `names::compare::same_streams` meets its contract. Assumes nothing.
use Rattle.text.proofs.Streams.{streams_same}
use Rattle.names.specs.Stream.{left_of}
use Rattle.names.proofs.compare.same_streams.Goals as goal

pub returns : goal.returns
returns c = streams_same left_of left_of _ _ c.eq.result c.eq.ensures.ran
