-- `spans::span::same_streams` meets its contract. Assumes nothing.
use Rattle.text.proofs.Streams.{streams_same}
use Rattle.spans.specs.Stream.{left_of}
use Rattle.spans.proofs.span.same_streams.Goals as goal

pub returns : goal.returns
returns c = streams_same left_of left_of _ _ c.eq.result c.eq.ensures.ran
