-- `spans::span::is_stream` meets its contract. Assumes nothing.
use Rattle.text.proofs.Streams.{stream_same_slice}
use Rattle.spans.specs.Stream.{left_of}
use Rattle.spans.proofs.span.is_stream.Goals as goal

pub returns : goal.returns
returns c = stream_same_slice left_of _ c.args.w.now c.iter.result c.copied.result c.eq.result c.copied.ensures.source c.iter.ensures.rest c.eq.ensures.ran
