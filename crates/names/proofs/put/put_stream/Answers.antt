use mathlib.Core.Path.{◌∙◌, ap}
use Rattle.out.specs.Bytewise.{flat, becomes}
use Rattle.out.specs.Emit.{emit}
use Rattle.out.specs.Text.{shown}
use Rattle.names.specs.Stream.{left_of}
use Rattle.names.proofs.Streams.{puts_end, puts_step}
use Rattle.names.proofs.put.put_stream.Goals as goal

pub loop-b-preserved : goal.loop-b-preserved
loop-b-preserved c = (c.becomes.ensures.0 ∙ c.loop-b.invariant.0, puts_step (becomes c.args.m) _ _ (left_of c.loop-b.b-iterator) _ c.in-Some.b _ c.loop-b.invariant.1 c.in-Some.ensures.steps c.becomes.ensures.1)

pub returns : goal.returns
returns c = (
  c.loop-b.invariant.0,
  puts_end (becomes c.args.m) _ _ (left_of c.loop-b.b-iterator) c.loop-b.invariant.1 c.in-None.ensures.steps.0
      ∙ ap (λ t. emit (shown c.args.to.now) (flat (becomes c.args.m) (left_of t))) c.into_iter-b-iterator.ensures.into_iter_gives,
)
