use borrow.Author.Rules.{rules}
use Rattle.out.specs.Emit.{emit_next, emit_done}
use Rattle.out.proofs.emit.Text.put_slow.Goals as goal

pub loop-b-preserved : goal.loop-b-preserved
loop-b-preserved c = search (rules, emit_next)

pub returns : goal.returns
returns c = search (rules, emit_done)
