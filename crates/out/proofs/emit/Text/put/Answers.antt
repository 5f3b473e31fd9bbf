use Rattle.std.proofs.Common.{rules}
use Rattle.out.proofs.Pasted.{emit_pasted}
use Rattle.out.proofs.emit.Text.put.Goals as goal

pub returns-then-n-self : goal.returns-then-n-self
returns-then-n-self c = search (rules, emit_pasted)
