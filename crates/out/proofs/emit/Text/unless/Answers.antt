use Rattle.out.proofs.Bytes.{unlesses}
use Rattle.out.proofs.emit.Text.unless.Goals as goal

pub returns-else-i-ne0 : goal.returns-else-i-ne0
returns-else-i-ne0 c = search unlesses

pub returns-then-i-ne0 : goal.returns-then-i-ne0
returns-then-i-ne0 c = search unlesses
