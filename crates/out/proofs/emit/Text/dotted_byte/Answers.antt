use Rattle.out.proofs.Bytes.{bytewise}
use Rattle.out.proofs.emit.Text.dotted_byte.Goals as goal

pub returns-then-b-eq47 : goal.returns-then-b-eq47
returns-then-b-eq47 c = search bytewise

pub returns-else-b-eq47 : goal.returns-else-b-eq47
returns-else-b-eq47 c = search bytewise
