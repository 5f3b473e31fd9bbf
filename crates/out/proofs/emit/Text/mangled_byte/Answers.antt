use Rattle.out.proofs.Bytes.{bytewise}
use Rattle.out.proofs.emit.Text.mangled_byte.Goals as goal

pub returns-then-is_alnum : goal.returns-then-is_alnum
returns-then-is_alnum c = search bytewise

pub returns-else-is_alnum : goal.returns-else-is_alnum
returns-else-is_alnum c = search bytewise
