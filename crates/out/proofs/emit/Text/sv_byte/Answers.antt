use Rattle.out.proofs.Bytes.{bytewise}
use Rattle.out.proofs.emit.Text.sv_byte.Goals as goal

pub returns-then-b-eq92 : goal.returns-then-b-eq92
returns-then-b-eq92 c = search bytewise

pub returns-then-b-eq34 : goal.returns-then-b-eq34
returns-then-b-eq34 c = search bytewise

pub returns-else-b-eq34 : goal.returns-else-b-eq34
returns-else-b-eq34 c = search bytewise
