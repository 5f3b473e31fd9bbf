use Rattle.out.proofs.Bytes.{bytewise}
use Rattle.out.proofs.emit.Text.becomes.Goals as goal

pub returns-in-Same : goal.returns-in-Same
returns-in-Same c = search bytewise

pub returns-in-Mangled : goal.returns-in-Mangled
returns-in-Mangled c = search bytewise

pub returns-in-Dotted : goal.returns-in-Dotted
returns-in-Dotted c = search bytewise

pub returns-in-Quoted : goal.returns-in-Quoted
returns-in-Quoted c = search bytewise
