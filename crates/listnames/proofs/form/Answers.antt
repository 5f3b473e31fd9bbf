-- `listnames::form` meets its contract. Assumes nothing.
use Rattle.listnames.proofs.Values.{forms}
use Rattle.listnames.proofs.form.Goals as goal

pub returns-then-quoted : goal.returns-then-quoted
returns-then-quoted c = search forms

pub returns : goal.returns
returns c = search forms
