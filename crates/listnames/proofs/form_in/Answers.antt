-- `listnames::form_in` meets its contract. Assumes nothing.
use Rattle.listnames.proofs.Values.{forms}
use Rattle.listnames.proofs.form_in.Goals as goal

pub returns-then-find-w : goal.returns-then-find-w
returns-then-find-w c = search forms

pub returns : goal.returns
returns c = search forms
