-- `nametable::form_of` meets its contract. Assumes nothing.
use Rattle.text.specs.Cases.{cases}
use Rattle.nametable.proofs.form_of.Goals as goal

pub returns-then-tag-lt2 : goal.returns-then-tag-lt2
returns-then-tag-lt2 c = search cases

pub returns-then-tag-lt4 : goal.returns-then-tag-lt4
returns-then-tag-lt4 c = search cases

pub returns : goal.returns
returns c = search cases
