-- `fields::read_kind` meets its contract.
-- Assumes nothing.
use Rattle.text.specs.Cases.{cases}
use Rattle.fields.proofs.read_kind.Goals as goal

pub returns-then-same : goal.returns-then-same
unfolding Rattle.fields.specs.Meant.body_of Rattle.fields.specs.Fields.kind_of
returns-then-same c = search cases

pub returns-then-same-2 : goal.returns-then-same-2
unfolding Rattle.fields.specs.Meant.body_of Rattle.fields.specs.Fields.kind_of
returns-then-same-2 c = search cases

pub returns-then-same-3 : goal.returns-then-same-3
unfolding Rattle.fields.specs.Meant.body_of Rattle.fields.specs.Fields.kind_of
returns-then-same-3 c = search cases

pub returns : goal.returns
unfolding Rattle.fields.specs.Meant.body_of Rattle.fields.specs.Fields.kind_of
returns c = search cases
