-- `fields::read_dims` meets its contract.
-- Assumes nothing.
use Rattle.text.specs.Cases.{cases}
use Rattle.fields.proofs.read_dims.Goals as goal

pub returns-then-same : goal.returns-then-same
unfolding Rattle.fields.specs.Fields.dims_of
returns-then-same c = search cases depth 10

pub returns-then-same-2 : goal.returns-then-same-2
unfolding Rattle.fields.specs.Fields.dims_of
returns-then-same-2 c = search cases depth 10

pub returns : goal.returns
unfolding Rattle.fields.specs.Fields.dims_of
returns c = search cases depth 10
