-- `names::part::begins_span` meets its contract. Assumes nothing.
use Rattle.names.proofs.Cuts.{spans}
use Rattle.names.proofs.part.begins_span.Goals as goal

pub returns-in-Same : goal.returns-in-Same
returns-in-Same c = search spans
