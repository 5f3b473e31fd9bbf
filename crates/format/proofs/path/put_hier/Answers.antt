-- `format::path::put_hier` meets its contract. Assumes nothing.
use Rattle.format.proofs.Scopes.{hiers}
use Rattle.format.proofs.path.put_hier.Goals as goal

pub returns-then-has_parts-has_bytes : goal.returns-then-has_parts-has_bytes
returns-then-has_parts-has_bytes c = search hiers

pub returns : goal.returns
returns c = search hiers
