-- `indomain::in_domain` meets its contract. Assumes nothing.
use Rattle.indomain.proofs.Elements.{in_own, in_outputs, in_remarked}
use Rattle.indomain.proofs.in_domain.Goals as goal

pub returns-then-is_outputs : goal.returns-then-is_outputs
returns-then-is_outputs c =
    in_outputs _ _ _ _ c.requires.1.1 _ c.from.ensures _ c.has_entries.ensures _ _ _ _ _ _ _ _ _ _ _ c.if-has_entries.false _ c.is_outputs.ensures _ c.domain_outputs.ensures c.if-is_outputs.true

pub returns : goal.returns
returns c =
    in_remarked _ _ _ _ c.requires.1.1 _ c.from.ensures _ c.has_entries.ensures _ _ _ _ _ _ _ _ _ _ _ c.if-has_entries.false _ c.is_outputs.ensures _ c.stored-name.ensures _ c.given-written.ensures c.requires.0 c.not_outputs.ensures c.if-is_outputs.false

pub returns-then-has_entries : goal.returns-then-has_entries
returns-then-has_entries c = search in_own
