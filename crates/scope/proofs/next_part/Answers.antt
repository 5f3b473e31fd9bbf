use Rattle.std.proofs.Common.{rules}
use Rattle.std.proofs.lemmas.Iterator.{YieldsList-from_slice}
use Rattle.std.proofs.lemmas.Iterator.Search.{position_from_yields_List}
use Rattle.scope.proofs.Turns.{found_at, joins, part_here, part_none}
use Rattle.scope.proofs.next_part.Goals as goal

pub returns-in_err-skipped : goal.returns-in_err-skipped
returns-in_err-skipped c =
    let first = position_from_yields_List joins _ _ c.position.result c.position.ensures.ran (YieldsList-from_slice _ c.iter.ensures.rest) (λ x t q k. search rules) in
    rw c.from_residual.ensures (part_none _ _ _ c.rest-after.ensures (rw c.in_err-skipped.was at (found_at joins c.rest-after.result.now c.position.result first)))

pub returns : goal.returns
returns c =
    let first = position_from_yields_List joins _ _ c.position.result c.position.ensures.ran (YieldsList-from_slice _ c.iter.ensures.rest) (λ x t q k. search rules) in
    part_here _ _ _ c.rest-after.ensures _ (rw c.in_ok-skipped.was at (found_at joins c.rest-after.result.now c.position.result first)) _ c.part_end-end.ensures
