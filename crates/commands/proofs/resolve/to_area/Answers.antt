-- `commands::resolve::to_area` meets its contract. Assumes nothing.
use Rattle.substitution.specs.Room.{passed_on}
use Rattle.commands.proofs.Placing.{areas}
use Rattle.commands.proofs.resolve.to_area.Goals as goal

pub substitute-requires : goal.substitute-requires
substitute-requires c = search areas

pub returns-in_err-e : goal.returns-in_err-e
returns-in_err-e c =
    let h = c.in_err-e.was in
    rw (passed_on _ c.from_residual.result c.from_residual.ensures) (search areas)

pub returns : goal.returns
returns c = let h = c.in_ok-e.was in search areas

pub overflow_sub-result : goal.overflow_sub-result
overflow_sub-result c = let h = c.in_ok-e.was in search areas
