-- `args::role::with_value` meets its contract. Assumes nothing.
use Rattle.args.proofs.Roles.{values}
use Rattle.args.proofs.role.with_value.Goals as goal

pub returns-then-saturating_sub-le1 : goal.returns-then-saturating_sub-le1
returns-then-saturating_sub-le1 c = search values

pub returns-then-is_option : goal.returns-then-is_option
returns-then-is_option c = search values

pub returns : goal.returns
returns c = search values
