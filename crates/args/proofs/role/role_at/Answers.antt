-- `args::role::role_at` meets its contract. Assumes nothing.
use Rattle.args.proofs.Roles.{roles}
use Rattle.args.proofs.role.role_at.Goals as goal

pub returns-then-is_option : goal.returns-then-is_option
returns-then-is_option c = search roles

pub returns : goal.returns
returns c = search roles
