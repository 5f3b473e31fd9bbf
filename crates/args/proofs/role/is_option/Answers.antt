-- `args::role::is_option` meets its contract. Assumes nothing.
use Rattle.args.proofs.Roles.{optionals}
use Rattle.args.proofs.role.is_option.Goals as goal

pub returns-in_default : goal.returns-in_default
returns-in_default c = search optionals

pub returns-then-a-ne45 : goal.returns-then-a-ne45
returns-then-a-ne45 c = search optionals

pub returns-in_default-first : goal.returns-in_default-first
returns-in_default-first c = search optionals

pub returns : goal.returns
returns c = search optionals
