-- `domainwarnings::of_domain` meets its contract. Assumes nothing.
use Rattle.domainwarnings.proofs.Tells.{no_power, no_ground, with_both}
use Rattle.domainwarnings.proofs.of_domain.Goals as goal

pub returns-in_default : goal.returns-in_default
returns-in_default c = search no_power

pub returns-in_default-ground_net : goal.returns-in_default-ground_net
returns-in_default-ground_net c = search no_ground

pub returns : goal.returns
returns c = search with_both
