-- `domains::domain` meets its contract. Assumes nothing.
use Rattle.domains.proofs.OneDomain.{no_power, no_ground, both_told}
use Rattle.domains.proofs.domain.Goals as goal

pub returns-in_default : goal.returns-in_default
returns-in_default c = no_power _ _ _ _ _ _ _ _ _ _ _ _ _ _ _ _ _ _ c.bare.ensures c.in_default.is

pub returns-in_default-ground_net : goal.returns-in_default-ground_net
returns-in_default-ground_net c = no_ground _ _ _ _ _ _ _ _ _ _ _ _ _ _ _ _ _ _ c.bare-in_default-ground_net.ensures c.in_default-ground_net.is

pub supplied-requires : goal.supplied-requires
supplied-requires c = c.requires

pub returns : goal.returns
returns c = both_told _ _ _ _ _ _ _ _ _ _ _ _ _ _ _ _ _ _ _ _ c.supplied.ensures c.in-Some.is c.in-Some-ground_net.is
