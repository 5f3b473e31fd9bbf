-- `domaincmds::create_power_domain` meets its contract. Assumes nothing.
use Rattle.domaincmds.proofs.Deeds.{domain_full_does, domain_fine_does}
use Rattle.domaincmds.proofs.create_power_domain.Goals as goal

pub returns-then-b-ge-MOST_DOMAINS : goal.returns-then-b-ge-MOST_DOMAINS
returns-then-b-ge-MOST_DOMAINS c = domain_full_does _ _ _ _ _ c.if-b-ge-MOST_DOMAINS.true

pub returns : goal.returns
returns c = domain_fine_does _ _ _ _ _ _ c.if-b-ge-MOST_DOMAINS.false c.domain-d.ensures
