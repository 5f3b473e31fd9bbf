-- `isolation::with_clamp` meets its contract. Assumes nothing.
use native.Mathlib.Omega.{arith}
use Rattle.isolation.proofs.One.{domains_few, domain_asked, domain_unknown, domain_known}
use Rattle.isolation.proofs.with_clamp.Goals as goal

pub returns-then-domains-i : goal.returns-then-domains-i
returns-then-domains-i c =
    domain_unknown _ _ _ _ c.requires.1.1 _ c.first_named-i.ensures _ _ _ _ _ _ _ _ _ _ _ c.if-domains-i.true _ c.stored-name.ensures _ c.stored-written.ensures c.requires.0 c.unknown_domain.ensures

pub returns : goal.returns
returns c =
    domain_known _ _ _ _ c.requires.1.1 _ c.first_named-i.ensures _ _ _ _ _ _ _ _ _ _ _ _ _ c.if-domains-i.false c.in_domain.ensures

pub first_named-i-requires : goal.first_named-i-requires
first_named-i-requires c = (omega arith, domains_few _ _ _ _ c.requires.1.1)

pub bounds-domains-i : goal.bounds-domains-i
bounds-domains-i c = omega (arith, c.if-domains-i.false, domains_few _ _ _ _ c.requires.1.1)

pub in_domain-requires : goal.in_domain-requires
in_domain-requires c = (c.requires.0, (c.requires.1.0, domain_asked _ _ _ _ c.requires.1.1 _ _ c.if-domains-i.false))
