-- The laws that the proofs here use. Assumes nothing.
use borrow.Author.Rules.{rules}
use Rattle.made.specs.Asked.{read_fits, found_fits}
use Rattle.domaincmds.specs.Domains.{domain_is}

pub ruleset domains = (rules, read_fits, found_fits, domain_is)
