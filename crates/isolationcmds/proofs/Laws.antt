-- The laws that the proofs here use. Assumes nothing.
use borrow.Author.Rules.{rules}
use Rattle.isolationcmds.specs.Stored.{at_fits, anew_none, anew_empty, anew_some}

pub ruleset updates = (rules, at_fits, anew_none, anew_empty, anew_some)
