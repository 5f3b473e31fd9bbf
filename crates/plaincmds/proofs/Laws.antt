-- The laws that the proofs here use. Assumes nothing.
use borrow.Author.Rules.{rules}
use Rattle.made.specs.Asked.{read_fits, found_fits}
use Rattle.plaincmds.specs.Retentions.{retention_is}
use Rattle.plaincmds.specs.Shifters.{shifter_is}
use Rattle.plaincmds.specs.Others.{query_is}

pub ruleset plain = (rules, read_fits, found_fits, retention_is, shifter_is, query_is)
