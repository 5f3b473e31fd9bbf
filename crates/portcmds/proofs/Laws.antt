-- The laws that the proofs here use. Assumes nothing.
use borrow.Author.Rules.{rules}
use Rattle.made.specs.Asked.{read_fits, found_fits}
use Rattle.portcmds.specs.Named.{below_is}
use Rattle.portcmds.specs.Ports.{port_is, ports_full, ports_more}
use Rattle.portcmds.specs.Connections.{connected}

pub ruleset ports = (rules, read_fits, found_fits, below_is, port_is, ports_full, ports_more, connected)
