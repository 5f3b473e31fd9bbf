-- `netcmds::create_supply_net` meets its contract. Assumes nothing.
use borrow.Author.Rules.{rules}
use Rattle.netcmds.specs.Nets.{nets_known, nets_full, nets_more}
use Rattle.netcmds.proofs.create_supply_net.Goals as goal

pub returns-then-known_net : goal.returns-then-known_net
returns-then-known_net c = search (rules, nets_known)

pub returns-then-t-ge32 : goal.returns-then-t-ge32
returns-then-t-ge32 c = search (rules, nets_full)

pub returns : goal.returns
returns c = search (rules, nets_more)
