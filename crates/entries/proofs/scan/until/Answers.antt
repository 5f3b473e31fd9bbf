-- `entries::scan::until` meets its contract. Assumes nothing.
use Rattle.text.specs.Cases.{cases}
use Rattle.entries.specs.Raw.{until}
use Rattle.entries.proofs.scan.until.Goals as goal

pub returns-then-stop : goal.returns-then-stop
unfolding until
returns-then-stop c = search cases

pub returns : goal.returns
unfolding until
returns c = search cases
