use borrow.Author.Rules.{rules}
use Rattle.checks.proofs.Inserts.{spot_start, spot_number, spots}
use Rattle.checks.proofs.spot.Goals as goal

pub loop-k-init : goal.loop-k-init
loop-k-init c = spot_start _ _ _ _ (search rules) (search rules)

pub is_same-requires : goal.is_same-requires
is_same-requires c = (search rules, search spot_number)

pub is_earlier-requires : goal.is_earlier-requires
is_earlier-requires c = (search rules, search spot_number)

pub returns-then-is_same : goal.returns-then-is_same
returns-then-is_same c = search spots

pub returns-then-is_earlier : goal.returns-then-is_earlier
returns-then-is_earlier c = search spots

pub loop-k-preserved : goal.loop-k-preserved
loop-k-preserved c = search spots
