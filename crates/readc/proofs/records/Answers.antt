-- `readc::records` meets its contract. Assumes nothing.
use Rattle.std.proofs.Common.{rules}
use Rattle.readc.proofs.Telling.{none_told, all_told}
use Rattle.readc.proofs.records.Goals as goal

pub returns-then-is_some : goal.returns-then-is_some
returns-then-is_some c = none_told _ _ _ _ c.is_some.ensures c.if-is_some.true

pub returns : goal.returns
returns c = all_told _ _ _ _ c.is_some.ensures c.if-is_some.false _ (search rules)
