use Rattle.targets.proofs.Parted.{name_more}
use Rattle.targets.proofs.first_part.Goals as goal

pub returns-in-Same : goal.returns-in-Same
returns-in-Same c = name_more _ _ _ _ c.is_name.ensures c.if-not-is_name.false _ _ c.next_part.ensures _ c.in-Same.is _ c.whole.ensures
