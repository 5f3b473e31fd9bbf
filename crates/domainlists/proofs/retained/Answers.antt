use mathlib.Core.Path.{refl}
use borrow.Author.Rules.{rules}
use Rattle.domainlists.proofs.Tables.{all_start, all_step, all_rooms, alls}
use Rattle.domainlists.proofs.retained.Goals as goal

pub loop-i-init : goal.loop-i-init
loop-i-init c = (refl, all_start _ _ _)

pub offset_bounds-t-i : goal.offset_bounds-t-i
offset_bounds-t-i c = search alls

pub bounds-t-i : goal.bounds-t-i
bounds-t-i c = search alls

pub put_below-n-requires : goal.put_below-n-requires
put_below-n-requires c = search all_rooms

pub loop-i-preserved : goal.loop-i-preserved
loop-i-preserved c = (search rules, search all_step)

pub returns : goal.returns
returns c = search alls
