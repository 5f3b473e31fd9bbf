use mathlib.Core.Path.{refl}
use borrow.Author.Rules.{rules}
use Rattle.domainline.proofs.Written.{joins_start, joins_next, joins_done}
use Rattle.domainline.proofs.put_entries.Goals as goal

pub loop-k-init : goal.loop-k-init
loop-k-init c = (refl, joins_start _ _ _ _ _ _)

pub loop-k-preserved : goal.loop-k-preserved
loop-k-preserved c = (search rules, search joins_next)

pub returns : goal.returns
returns c = search joins_done
