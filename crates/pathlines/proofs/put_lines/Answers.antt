use mathlib.Core.Path.{refl}
use borrow.Author.Rules.{rules}
use Rattle.pathlines.proofs.Writes.{left_start, left_done, left_next}
use Rattle.pathlines.proofs.put_lines.Goals as goal

pub loop-k-init : goal.loop-k-init
loop-k-init c = (refl, search left_start)

pub loop-k-preserved : goal.loop-k-preserved
loop-k-preserved c = (cc, search left_next)

pub returns : goal.returns
returns c = search left_done
