use Rattle.out.specs.Items.{joins_start, joins_next, joins_done}
use borrow.Author.Rules.{rules}
use Rattle.out.proofs.emit.Text.joins.Goals as goal

pub loop-i-init : goal.loop-i-init
loop-i-init c = search (rules, joins_start)

pub loop-i-preserved : goal.loop-i-preserved
loop-i-preserved c = search (rules, joins_next)

pub returns : goal.returns
returns c = search (rules, joins_done)
