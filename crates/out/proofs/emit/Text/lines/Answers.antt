use mathlib.Core.Path.{refl}
use Rattle.out.specs.Items.{each_next, each_done}
use borrow.Author.Rules.{rules}
use Rattle.out.proofs.emit.Text.lines.Goals as goal

pub loop-i-init : goal.loop-i-init
loop-i-init c = (search rules, (refl, record { keeps = refl }))

pub loop-i-preserved : goal.loop-i-preserved
loop-i-preserved c = search (rules, each_next)

pub returns : goal.returns
returns c = search (rules, each_done)
