use borrow.Author.Rules.{rules}
use Rattle.names.specs.Laws.{shorter}
use Rattle.switchwarnings.proofs.Words.{warns_start, warns_low, warns_end, warns_less, warns_over, warns_on}
use Rattle.switchwarnings.proofs.condition_warnings.Goals as goal

pub loop-b-init : goal.loop-b-init
loop-b-init c = (search rules, search warns_start)

pub returns : goal.returns
returns c = (search rules, search warns_end)

pub word_warning-told-requires : goal.word_warning-told-requires
word_warning-told-requires c = search warns_low

pub loop-b-smaller-then-is_variable : goal.loop-b-smaller-then-is_variable
loop-b-smaller-then-is_variable c = search (warns_less _ _ _ _ _ _ _ _ _ c.loop-b.invariant.1 c.next.result c.next.ensures)

pub loop-b-preserved-then-is_variable : goal.loop-b-preserved-then-is_variable
loop-b-preserved-then-is_variable c = (search rules, search (warns_over _ _ _ _ _ _ _ _ _ c.loop-b.invariant.1 c.next.result c.next.ensures))

pub loop-b-smaller : goal.loop-b-smaller
loop-b-smaller c = search shorter

pub loop-b-preserved : goal.loop-b-preserved
loop-b-preserved c = (search rules, search warns_on)
