use borrow.Author.Rules.{rules}
use Rattle.switches.proofs.Ons.{ons_rows}
use Rattle.switches.proofs.Glue.{turns_start, turns_index, turn_row, turn_two, turns_next, turns_done}
use Rattle.switches.proofs.write.put_controls.Goals as goal

pub loop-i-init : goal.loop-i-init
loop-i-init c = (search rules, search turns_start)

pub overflow_add-i : goal.overflow_add-i
overflow_add-i c = search (turns_index, ons_rows)

pub control_at-requires : goal.control_at-requires
control_at-requires c = (c.requires, turn_row _ _ _ _ _ _ c.requires _ c.loop-i-test.true)

pub overflow_add-i-in-loop-i : goal.overflow_add-i-in-loop-i
overflow_add-i-in-loop-i c = search turn_two

pub loop-i-preserved : goal.loop-i-preserved
loop-i-preserved c = (cc, turns_next _ _ _ _ _ _ _ c.loop-i.invariant.1 _ c.control_at.ensures.1 c.loop-i-test.true)

pub returns : goal.returns
returns c = search turns_done
