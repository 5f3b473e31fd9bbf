use mathlib.Core.Path.{refl}
use Rattle.entries.proofs.Items.{left_begins, lefts}
use Rattle.entries.proofs.item.next_entry.Goals as goal

pub loop-i-init : goal.loop-i-init
loop-i-init c = record { keeps = refl }

pub entry_at-requires : goal.entry_at-requires
entry_at-requires c =
    left_begins c.args.v.now c.loop-i.i c.joint-n.result c.joined_by-b.result
    c.joint-n.ensures.0 c.joined_by-b.ensures c.loop-i-test.true
    c.if-b.false c.is_space.result c.is_space.ensures c.if-is_space.false

pub loop-i-preserved-then-b : goal.loop-i-preserved-then-b
loop-i-preserved-then-b c = search lefts

pub loop-i-preserved-then-is_space : goal.loop-i-preserved-then-is_space
loop-i-preserved-then-is_space c = search lefts

pub loop-i-preserved : goal.loop-i-preserved
loop-i-preserved c = search lefts

pub returns-in-loop-i : goal.returns-in-loop-i
returns-in-loop-i c = search lefts

pub returns : goal.returns
returns c = search lefts
