-- The states of the kind that is wanted, put one behind the other. Assumes nothing.
use Rattle.std.proofs.Common.{rules}
use Rattle.statecmds.specs.Puts.{putting_start, putting_end, putting_past, putting_done, putting_place, putting_on}
use Rattle.statecmds.proofs.Laws.{puts}
use Rattle.statecmds.proofs.put_states.Goals as goal

pub loop-k-init : goal.loop-k-init
loop-k-init c = putting_start _ _ _ _ _ _ _ _

pub returns-in_default : goal.returns-in_default
returns-in_default c = putting_end _ _ _ _ _ _ _ _ _ _ c.loop-k.invariant _ c.state_at.ensures c.in_default.is

pub loop-k-preserved-then-first-want : goal.loop-k-preserved-then-first-want
loop-k-preserved-then-first-want c = search puts

pub put_word-requires : goal.put_word-requires
put_word-requires c =
    (putting_place _ _ _ _ _ _ _ _ _ _ c.loop-k.invariant _ c.state_at.ensures _ _ c.in-Some.is (search rules) c.requires.room, search puts)

pub loop-k-preserved : goal.loop-k-preserved
loop-k-preserved c =
    putting_on _ _ _ _ _ _ _ _ _ _ c.loop-k.invariant _ c.state_at.ensures _ _ c.in-Some.is (search rules) _ _ c.narrow.ensures c.put_word.ensures

pub returns : goal.returns
returns c = putting_done _ _ _ _ _ _ _ _ _ _ c.loop-k.invariant (search rules)
