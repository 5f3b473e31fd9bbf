use mathlib.Core.Path.{◌∙◌}
use mathlib.Core.List.{[]}
use native.Mathlib.Omega.{arith}
use Rattle.corrupt.proofs.Rounds.{own_given, module_row_lem, walk_full, walk_last, walk_done, round_start, round_row, round_low, round_long, round_given, round_stop, round_front, round_on, round_end, retaineds, rooms}
use Rattle.corrupt.proofs.+corruptible.Goals as goal

pub retained-requires : goal.retained-requires
retained-requires t c = search rooms

pub returns-then-retained : goal.returns-then-retained
returns-then-retained t c = search retaineds

pub stem-u-requires : goal.stem-u-requires
stem-u-requires t c = search rooms

pub own-requires : goal.own-requires
own-requires t c = (own_given _ _ _ _ _ _ [] _ _ _ _ _ c.requires.0 c.requires.1.0 _ _ c.stem-u.ensures _ c.part-2.ensures, c.requires.1.1.0)

pub returns-in_err-w : goal.returns-in_err-w
returns-in_err-w t c = walk_full _ _ _ _ _ _ _ _ _ _ _ _ c.requires.0 c.requires.1.0 _ c.part.ensures _ c.retained.ensures c.if-retained.false _ _ c.stem-u.ensures _ c.part-2.ensures _ _ _ _ _ _ c.in_err-w.ensures _ c.from_residual.ensures.1

pub returns-then-left-eq0 : goal.returns-then-left-eq0
returns-then-left-eq0 t c = walk_last _ _ _ _ _ _ _ _ _ _ _ _ c.requires.0 c.requires.1.0 _ c.part.ensures _ c.retained.ensures c.if-retained.false _ _ c.stem-u.ensures _ c.part-2.ensures _ _ _ _ _ _ c.in_ok-w.ensures c.if-left-eq0.true

pub way_count-z-requires : goal.way_count-z-requires
way_count-z-requires t c = module_row_lem _ _ _ _ _ _ _ _ _ _ c.requires.0

pub loop-j-init : goal.loop-j-init
loop-j-init t c = round_start _ _ _ _ _ _ _ _ _ _ _ _ _ _ _ c.requires.0 c.requires.1.0 c.stem-u.ensures c.if-left-eq0.false _ _ _ _ _ c.in_ok-w.ensures

pub way_name-requires : goal.way_name-requires
way_name-requires t c = (round_row _ _ _ _ _ _ _ _ _ _ _ _ _ _ _ _ _ _ _ _ _ c.loop-j.invariant, round_low _ _ _ _ _ _ _ _ _ _ _ _ _ _ _ _ _ _ _ _ _ c.loop-j.invariant _ c.way_count-z.ensures c.loop-j-test.true)

pub way_row-requires : goal.way_row-requires
way_row-requires t c = (round_row _ _ _ _ _ _ _ _ _ _ _ _ _ _ _ _ _ _ _ _ _ c.loop-j.invariant, round_low _ _ _ _ _ _ _ _ _ _ _ _ _ _ _ _ _ _ _ _ _ c.loop-j.invariant _ c.way_count-z.ensures c.loop-j-test.true)

pub corruptible-requires : goal.corruptible-requires
corruptible-requires t c = (omega (arith, c.decreases, c.loop-j.invariant.more), (round_given _ _ _ _ _ _ _ _ _ _ _ _ _ _ _ _ _ _ _ _ _ c.loop-j.invariant _ c.way_count-z.ensures c.loop-j-test.true _ c.way_name.ensures _ _ c.put-v.ensures _ c.way_row.ensures, (round_long _ _ _ _ _ _ _ _ _ _ _ _ _ _ _ _ _ _ _ _ _ c.loop-j.invariant _ c.way_count-z.ensures c.loop-j-test.true _ c.way_name.ensures _ _ c.put-v.ensures c.put-v.auto.out, (c.loop-j.invariant.turn.ready, c.requires.1.1.1))))

pub returns-in_err-w-2 : goal.returns-in_err-w-2
returns-in_err-w-2 t c = walk_done _ _ _ _ _ _ _ _ _ _ _ _ c.requires.0 c.requires.1.0 _ c.part.ensures _ c.retained.ensures c.if-retained.false _ _ c.stem-u.ensures _ c.part-2.ensures _ _ _ _ _ _ c.in_ok-w.ensures c.if-left-eq0.false _ _ _ _ (round_stop _ _ _ _ _ _ _ _ _ _ _ _ _ _ _ _ _ _ _ _ _ c.loop-j.invariant _ c.way_count-z.ensures c.loop-j-test.true _ c.way_name.ensures _ _ c.put-v.ensures _ c.way_row.ensures _ _ _ _ c.in_err-w-2.ensures _ c.from_residual-in_err-w-2.ensures.1) (round_front _ _ _ _ _ _ _ _ _ _ _ _ _ _ _ _ _ _ _ _ _ c.loop-j.invariant _ c.way_count-z.ensures c.loop-j-test.true _ c.way_name.ensures _ _ c.put-v.ensures _ c.way_row.ensures _ _ _ _ c.in_err-w-2.ensures)

pub loop-j-preserved : goal.loop-j-preserved
loop-j-preserved t c = round_on _ _ _ _ _ _ _ _ _ _ _ _ _ _ _ _ _ _ _ _ _ c.loop-j.invariant _ c.way_count-z.ensures c.loop-j-test.true _ c.way_name.ensures _ _ c.put-v.ensures _ c.way_row.ensures _ _ _ _ c.in_ok-w-2.ensures (c.corruptible.auto.tail ∙ c.put-v.auto.out)

pub returns : goal.returns
returns t c = walk_done _ _ _ _ _ _ _ _ _ _ _ _ c.requires.0 c.requires.1.0 _ c.part.ensures _ c.retained.ensures c.if-retained.false _ _ c.stem-u.ensures _ c.part-2.ensures _ _ _ _ _ _ c.in_ok-w.ensures c.if-left-eq0.false _ _ _ _ (round_end _ _ _ _ _ _ _ _ _ _ _ _ _ _ _ _ _ _ _ _ _ c.loop-j.invariant _ c.way_count-z.ensures (omega arith)) c.loop-j.invariant.front
