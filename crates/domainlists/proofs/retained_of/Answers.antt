use mathlib.Core.Path.{refl}
use borrow.Author.Rules.{rules}
use Rattle.domainlists.proofs.Tables.{own_start, own_step, own_other, own_rooms, owns, strings_same}
use Rattle.domainlists.proofs.retained_of.Goals as goal

pub put_below-n-requires : goal.put_below-n-requires
put_below-n-requires c =
    own_rooms _ _ _ _ c.requires _ c.loop-i-test.true _ _ _ _ c.loop-i.invariant.1 _ (strings_same _ _ _ _ _ _ c.same_spans.ensures c.from.ensures c.from-in-loop-i.ensures) c.if-not-same_spans.false

pub loop-i-init : goal.loop-i-init
loop-i-init c = (refl, own_start _ _ _ _)

pub offset_bounds-t-i : goal.offset_bounds-t-i
offset_bounds-t-i c = search owns

pub bounds-t-i : goal.bounds-t-i
bounds-t-i c = search owns

pub returns : goal.returns
returns c = search owns

pub loop-i-preserved-then-not-same_spans : goal.loop-i-preserved-then-not-same_spans
loop-i-preserved-then-not-same_spans c = (search rules, own_other _ _ _ _ c.requires _ c.loop-i-test.true _ _ _ _ c.loop-i.invariant.1 _ (strings_same _ _ _ _ _ _ c.same_spans.ensures c.from.ensures c.from-in-loop-i.ensures) c.if-not-same_spans.true)

pub loop-i-preserved : goal.loop-i-preserved
loop-i-preserved c = (search rules, own_step _ _ _ _ c.requires _ c.loop-i-test.true _ _ _ _ c.loop-i.invariant.1 _ (strings_same _ _ _ _ _ _ c.same_spans.ensures c.from.ensures c.from-in-loop-i.ensures) c.if-not-same_spans.false _ _ c.put_below-n.ensures)
