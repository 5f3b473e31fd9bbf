use Rattle.corrupt.proofs.OwnNames.{own_over, names_sized, names_stop, names_on, owns}
use Rattle.corrupt.proofs.own.Goals as goal

pub name-n-requires : goal.name-n-requires
name-n-requires c = (search owns, search owns)

pub add-requires : goal.add-requires
add-requires c = (names_sized _ _ _ _ _ _ _ _ _ _ _ _ _ _ _ _ c.loop-i.invariant _ c.name_count-z.ensures c.loop-i-test.true _ c.name-n.ensures, (c.loop-i.invariant.numbered, c.loop-i.invariant.turn.ready))

pub returns-then-s-eq4096 : goal.returns-then-s-eq4096
returns-then-s-eq4096 c = own_over _ c.args.s _ c.if-s-eq4096.true

pub returns-in_err-w : goal.returns-in_err-w
returns-in_err-w c = names_stop _ _ _ _ _ _ _ _ _ _ _ _ _ _ _ _ c.loop-i.invariant _ c.name_count-z.ensures c.loop-i-test.true _ c.name-n.ensures c.in_err-w.ensures _ _ _ _ c.from_residual.ensures.1

pub loop-i-preserved : goal.loop-i-preserved
loop-i-preserved c = names_on _ _ _ _ _ _ _ _ _ _ _ _ _ _ _ _ c.loop-i.invariant _ c.name_count-z.ensures c.loop-i-test.true _ c.name-n.ensures _ _ _ c.in_ok-w.ensures

pub loop-i-init : goal.loop-i-init
loop-i-init c = search owns

pub returns : goal.returns
returns c = search owns
