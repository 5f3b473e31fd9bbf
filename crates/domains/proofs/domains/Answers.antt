use mathlib.Core.Path.{refl}
use native.Mathlib.Omega.{arith}
use Rattle.domains.proofs.Turns.{telling_start, telling_next, telling_over, telling_end, few_domains, domain_asked, room_kept}
use borrow.Author.Rules.{rules}
use Rattle.domains.proofs.domains.Goals as goal

pub loop-i-init : goal.loop-i-init
loop-i-init c = (refl, (refl, (refl, (refl, (refl, telling_start _ _ _ _ _ _ _ _ _ _ _ _ _ _ _)))))

pub bounds-t-i : goal.bounds-t-i
bounds-t-i c = omega (arith, c.loop-i-test.true, few_domains _ _ _ _ _ _ _ _ _ _ _ _ _ _ _ c.requires.0)

pub domain-requires : goal.domain-requires
domain-requires c = ((c.requires.0, domain_asked _ _ _ _ _ _ _ _ _ _ _ _ _ _ _ c.requires.0 _ _ c.loop-i-test.true), room_kept _ _ _ _ _ _ c.requires.1 c.loop-i.invariant.0 c.loop-i.invariant.1.0 c.loop-i.invariant.1.1.0)

pub returns-in_err-o : goal.returns-in_err-o
returns-in_err-o c = telling_over _ _ _ _ _ _ _ _ _ _ _ _ _ _ _ c.requires.0 _ _ _ _ _ _ _ c.loop-i.invariant.1.1.1.1.1 _ _ _ c.loop-i-test.true _ c.in_err-o.ensures _ c.from_residual.ensures.1

pub loop-i-preserved : goal.loop-i-preserved
loop-i-preserved c = (search rules, (search rules, (search rules, (search rules, (search rules, telling_next _ _ _ _ _ _ _ _ _ _ _ _ _ _ _ c.requires.0 _ _ _ _ _ _ _ c.loop-i.invariant.1.1.1.1.1 _ _ _ c.loop-i-test.true _ c.in_ok-o.ensures)))))

pub returns : goal.returns
returns c = telling_end _ _ _ _ _ _ _ _ _ _ _ _ _ _ _ c.requires.0 _ _ _ _ _ _ _ c.loop-i.invariant.1.1.1.1.1 c.loop-i-test.false
