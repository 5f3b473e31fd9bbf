use mathlib.Core.Path.{refl}
use Rattle.processes.proofs.Texts.{leads_start, leads_row, leads_front, leads_number, leads_one, leads_other, leads_skip, leads}
use borrow.Author.Rules.{rules}
use Rattle.processes.proofs.processes.Goals as goal

pub loop-k-init : goal.loop-k-init
loop-k-init c = (refl, leads_start _ _ _ _ _ _ _ _ (search rules))

pub strategy_at-i-requires : goal.strategy_at-i-requires
strategy_at-i-requires c = leads_row _ _ _ _ _ _ _ _ _ _ _ c.loop-k.invariant.1 c.loop-k-test.true

pub loop-k-preserved-then-i-s : goal.loop-k-preserved-then-i-s
loop-k-preserved-then-i-s c = (search rules, leads_skip _ _ _ _ _ _ _ _ _ _ _ c.loop-k.invariant.1 c.loop-k-test.true _ c.strategy_at-i.ensures c.if-i-s.true)

pub is_led-requires : goal.is_led-requires
is_led-requires c = (leads_front _ _ _ _ _ _ _ _ _ _ _ c.loop-k.invariant.1 c.loop-k-test.true, leads_number _ _ _ _ _ _ _ _ _ _ _ c.loop-k.invariant.1 c.loop-k-test.true _ c.strategy_at-i.ensures)

pub loop-k-preserved-then-is_led : goal.loop-k-preserved-then-is_led
loop-k-preserved-then-is_led c = (search rules, leads_other _ _ _ _ _ _ _ _ _ _ _ c.loop-k.invariant.1 c.loop-k-test.true _ c.strategy_at-i.ensures _ c.is_led.ensures c.if-is_led.true)

pub process-requires : goal.process-requires
process-requires c = (c.loop-k.invariant.1.ruled, leads_number _ _ _ _ _ _ _ _ _ _ _ c.loop-k.invariant.1 c.loop-k-test.true _ c.strategy_at-i.ensures)

pub loop-k-preserved : goal.loop-k-preserved
loop-k-preserved c = (search rules, leads_one _ _ _ _ _ _ _ _ _ _ _ c.loop-k.invariant.1 c.loop-k-test.true _ c.strategy_at-i.ensures _ c.is_led.ensures c.if-is_led.false _ c.process.ensures.1)

pub returns : goal.returns
returns c = (search rules, search leads)
