use mathlib.Core.Path.{refl}
use Rattle.processes.proofs.Written.{writes_start, writes_row, writes_numbered, writes_clamp, writes_one, writes_other, writes_skip, writes}
use borrow.Author.Rules.{rules}
use Rattle.processes.proofs.each_port.Goals as goal

pub loop-k-init : goal.loop-k-init
loop-k-init c = (refl, writes_start _ _ _ _ _ _ _ _ _ _ (search rules) (search rules) (search rules))

pub strategy_at-j-requires : goal.strategy_at-j-requires
strategy_at-j-requires c = writes_row _ _ _ _ _ _ _ _ _ _ _ _ _ c.loop-k.invariant.1 c.loop-k-test.true

pub loop-k-preserved-then-j-s : goal.loop-k-preserved-then-j-s
loop-k-preserved-then-j-s c = (search rules, writes_skip _ _ _ _ _ _ _ _ _ _ _ _ _ c.loop-k.invariant.1 c.loop-k-test.true _ c.strategy_at-j.ensures c.if-j-s.true)

pub bounds-t-j : goal.bounds-t-j
bounds-t-j c = writes_numbered _ _ _ _ _ _ _ _ _ _ _ _ _ c.loop-k.invariant.1 c.loop-k-test.true _ c.strategy_at-j.ensures

pub loop-k-preserved-then-not-alike_rows : goal.loop-k-preserved-then-not-alike_rows
loop-k-preserved-then-not-alike_rows c = (search rules, writes_other _ _ _ _ _ _ _ _ _ _ _ _ _ c.loop-k.invariant.1 c.loop-k-test.true _ c.strategy_at-j.ensures _ c.alike_rows.ensures c.if-not-alike_rows.true-raw)

pub port_at-x-requires : goal.port_at-x-requires
port_at-x-requires c = writes_row _ _ _ _ _ _ _ _ _ _ _ _ _ c.loop-k.invariant.1 c.loop-k-test.true

pub put_port-requires : goal.put_port-requires
put_port-requires c = (c.loop-k.invariant.1.template, writes_clamp _ _ _ _ _ _ _ _ _ _ _ _ _ c.loop-k.invariant.1 c.loop-k-test.true _ c.strategy_at-j.ensures)

pub loop-k-preserved : goal.loop-k-preserved
loop-k-preserved c = (search rules, writes_one _ _ _ _ _ _ _ _ _ _ _ _ _ c.loop-k.invariant.1 c.loop-k-test.true _ c.strategy_at-j.ensures _ c.alike_rows.ensures c.if-not-alike_rows.false-raw _ c.port_at-x.ensures _ c.put_port.ensures.1)

pub offset_bounds-t-j : goal.offset_bounds-t-j
offset_bounds-t-j c = search (rules, writes_numbered _ _ _ _ _ _ _ _ _ _ _ _ _ c.loop-k.invariant.1 c.loop-k-test.true _ c.strategy_at-j.ensures)

pub returns : goal.returns
returns c = (search rules, search writes)
