use Rattle.alike.specs.Ruled.{row_small}
use Rattle.processes.proofs.Led.{number_small, seek_start, seek_skip, seek_here, seek_on, seeks}
use borrow.Author.Rules.{rules}
use Rattle.processes.proofs.is_led.Goals as goal

pub loop-k-init : goal.loop-k-init
loop-k-init c = seek_start _ _ _ _

pub strategy_at-j-requires : goal.strategy_at-j-requires
strategy_at-j-requires c = row_small _ _ _ _ c.requires.0 _ c.loop-k-test.true

pub loop-k-preserved-then-j-s : goal.loop-k-preserved-then-j-s
loop-k-preserved-then-j-s c = seek_skip _ _ _ _ _ _ _ c.loop-k.invariant c.loop-k-test.true _ c.strategy_at-j.ensures c.requires.0 c.if-j-s.true

pub bounds-t-j : goal.bounds-t-j
bounds-t-j c = number_small _ _ _ _ c.requires.0 _ c.loop-k-test.true _ c.strategy_at-j.ensures

pub returns-then-alike_rows : goal.returns-then-alike_rows
returns-then-alike_rows c = seek_here _ c.args.t _ _ _ _ _ c.loop-k.invariant c.loop-k-test.true _ c.strategy_at-j.ensures _ c.alike_rows.ensures c.if-alike_rows.true

pub loop-k-preserved : goal.loop-k-preserved
loop-k-preserved c = seek_on _ c.args.t _ _ _ _ _ c.loop-k.invariant c.loop-k-test.true _ c.strategy_at-j.ensures _ c.alike_rows.ensures c.if-alike_rows.false

pub offset_bounds-t-j : goal.offset_bounds-t-j
offset_bounds-t-j c = search (rules, number_small _ _ _ _ c.requires.0 _ c.loop-k-test.true _ c.strategy_at-j.ensures)

pub returns : goal.returns
returns c = search seeks
