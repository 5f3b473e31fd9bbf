-- Whether a strategy has the name and the domain. Assumes nothing.
use Rattle.std.specs.Prelude.{◌++◌}
use Rattle.std.proofs.Common.{◌∙◌, eq-eqb}
use Rattle.isolationcmds.specs.Stored.{strategy_not, strategy_any, strategy_of_lem}
use Rattle.isolationcmds.proofs.is_strategy.Goals as goal

pub returns-then-size-eq0 : goal.returns-then-size-eq0
returns-then-size-eq0 c = eq-eqb c.size.result 0 c.if-size-eq0.true ∙ strategy_any (c.args.mem.now.files.now ++ c.args.mem.now.area.now) c.args.x c.args.name c.args.domain _ _ _ c.from.ensures c.from-2.ensures c.same_spans.ensures c.if-same_spans.true _ _ c.from-then-same_spans.ensures c.size.ensures c.if-size-eq0.true

pub returns-else-size-eq0 : goal.returns-else-size-eq0
returns-else-size-eq0 c = strategy_of_lem (c.args.mem.now.files.now ++ c.args.mem.now.area.now) c.args.x c.args.name c.args.domain _ _ _ c.from.ensures c.from-2.ensures c.same_spans.ensures c.if-same_spans.true _ _ c.from-then-same_spans.ensures c.size.ensures c.if-size-eq0.false _ _ _ c.from-else-size-eq0.ensures c.from-else-size-eq0-2.ensures c.same_spans-else-size-eq0.ensures

pub returns-else-same_spans : goal.returns-else-same_spans
returns-else-same_spans c = c.if-same_spans.false ∙ strategy_not (c.args.mem.now.files.now ++ c.args.mem.now.area.now) c.args.x c.args.name c.args.domain _ _ _ c.from.ensures c.from-2.ensures c.same_spans.ensures c.if-same_spans.false
