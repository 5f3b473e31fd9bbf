-- `generate::tail::warnings_by` meets its contract: the four kinds of warnings, one behind the other, and their number. Assumes nothing.
use mathlib.Core.Path.{refl, sym}
use mathlib.Core.Bool.{true}
use native.Mathlib.Omega.{arith}
use Rattle.generate.proofs.Isolates.{asks_isolates, isolated_few}
use Rattle.std.proofs.Common.{rules}
use Rattle.generate.proofs.Tails.{switches_asked, warned_low, domains_asked, sum_low, switches_by, domains_by, warned_over, all_warned}
use Rattle.generate.proofs.tail.warnings_by.Goals as goal

pub switch_warnings-b-requires : goal.switch_warnings-b-requires
switch_warnings-b-requires c = (switches_asked c.args.src.now.design.index.job.now c.args.src.now.design.index.rows.now c.args.src.now.design.count c.args.k c.args.src.now.mem.files.now c.args.src.now.mem.area.now c.args.src.now.scope.over.now c.args.s c.requires.0 c.args.s.switches refl, warned_low c.args.src.now.design.index.job.now c.args.src.now.design.index.rows.now c.args.src.now.design.count c.args.k c.args.src.now.mem.files.now c.args.src.now.mem.area.now c.args.src.now.scope.over.now c.args.s c.requires.0 c.args.s.fill refl)

pub isolate-c-requires : goal.isolate-c-requires
isolate-c-requires c = (asks_isolates c.args.src.now.design.index.job.now c.args.src.now.design.index.rows.now c.args.src.now.design.count c.args.k c.args.src.now.mem.files.now c.args.src.now.mem.area.now c.args.src.now.scope.over.now c.args.s c.requires.0, c.requires.1)

pub returns-then-c : goal.returns-then-c
returns-then-c c = warned_over c.args.src.now.design.index.job.now c.args.src.now.design.index.rows.now c.args.src.now.design.count c.args.k c.args.src.now.mem.files.now c.args.src.now.mem.area.now c.args.src.now.scope.over.now c.args.src.now.scope.from c.args.src.now.top.now c.args.s c.requires.0 _ _ _ _ _ _ _ c.isolate-c.ensures c.if-c.true

pub overflow_add-b : goal.overflow_add-b
overflow_add-b c = let h = sum_low _ _ _ _ _ _ c.switch_warnings-b.ensures.1 (warned_low c.args.src.now.design.index.job.now c.args.src.now.design.index.rows.now c.args.src.now.design.count c.args.k c.args.src.now.mem.files.now c.args.src.now.mem.area.now c.args.src.now.scope.over.now c.args.s c.requires.0 c.args.s.fill refl) (isolated_few c.args.src.now.design.index.job.now c.args.src.now.design.index.rows.now c.args.src.now.design.count c.args.k c.args.src.now.mem.files.now c.args.src.now.mem.area.now c.args.s true _ _ _ _ c.isolate-c.ensures c.if-c.false) in omega arith

pub domain_warnings-count-requires : goal.domain_warnings-count-requires
domain_warnings-count-requires c = ((c.requires.0.few, c.requires.0.row), (domains_asked c.args.src.now.design.index.job.now c.args.src.now.design.index.rows.now c.args.src.now.design.count c.args.k c.args.src.now.mem.files.now c.args.src.now.mem.area.now c.args.src.now.scope.over.now c.args.s c.requires.0 c.args.s.domains refl, sum_low _ _ _ _ _ _ c.switch_warnings-b.ensures.1 (warned_low c.args.src.now.design.index.job.now c.args.src.now.design.index.rows.now c.args.src.now.design.count c.args.k c.args.src.now.mem.files.now c.args.src.now.mem.area.now c.args.src.now.scope.over.now c.args.s c.requires.0 c.args.s.fill refl) (isolated_few c.args.src.now.design.index.job.now c.args.src.now.design.index.rows.now c.args.src.now.design.count c.args.k c.args.src.now.mem.files.now c.args.src.now.mem.area.now c.args.s true _ _ _ _ c.isolate-c.ensures c.if-c.false)))

pub returns : goal.returns
returns c = all_warned c.args.src.now.design.index.job.now c.args.src.now.design.index.rows.now c.args.src.now.design.count c.args.k c.args.src.now.mem.files.now c.args.src.now.mem.area.now c.args.src.now.scope.over.now c.args.src.now.scope.from c.args.src.now.top.now c.args.s c.requires.0 c.args.s.fill refl c.args.s.switches refl c.args.s.domains refl _ _ _ _ _ _ _ _ _ (search rules) (switches_by _ _ _ _ _ _ _ _ c.switch_warnings-b.ensures.1 refl (search rules)) c.isolate-c.ensures c.if-c.false (domains_by _ _ _ _ _ _ _ _ c.domain_warnings-count.ensures.1 (sym c.over-text.ensures.from) (search rules))
