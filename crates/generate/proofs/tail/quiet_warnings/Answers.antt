-- `generate::tail::quiet_warnings` meets its contract: three kinds of warnings, one behind the other, and their number. Assumes nothing.
use mathlib.Core.Path.{refl}
use Rattle.std.proofs.Common.{rules}
use Rattle.generate.proofs.Tails.{switches_asked, warned_low, domains_asked, part_low, domains_by, all_quiet}
use Rattle.generate.proofs.tail.quiet_warnings.Goals as goal

pub switch_warnings-b-requires : goal.switch_warnings-b-requires
switch_warnings-b-requires c = (switches_asked c.args.src.now.design.index.job.now c.args.src.now.design.index.rows.now c.args.src.now.design.count c.args.k c.args.src.now.mem.files.now c.args.src.now.mem.area.now c.args.src.now.scope.over.now c.args.s c.requires c.args.s.switches refl, warned_low c.args.src.now.design.index.job.now c.args.src.now.design.index.rows.now c.args.src.now.design.count c.args.k c.args.src.now.mem.files.now c.args.src.now.mem.area.now c.args.src.now.scope.over.now c.args.s c.requires c.args.s.fill refl)

pub domain_warnings-count-requires : goal.domain_warnings-count-requires
domain_warnings-count-requires c = ((c.requires.few, c.requires.row), (domains_asked c.args.src.now.design.index.job.now c.args.src.now.design.index.rows.now c.args.src.now.design.count c.args.k c.args.src.now.mem.files.now c.args.src.now.mem.area.now c.args.src.now.scope.over.now c.args.s c.requires c.args.s.domains refl, part_low _ _ _ _ _ c.switch_warnings-b.ensures.1 (warned_low c.args.src.now.design.index.job.now c.args.src.now.design.index.rows.now c.args.src.now.design.count c.args.k c.args.src.now.mem.files.now c.args.src.now.mem.area.now c.args.src.now.scope.over.now c.args.s c.requires c.args.s.fill refl)))

pub returns : goal.returns
returns c = all_quiet c.args.src.now.design.index.job.now c.args.src.now.design.index.rows.now c.args.src.now.design.count c.args.k c.args.src.now.mem.files.now c.args.src.now.mem.area.now c.args.src.now.scope.over.now c.args.src.now.scope.from c.args.src.now.top.now c.args.s c.requires c.args.s.fill refl c.args.s.switches refl c.args.s.domains refl _ _ _ _ _ _ (search rules) c.switch_warnings-b.ensures.1 (domains_by _ _ _ _ _ _ _ _ c.domain_warnings-count.ensures.1 refl (search rules))
