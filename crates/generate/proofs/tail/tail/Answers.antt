-- `generate::tail::tail` meets its contract. Assumes nothing.
use mathlib.Core.Path.{refl}
use Rattle.std.proofs.Common.{rules}
use Rattle.out.specs.Emit.{emit}
use Rattle.generate.proofs.Bridged.{bridged_at}
use Rattle.generate.proofs.Tails.{all_tailed}
use Rattle.generate.proofs.tail.tail.Goals as goal

pub returns : goal.returns
returns c = all_tailed c.args.src.now.design.index.job.now c.args.src.now.design.index.rows.now c.args.src.now.design.count c.args.k c.args.src.now.mem.files.now c.args.src.now.mem.area.now c.args.src.now.scope.over.now c.args.src.now.scope.from c.args.src.now.top.now c.args.s c.requires c.args.remarks c.args.s.fill refl c.args.s.shifters refl c.args.s.tables refl _ _ _ _ _ refl (bridged_at _ _ _ _ _ _ c.listed.ensures.lines c.over-to.ensures.from (search rules)) c.warnings.ensures
