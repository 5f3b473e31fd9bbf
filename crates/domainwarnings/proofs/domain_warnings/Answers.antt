use mathlib.Core.Path.{refl}
use borrow.Author.Rules.{rules}
use Rattle.jobindex.specs.Index.{module_row}
use Rattle.lookup.specs.Rows.{modules}
use Rattle.domainwarnings.proofs.Tells.{domained_start, domained_next, domained_done, indices, domain_asked, domain_low, told_low}
use Rattle.domainwarnings.proofs.domain_warnings.Goals as goal

pub returns : goal.returns
returns c =
    (search rules, domained_done c.args.mem.now.files.now c.args.mem.now.area.now c.args.t c.requires.1.0 (modules c.args.design.now.index.job.now c.args.design.now.index.rows.now c.args.design.now.count) (module_row c.args.design.now.index.job.now c.args.design.now.index.rows.now c.args.k) _ _ _ _ _ c.loop-i.invariant.1.1.1 c.loop-i-test.false c.loop-i.invariant.1.0 c.loop-i.invariant.1.1.0)

pub loop-i-init : goal.loop-i-init
loop-i-init c = (refl, (search rules, (search rules, search domained_start)))

pub of_domain-told-requires : goal.of_domain-told-requires
of_domain-told-requires c = (search rules, (search domain_asked, search domain_low))

pub loop-i-preserved : goal.loop-i-preserved
loop-i-preserved c = (search rules, (search rules, (search told_low, search domained_next)))

pub bounds-t-i : goal.bounds-t-i
bounds-t-i c = search indices
