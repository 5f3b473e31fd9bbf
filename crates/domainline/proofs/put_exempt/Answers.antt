-- `domainline::put_exempt` meets its contract. Assumes nothing.
use Rattle.domainline.proofs.Written.{exempt_all}
use Rattle.domainline.proofs.put_exempt.Goals as goal

pub returns : goal.returns
returns c = (cc, exempt_all _ _ _ _ _ _ _ c.put_entries.ensures.1 c.put.ensures.1 c.if-table-eq0.false)
