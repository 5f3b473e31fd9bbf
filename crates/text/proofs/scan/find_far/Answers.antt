use Rattle.text.specs.Lists.{rest_some}
use Rattle.text.specs.Scan.{is}
use Rattle.text.proofs.Scanned.{ends_at, memchr_found}
use Rattle.text.proofs.scan.find_far.Goals as goal

pub returns : goal.returns
returns c = ends_at (is c.args.b) c.args.at _ _ c.args.s.now _ c.requires (rest_some c.args.s.now c.args.at) c.unwrap_or.ensures (memchr_found _ _ _ c.memchr.ensures)
