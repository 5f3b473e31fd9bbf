use Rattle.std.proofs.Common.{rules}
use Rattle.std.proofs.lemmas.Iterator.{YieldsList-from_slice}
use Rattle.std.proofs.lemmas.Iterator.Search.{position_from_yields_List}
use Rattle.text.specs.Lists.{rest_some}
use Rattle.text.specs.Scan.{is}
use Rattle.text.proofs.Scanned.{ends_at, position_found}
use Rattle.text.proofs.scan.find.Goals as goal

pub returns : goal.returns
returns c =
    let is_b = is c.args.b in
    let first = position_from_yields_List is_b _ _ c.position.result c.position.ensures.ran (YieldsList-from_slice _ c.iter.ensures.rest) (λ x t q k. search rules) in
    ends_at is_b c.args.at _ _ c.args.s.now _ c.requires (rest_some c.args.s.now c.args.at) c.unwrap_or.ensures (position_found is_b _ c.position.result first)
