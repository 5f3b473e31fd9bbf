use Rattle.std.proofs.Common.{rules}
use Rattle.std.proofs.lemmas.Iterator.{YieldsList-from_slice}
use Rattle.std.proofs.lemmas.Iterator.Search.{position_from_yields_List}
use Rattle.text.specs.Lists.{rest_some}
use Rattle.scope.specs.Parts.{separates}
use Rattle.scope.proofs.Turns.{ends_at, found_at}
use Rattle.scope.proofs.part_end.Goals as goal

pub returns : goal.returns
returns c =
    let first = position_from_yields_List separates _ _ c.position.result c.position.ensures.ran (YieldsList-from_slice _ c.iter.ensures.rest) (λ x t q k. search rules) in
    ends_at separates c.args.at _ c.args.over.now _ _ c.requires (rest_some c.args.over.now c.args.at) c.unwrap_or.ensures (found_at separates _ c.position.result first)
