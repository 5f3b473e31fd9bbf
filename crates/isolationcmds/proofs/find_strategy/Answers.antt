-- The place of the first such strategy. Assumes nothing.
use Rattle.std.specs.Prelude.{◌++◌, ◌≡◌, length}
use Rattle.std.proofs.Common.{rules, arith}
use Rattle.std.proofs.Math.Seq.{length-take-le}
use Rattle.std.proofs.lemmas.Iterator.{YieldsList-from_slice}
use Rattle.std.proofs.lemmas.Iterator.Search.{position_from_yields_List}
use Rattle.made.specs.Firsts.{array_long, first_found}
use Rattle.isolationcmds.specs.Strategies.{is_strategy_at}
use Rattle.isolationcmds.proofs.find_strategy.Goals as goal

pub returns : goal.returns
returns c =
    let t = is_strategy_at (c.args.mem.now.files.now ++ c.args.mem.now.area.now) c.args.name c.args.domain in
    let q : length c.args.t.all ≡ 32 = search array_long in
    let found = position_from_yields_List t _ _ c.position.result c.position.ensures.ran (YieldsList-from_slice _ c.iter.ensures.rest) (λ x b f k. search rules) in
    first_found t _ _ _ _ (length-take-le c.args.t.n c.args.t.all (omega (arith, c.requires, q))) found c.unwrap_or.ensures
