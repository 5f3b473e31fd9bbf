-- The place of the first record of the name. Assumes nothing.
use Rattle.std.specs.Prelude.{◌++◌}
use Rattle.std.proofs.Common.{rules}
use Rattle.std.proofs.lemmas.Iterator.{YieldsList-from_slice}
use Rattle.std.proofs.lemmas.Iterator.Search.{position_from_yields_List}
use Rattle.made.specs.Firsts.{first_found}
use Rattle.finddomain.specs.Named.{has_name}
use Rattle.finddomain.proofs.first_named.Goals as goal

pub returns : goal.returns
returns g c =
    let t = has_name g.T.Named.told (c.args.mem.now.files.now ++ c.args.mem.now.area.now) c.args.name in
    let found = position_from_yields_List t _ _ c.position.result c.position.ensures.ran (YieldsList-from_slice _ c.iter.ensures.rest) (λ x b f k. search rules) in
    first_found t _ _ _ _ (search rules) found c.unwrap_or.ensures
