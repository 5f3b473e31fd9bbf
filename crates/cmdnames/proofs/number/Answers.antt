-- `cmdnames::number` meets its contract: the constant table holds the thirty names, by computation. Assumes nothing.
use Rattle.std.specs.Prelude.{◌++◌, refl}
use Rattle.std.proofs.Common.{rules, Bor}
use Rattle.std.proofs.lemmas.Iterator.{YieldsList-from_slice}
use Rattle.std.proofs.lemmas.Iterator.Search.{position_from_yields_List}
use Rattle.text.specs.Ascii.{Bytes}
use Rattle.text.specs.Compare.{same}
use Rattle.spans.specs.Span.{bytes}
use Rattle.cmdnames.proofs.Finds.{firsts, number_found}
use Rattle.cmdnames.proofs.number.Goals as goal

pub returns : goal.returns
unfolding firsts
returns c =
    let w = bytes (c.args.mem.now.files.now ++ c.args.mem.now.area.now) c.args.w in
    let found = position_from_yields_List (λ (x : Bor Bytes). same w x.now) _ _ c.position.result c.position.ensures.ran (YieldsList-from_slice _ c.iter.ensures.rest) (λ x b f k. search rules) in
    number_found (λ (x : Bor Bytes). x.now) w _ _ c.iter.ensures.rest _ _ _ refl refl found c.unwrap_or.ensures
