-- `domains::supplied_by` meets its contract. Assumes nothing.
use mathlib.Core.List.{[]}
use Rattle.domains.proofs.OneDomain.{walk_asked, texts_asked, supplied_over, supplied_texts}
use Rattle.domains.proofs.supplied_by.Goals as goal

pub lost-requires : goal.lost-requires
lost-requires c = (walk_asked _ _ _ _ _ _ _ _ _ _ _ _ _ _ _ c.requires.0.0 _ _ _ _ c.requires.0.1 c.requires.1.0, c.requires.1.1)

pub returns-in-Err : goal.returns-in-Err
returns-in-Err c = supplied_over _ _ _ _ _ _ _ _ _ _ _ _ _ _ _ c.requires.0.0 _ _ [] [] _ _ _ _ _ _ _ _ c.in-Err.ensures

pub texts-requires : goal.texts-requires
texts-requires c = texts_asked _ _ _ _ _ _ _ _ _ _ _ _ _ _ _ c.requires.0.0 _ _ _ _ _ c.in-Ok.ensures

pub returns-in-Ok : goal.returns-in-Ok
returns-in-Ok c = supplied_texts _ _ _ _ _ _ _ _ _ _ _ _ _ _ _ c.requires.0.0 _ _ _ _ _ _ _ _ _ _ _ _ c.in-Ok.ensures _ c.texts.ensures
