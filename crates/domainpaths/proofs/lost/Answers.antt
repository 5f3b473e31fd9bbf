-- `domainpaths::lost` meets its contract. Assumes nothing.
use Rattle.domainpaths.proofs.Walks.{walk_elements, walk_given, walk_over, walk_loses}
use Rattle.domainpaths.proofs.lost.Goals as goal

pub domain_elements-m-requires : goal.domain_elements-m-requires
domain_elements-m-requires c = search walk_elements

pub domain_paths-requires : goal.domain_paths-requires
domain_paths-requires c = search walk_given

pub returns-in-Err : goal.returns-in-Err
returns-in-Err c = walk_over _ _ _ _ _ _ _ _ _ _ _ _ _ c.requires.0 _ _ _ _ _ _ c.in-Err.ensures c.domain_elements-m.ensures

pub returns-in-Ok : goal.returns-in-Ok
returns-in-Ok c = walk_loses _ _ _ _ _ _ _ _ _ _ _ _ _ c.requires.0 _ _ _ _ _ _ _ _ _ c.in-Ok.ensures c.domain_elements-m.ensures
