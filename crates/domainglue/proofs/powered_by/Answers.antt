-- `domainglue::powered_by` meets its contract. Assumes nothing.
use Rattle.domainglue.proofs.Written.{glue_sorts, knowns, glue_are}
use Rattle.domainglue.proofs.powered_by.Goals as goal

pub checks-m-requires : goal.checks-m-requires
checks-m-requires c = search glue_sorts

pub put_glue-requires : goal.put_glue-requires
put_glue-requires c = search knowns

pub returns : goal.returns
returns c = search glue_are
