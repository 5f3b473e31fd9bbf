use borrow.Author.Rules.{rules}
use Rattle.supplies.proofs.Written.{each_start, each_next, each_done}
use Rattle.supplies.proofs.write.cases.Goals as goal

pub loop-k-init : goal.loop-k-init
loop-k-init c = (search rules, each_start _ _ _ _ _)

pub case_text-requires : goal.case_text-requires
case_text-requires c = c.requires.1

pub loop-k-preserved : goal.loop-k-preserved
loop-k-preserved c = (search rules, search each_next)

pub returns : goal.returns
returns c = search each_done
