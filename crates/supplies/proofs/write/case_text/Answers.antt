-- `supplies::write::case_text` meets its contract. Assumes nothing.
use Rattle.supplies.proofs.Written.{case_is}
use Rattle.supplies.proofs.write.case_text.Goals as goal

pub fill4-requires : goal.fill4-requires
fill4-requires c = c.requires

pub returns : goal.returns
returns c = search case_is
