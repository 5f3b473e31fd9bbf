-- `out::template::eight_plain` meets its contract. Assumes nothing.
use Rattle.out.proofs.Plains.{plain_eight}
use Rattle.out.proofs.template.eight_plain.Goals as goal

pub returns : goal.returns
returns c = search plain_eight
