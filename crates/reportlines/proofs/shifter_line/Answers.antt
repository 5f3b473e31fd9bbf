-- `reportlines::shifter_line` meets its contract. Assumes nothing.
use Rattle.reportlines.proofs.Shifters.{shifter_is}
use Rattle.reportlines.proofs.shifter_line.Goals as goal

pub returns : goal.returns
returns c = search shifter_is
