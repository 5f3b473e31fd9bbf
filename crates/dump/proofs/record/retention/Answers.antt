-- `dump::record::retention` meets its contract. Assumes nothing.
use Rattle.dump.specs.Records.{retention_text}
use Rattle.out.specs.Emit.{wrote, ◌then◌, kept}
use Rattle.dump.proofs.record.retention.Goals as goal

pub returns : goal.returns
unfolding retention_text
returns c =
    (wrote c.stored-o1.ensures then
    wrote c.stored-o2.ensures then
    wrote c.stored-o3.ensures then
    wrote c.stored.ensures).is

pub shape_of-out : goal.shape_of-out
shape_of-out c = kept (wrote (returns c))
