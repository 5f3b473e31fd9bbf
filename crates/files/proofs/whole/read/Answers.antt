use Rattle.reader.proofs.Opens.{room, opening, was_read}
use Rattle.files.proofs.whole.read.Goals as goal

pub join_files-requires : goal.join_files-requires
join_files-requires c =
    room c.args.job.now c.args.files.now c.args.area.now c.args.nums.now c.args.count c.args.first c.requires

pub read_file-requires : goal.read_file-requires
read_file-requires c =
    opening c.args.job.now c.args.files.now c.args.area.now c.args.nums.now c.args.count c.args.first c.requires _ _ _ c.join_files.ensures c.join_files.auto.files _ c.start-s.ensures

pub returns : goal.returns
returns c =
    was_read c.args.job.now c.args.files.now c.args.area.now c.args.nums.now c.args.count c.args.first c.requires _ _ _ c.join_files.ensures c.join_files.auto.files _ c.start-s.ensures _ _ _ _ _ c.read_file.ensures
