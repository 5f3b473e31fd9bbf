use mathlib.Core.Path.{sym}
use lib.Seq.{length-take-le}
use lib.ListN.{length}
use Rattle.upf.specs.Laws.{relent, files_short, area_short, nums_short, all_roomy}
use Rattle.upf.proofs.answered.Goals as goal

pub refused-requires : goal.refused-requires
refused-requires c = tt

pub returns-then-files-lt65536 : goal.returns-then-files-lt65536
returns-then-files-lt65536 c = files_short c.args.job.now (length c.args.files.now) (length c.args.area.now) (length c.args.nums.now) c.args.glue.now c.args.glue.now c.args.pkg.now c.args.pkg.now c.args.report.now c.args.report.now c.args.log.now c.args.log.now _ c.if-files-lt65536.true c.refused.ensures

pub refused-requires-then-area-lt65536 : goal.refused-requires-then-area-lt65536
refused-requires-then-area-lt65536 c = tt

pub returns-then-area-lt65536 : goal.returns-then-area-lt65536
returns-then-area-lt65536 c = area_short c.args.job.now (length c.args.files.now) (length c.args.area.now) (length c.args.nums.now) c.args.glue.now c.args.glue.now c.args.pkg.now c.args.pkg.now c.args.report.now c.args.report.now c.args.log.now c.args.log.now _ c.if-files-lt65536.false c.if-area-lt65536.true c.refused-then-area-lt65536.ensures

pub refused-requires-then-nums-lt16384 : goal.refused-requires-then-nums-lt16384
refused-requires-then-nums-lt16384 c = tt

pub returns-then-nums-lt16384 : goal.returns-then-nums-lt16384
returns-then-nums-lt16384 c = nums_short c.args.job.now (length c.args.files.now) (length c.args.area.now) (length c.args.nums.now) c.args.glue.now c.args.glue.now c.args.pkg.now c.args.pkg.now c.args.report.now c.args.report.now c.args.log.now c.args.log.now _ c.if-files-lt65536.false c.if-area-lt65536.false c.if-nums-lt16384.true c.refused-then-nums-lt16384.ensures

pub slice_bounds-in_area-end-2 : goal.slice_bounds-in_area-end-2
slice_bounds-in_area-end-2 c = sym (length-take-le 65536 c.args.files.now c.if-files-lt65536.false)

pub in_area-requires : goal.in_area-requires
in_area-requires c = (length-take-le 65536 c.args.files.now c.if-files-lt65536.false, (c.if-area-lt65536.false, c.if-nums-lt16384.false))

pub shape_of-files : goal.shape_of-files
shape_of-files c = relent 65536 c.args.files.now c.in_area.new.files c.in_area.auto.files

pub shape_of-area : goal.shape_of-area
shape_of-area c = c.in_area.auto.area

pub shape_of-nums : goal.shape_of-nums
shape_of-nums c = c.in_area.auto.nums

pub shape_of-glue : goal.shape_of-glue
shape_of-glue c = c.in_area.auto.glue

pub shape_of-pkg : goal.shape_of-pkg
shape_of-pkg c = c.in_area.auto.pkg

pub shape_of-report : goal.shape_of-report
shape_of-report c = c.in_area.auto.report

pub shape_of-log : goal.shape_of-log
shape_of-log c = c.in_area.auto.log

pub returns : goal.returns
returns c = all_roomy c.args.job.now (length c.args.files.now) (length c.args.area.now) (length c.args.nums.now) c.args.glue.now _ c.args.pkg.now _ c.args.report.now _ c.args.log.now _ _ c.if-files-lt65536.false c.if-area-lt65536.false c.if-nums-lt16384.false c.in_area.ensures
