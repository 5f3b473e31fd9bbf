use mathlib.Core.Path.{sym}
use lib.Seq.{length-take-le}
use Rattle.upf.specs.Laws.{relent}
use Rattle.upf.proofs.in_area.Goals as goal

pub slice_bounds-checked-end-2 : goal.slice_bounds-checked-end-2
slice_bounds-checked-end-2 c = sym (length-take-le 65536 c.args.area.now c.requires.1.0)

pub checked-requires : goal.checked-requires
checked-requires c = (c.requires.0, (length-take-le 65536 c.args.area.now c.requires.1.0, c.requires.1.1))

pub shape_of-files : goal.shape_of-files
shape_of-files c = c.checked.auto.files

pub shape_of-area : goal.shape_of-area
shape_of-area c = relent 65536 c.args.area.now c.checked.new.area c.checked.auto.area

pub shape_of-nums : goal.shape_of-nums
shape_of-nums c = c.checked.auto.nums

pub shape_of-glue : goal.shape_of-glue
shape_of-glue c = c.checked.auto.glue

pub shape_of-pkg : goal.shape_of-pkg
shape_of-pkg c = c.checked.auto.pkg

pub shape_of-report : goal.shape_of-report
shape_of-report c = c.checked.auto.report

pub shape_of-log : goal.shape_of-log
shape_of-log c = c.checked.auto.log

pub returns : goal.returns
returns c = c.checked.ensures
