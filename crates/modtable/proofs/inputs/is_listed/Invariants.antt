-- `modtable::inputs::is_listed` meets its contract: whether the name is one of those left. Assumes nothing.
use Rattle.jobindex.specs.Index.{rows}
use Rattle.design.specs.Lists.{is_in}
use Rattle.modtable.specs.Table.{input_in}
use Rattle.modtable.proofs.Listed.{Among}
use Rattle.modtable.proofs.inputs.is_listed.Given as goal

abbrev pub invariant-loop-i : goal.invariant-loop-i
invariant-loop-i l = Among l.job l.inputs l.n l.name (is_in l.name (rows (input_in l.job l.inputs) l.n)) l.i
