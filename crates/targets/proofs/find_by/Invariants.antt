-- `targets::find_by` meets its contract: what the whole text leads to is what is left of it leads to. Assumes nothing.
use mathlib.Core.List.{◌++◌}
use lib.ListN.{length}
use Rattle.refs.specs.Text.{text_of}
use Rattle.targets.proofs.Turns.{Seeks}
use Rattle.targets.proofs.find_by.Given as goal

abbrev pub invariant-loop-d : goal.invariant-loop-d
invariant-loop-d l = Seeks l.design.index.job.now l.design.index.rows.now l.design.count l.initial.m (text_of l.design.index.job.now (l.mem.files.now ++ l.mem.area.now) l.initial.x) l.m (text_of l.design.index.job.now (l.mem.files.now ++ l.mem.area.now) l.x) l.upto l.memo

abbrev pub decreases-loop-d : goal.decreases-loop-d
decreases-loop-d l = length (text_of l.design.index.job.now (l.mem.files.now ++ l.mem.area.now) l.x)
