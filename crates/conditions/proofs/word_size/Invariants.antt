-- `conditions::word_size` meets its contract: what was passed and the word that is left are the word. Assumes nothing.
use lib.ListN.{length}
use mathlib.Core.List.{◌++◌}
use Rattle.names.specs.Name.{name_of}
use Rattle.text.specs.Scan.{before}
use Rattle.tcl.specs.Substitution.{no_variable}
use Rattle.conditions.proofs.Words.{Sizes}
use Rattle.conditions.proofs.word_size.Given as goal

abbrev pub invariant-loop-b : goal.invariant-loop-b
invariant-loop-b l = Sizes (l.mem.files.now ++ l.mem.area.now) (before no_variable (name_of (l.mem.files.now ++ l.mem.area.now) l.initial.x)) l.x l.n

abbrev pub decreases-loop-b : goal.decreases-loop-b
decreases-loop-b l = length (name_of (l.mem.files.now ++ l.mem.area.now) l.x)
