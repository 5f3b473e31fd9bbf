-- `isolated::words_apart` meets its contract: the words are as far the same. Assumes nothing.
use mathlib.Core.List.{◌++◌}
use lib.ListN.{length}
use Rattle.spans.specs.Span.{bytes}
use Rattle.isolated.proofs.Apart.{Reads}
use Rattle.isolated.proofs.words_apart.Given as goal

abbrev pub invariant-loop-p : goal.invariant-loop-p
invariant-loop-p l = Reads (l.mem.files.now ++ l.mem.area.now) l.initial.x l.initial.y l.x l.y

abbrev pub decreases-loop-p : goal.decreases-loop-p
decreases-loop-p l = length (bytes (l.mem.files.now ++ l.mem.area.now) l.x)
