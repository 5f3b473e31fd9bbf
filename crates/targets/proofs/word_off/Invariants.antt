-- `targets::word_off` meets its contract: what is left of the word is compared with what is left of w. Assumes nothing.
use mathlib.Core.List.{◌++◌}
use Rattle.targets.proofs.Off.{Goes}
use Rattle.targets.proofs.word_off.Given as goal

abbrev pub invariant-loop-own : goal.invariant-loop-own
invariant-loop-own l = Goes (l.mem.files.now ++ l.mem.area.now) l.initial.x l.w l.x l.own-index
