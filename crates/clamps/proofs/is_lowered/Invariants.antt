-- `clamps::is_lowered` meets its contract: whether what is left of the string is what is left of w. Assumes nothing.
use mathlib.Core.List.{◌++◌}
use Rattle.text.specs.Compare.{same}
use Rattle.spans.specs.Span.{bytes}
use Rattle.texts.specs.Isolation.{lowered}
use Rattle.clamps.proofs.Streams.{Lows}
use Rattle.clamps.proofs.is_lowered.Given as goal

abbrev pub invariant-loop-c : goal.invariant-loop-c
invariant-loop-c l = Lows (l.mem.files.now ++ l.mem.area.now) l.w (same (lowered (bytes (l.mem.files.now ++ l.mem.area.now) l.initial.x)) l.w) l.x l.c-index
