-- `text::part::copy` meets its contract: what was written is what `from` begins with. Assumes nothing.
use Rattle.std.proofs.Common.{length, take, ◌≡◌}
use Rattle.text.proofs.part.copy.Given as goal

abbrev pub invariant-loop-i : goal.invariant-loop-i
invariant-loop-i l = (length l.to ≡ length l.from) × (take l.i l.to ≡ take l.i l.from)
