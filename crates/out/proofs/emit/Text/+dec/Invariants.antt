use Rattle.out.proofs.emit.Text.+dec.Given as goal

-- the digits that may still come
abbrev pub decreases-dec : goal.decreases-dec
decreases-dec l = l.f
