-- A law of two places in texts holds where the places are spelled otherwise. Assumes nothing.
use Rattle.std.specs.Prelude.{◌≡◌}
use Rattle.text.specs.Ascii.{Bytes}
use Rattle.out.specs.Emit.{Out, emit}

pub bridged : (P : Out → Out → Type 0) (o o' q q' : Out) → P o o' → q ≡ o → q' ≡ o' → P q q'
bridged P o o' q q' h e f = rw (e, f) h

pub bridged_at : (o o' q q' : Out) (x y : Bytes) → o' ≡ emit (emit o x) y → o ≡ q → q' ≡ o' → q' ≡ emit (emit q x) y
bridged_at o o' q q' x y h e f = rw (f, ← e) h
