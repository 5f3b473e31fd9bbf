-- A text that is being written: a lent buffer, and the place to write next. Assumes nothing.
use Rattle.std.specs.Prelude.{ℕ, ◌≡◌}
use Rattle.text.specs.Ascii.{Bytes}
use Rattle.out.specs.Emit.{Out, ◌▸◌, emit, emit1}
use Rattle.out.specs.declared.emit.Text.{Text}

-- the bytes of a text's buffer, and its place
abbrev pub shown : Text → Out
shown t = t.room.now ▸ t.at

-- t' writes into the buffer that t writes into
abbrev pub SameRoom : Text → Text → Type 0
SameRoom t t' = t'.room.ghost_name ≡ t.room.ghost_name

-- t' is t with p written
abbrev pub Writes : Text → Bytes → Text → Type 0
Writes t p t' = SameRoom t t' × (shown t' ≡ emit (shown t) p)

-- t' is t with one byte written
abbrev pub Writes1 : Text → ℕ → Text → Type 0
Writes1 t b t' = SameRoom t t' × (shown t' ≡ emit1 (shown t) b)
