-- Loops over what is left of a text. Assumes nothing.
use Rattle.std.specs.Prelude.{ℕ, ◌≡◌, Bool, [], ◌∷◌}
use Rattle.text.specs.Ascii.{Bytes}
use Rattle.out.specs.Emit.{Out, emit, emit_append}
use Rattle.out.specs.Bytewise.{flat}
use Rattle.refs.specs.Text.{dot_of, as_dots}
use Rattle.refs.specs.Laws.{dots_step, dots_none}

-- ---- f of each byte is written, with dots where they are wanted

module _ (f : ℕ → Bytes) (d : Bool) (o w : Out) where
  pub puts_end : (left : Bytes) → emit o (flat f (as_dots d left)) ≡ w → left ≡ [] → o ≡ w
  unfolding flat emit
  puts_end left e h = rw (h, dots_none d) at e

  pub puts_step : (left more : Bytes) (b c : ℕ) (o' : Out) → emit o (flat f (as_dots d left)) ≡ w → left ≡ b ∷ more → o' ≡ emit o (f c) → c ≡ dot_of d b → emit o' (flat f (as_dots d more)) ≡ w
  unfolding flat
  puts_step left more b c o' e h g k = rw g (rw (h, dots_step d b more, ← k, emit_append) at e)
