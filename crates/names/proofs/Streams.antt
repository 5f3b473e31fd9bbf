-- Loops over what is left of a name. Assumes nothing.
use Rattle.std.specs.Prelude.{ℕ, ◌≡◌, [], ◌∷◌}
use Rattle.std.proofs.Common.{rules, Iter}
use Rattle.text.specs.Ascii.{Bytes}
use Rattle.out.specs.Emit.{Out, emit, emit_append}
use Rattle.out.specs.Bytewise.{flat}

-- f of each byte is written
module _ (f : ℕ → Bytes) (o w : Out) where
  pub puts_end : (left : Bytes) → emit o (flat f left) ≡ w → left ≡ [] → o ≡ w
  unfolding flat emit
  puts_end left e h = rw h at e

  pub puts_step : (left more : Bytes) (b : ℕ) (o' : Out) → emit o (flat f left) ≡ w → left ≡ b ∷ more → o' ≡ emit o (f b) → emit o' (flat f more) ≡ w
  unfolding flat
  puts_step left more b o' e h g = rw g (rw (h, emit_append) at e)

pub ruleset puts = (rules, puts_end, puts_step)
