-- A number in decimal, without zeros in front. Assumes nothing.
use Rattle.std.specs.Prelude.{ℕ, zero, suc, ◌+◌, ◌-◌, ◌/◌, ◌%◌, ◌<◌, ◌≤◌, ◌≡◌, refl, cond, [], ◌∷◌, ◌++◌, ltb}
use Rattle.std.proofs.Common.{sub-one, lt-ltb, le-ltb}
use Rattle.text.specs.Ascii.{Bytes, ascii, byte}
use Rattle.out.specs.Emit.{Out, emit, emit1, emit_append}

-- with at most f digits
unfoldable pub dec : ℕ → ℕ → Bytes
dec zero n = []
dec (suc f) n = cond (ltb n 10) ((byte "0" + n) ∷ []) (dec f (n / 10) ++ ((byte "0" + n % 10) ∷ []))

-- a u64 has at most 20
abbrev pub decimal : ℕ → Bytes
decimal n = dec 20 n

examples : (decimal 0 ≡ ascii "0") × (decimal 1024 ≡ ascii "1024") × (decimal 18446744073709551615 ≡ ascii "18446744073709551615")
unfolding dec
examples = (refl, refl, refl)

pub dec_small : (o : Out) (f n : ℕ) → (f ≡ 0 → ⊥) → n < 10 → emit o (dec f n) ≡ emit1 o (48 + n)
unfolding dec emit
dec_small o zero n z h = absurd (z refl)
dec_small o (suc f) n z h = simp (lt-ltb n 10 h)

pub dec_more : (o : Out) (f n : ℕ) → (f ≡ 0 → ⊥) → 10 ≤ n → emit o (dec f n) ≡ emit1 (emit o (dec (f - 1) (n / 10))) (48 + n % 10)
unfolding dec emit
dec_more o zero n z h = absurd (z refl)
dec_more o (suc f) n z h = simp (le-ltb n 10 h, emit_append, sub-one)
