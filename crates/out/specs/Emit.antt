-- Writing that saturates: `emit (buf ▸ at) p` is the buffer and the place after the bytes of p were written from `at` on.
-- What does not fit is dropped, and the place is then one past the end for good. Assumes nothing.
use Rattle.std.specs.Prelude.{ℕ, ◌+◌, ◌<◌, ◌≤◌, ◌≡◌, refl, true, false, cond, [], ◌∷◌, ◌++◌, length, set, get_or, drop, ltb}
use Rattle.std.proofs.Common.{◌∙◌, drop_of_length-le, length-set, drop-cons, add-one}
use Rattle.text.specs.Ascii.{Bytes}

-- a lent buffer's bytes, and the place to write next
pub record Out : Type 0 where
  pub bytes : Bytes
  pub at : ℕ

infix 55 ◌▸◌
abbrev pub ◌▸◌ : Bytes → ℕ → Out
b ▸ a = record { bytes = b; at = a }

unfoldable pub emit1 : Out → ℕ → Out
emit1 o b =
    cond (ltb o.at (length o.bytes))
    (set o.bytes o.at b ▸ (o.at + 1))
    (o.bytes ▸ (length o.bytes + 1))

unfoldable pub emit : Out → Bytes → Out
emit o [] = o
emit o (b ∷ p) = emit (emit1 o b) p

pub emit_append : (o : Out) (p q : Bytes) → emit o (p ++ q) ≡ emit (emit o p) q
unfolding emit
emit_append o [] q = refl
emit_append o (b ∷ p) q = emit_append (emit1 o b) p q

-- One turn of a loop that writes the bytes of p, and its end. t is the answer, which the invariant keeps.
pub emit_next : (o o' t : Out) (p : Bytes) (i : ℕ) → i < length p → o' ≡ emit1 o (get_or p i 0) → emit o (drop i p) ≡ t → emit o' (drop (i + 1) p) ≡ t
unfolding emit
emit_next o o' t p i h e k = rw (e, add-one) (rw (drop-cons p i 0) at k)

pub emit_done : (o t : Out) (p : Bytes) (i : ℕ) → length p ≤ i → emit o (drop i p) ≡ t → o ≡ t
unfolding emit
emit_done o t p i h k = rw (drop_of_length-le p {i = i} h) at k

-- `◌++◌` for templates: it does not compute, so that a goal keeps a template's pieces apart
infixl 65 ◌⊕◌
unfoldable pub ◌⊕◌ : Bytes → Bytes → Bytes
p ⊕ q = p ++ q

pub emit-⊕ : (o : Out) (p q : Bytes) → emit o (p ⊕ q) ≡ emit (emit o p) q
unfolding ◌⊕◌
emit-⊕ o p q = emit_append o p q

-- p was written at o, which gave o': for proofs, where the parameters of a record are found by themselves
pub record Wrote (o : Out) (p : Bytes) (o' : Out) : Type 0 where
  pub is : o' ≡ emit o p

abbrev pub wrote : {o : Out} {p : Bytes} {o' : Out} → o' ≡ emit o p → Wrote o p o'
wrote e = record { is = e }

-- two writes, one after the other
infixl 60 ◌then◌
pub ◌then◌ : {o o' o'' : Out} {p q : Bytes} → Wrote o p o' → Wrote o' q o'' → Wrote o (p ⊕ q) o''
◌then◌ {o} {o'} {o''} {p} {q} e f = wrote (rw emit-⊕ (rw e.is at f.is))

-- what was written into a text over a buffer stands in the buffer
pub over_written : (out out' : Bytes) (at o : ℕ) (z₀ z₁ : Out) (t : Bytes) → z₁ ≡ emit z₀ t → z₀ ≡ out ▸ at → out' ▸ o ≡ z₁ → out' ▸ o ≡ emit (out ▸ at) t
over_written out out' at o z₀ z₁ t e f g = g ∙ rw (← f) e

-- a write keeps the buffer's length
length_emit1 : (o : Out) (b : ℕ) → length (emit1 o b).bytes ≡ length o.bytes
unfolding emit1
length_emit1 o b =
    elim (ltb o.at (length o.bytes)) as (λ t. length (cond t (set o.bytes o.at b ▸ (o.at + 1)) (o.bytes ▸ (length o.bytes + 1))).bytes ≡ length o.bytes)
    [ true ↦ length-set o.bytes o.at b | false ↦ refl ]

pub length_emit : (o : Out) (p : Bytes) → length (emit o p).bytes ≡ length o.bytes
unfolding emit
length_emit o [] = refl
length_emit o (b ∷ p) = length_emit (emit1 o b) p ∙ length_emit1 o b

pub kept : {o o' : Out} {p : Bytes} → Wrote o p o' → length o'.bytes ≡ length o.bytes
kept {o} {o'} {p} e = rw e.is (length_emit o p)
