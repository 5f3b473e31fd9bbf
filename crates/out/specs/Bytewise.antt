-- Texts made byte by byte of another: `mangle`, `sv_str`, and `/` as `.`. Assumes nothing.
use Rattle.std.specs.Prelude.{ℕ, ◌+◌, ◌<◌, ◌≤◌, ◌≡◌, refl, cond, [], ◌∷◌, ◌++◌, length, get_or, drop, eqb}
use Rattle.std.proofs.Common.{add-one, ap, append_assoc, drop_of_length-le, drop-cons}
use Rattle.text.specs.Ascii.{Bytes, ascii, byte}
use Rattle.text.specs.Classes.{is_alnum}
use Rattle.out.specs.Emit.{Out, emit, emit_append}
use Rattle.out.specs.declared.bytewise.Mode.{Mode}

unfoldable pub flat : (ℕ → Bytes) → Bytes → Bytes
flat f [] = []
flat f (b ∷ p) = f b ++ flat f p

-- a byte that is no letter or digit becomes `_`
unfoldable pub mangled_byte : ℕ → Bytes
mangled_byte b = cond (is_alnum b) b (byte "_") ∷ []

-- `/` becomes `.`
unfoldable pub dotted_byte : ℕ → Bytes
dotted_byte b = cond (eqb b (byte "/")) (ascii ".") (b ∷ [])

-- a backslash goes before a backslash and before a quote
unfoldable pub sv_byte : ℕ → Bytes
sv_byte b = cond (eqb b (byte "\\")) (ascii "\\\\") (cond (eqb b (byte "\"")) (ascii "\\\"") (b ∷ []))

abbrev pub mangle : Bytes → Bytes
mangle p = flat mangled_byte p

abbrev pub dotted : Bytes → Bytes
dotted p = flat dotted_byte p

abbrev pub sv_str : Bytes → Bytes
sv_str p = flat sv_byte p

-- what a byte becomes, by how a text is written
unfoldable pub becomes : Mode → ℕ → Bytes
becomes Mode.Same b = b ∷ []
becomes Mode.Mangled b = mangled_byte b
becomes Mode.Dotted b = dotted_byte b
becomes Mode.Quoted b = sv_byte b

-- ---- laws: one turn of a loop that writes f of each byte, and its end; w is the answer

pub flat_next : (f : ℕ → Bytes) (o o' w : Out) (p : Bytes) (i : ℕ) → i < length p → o' ≡ emit o (f (get_or p i 0)) → emit o (flat f (drop i p)) ≡ w → emit o' (flat f (drop (i + 1) p)) ≡ w
unfolding flat
flat_next f o o' w p i h e k = rw (e, add-one) (rw (drop-cons p i 0, emit_append) at k)

pub flat_done : (f : ℕ → Bytes) (o w : Out) (p : Bytes) (i : ℕ) → length p ≤ i → emit o (flat f (drop i p)) ≡ w → o ≡ w
unfolding flat emit
flat_done f o w p i h k = rw (drop_of_length-le p {i = i} h) at k

-- two texts, one behind the other
pub flat_append : (f : ℕ → Bytes) (p q : Bytes) → flat f (p ++ q) ≡ flat f p ++ flat f q
unfolding flat
flat_append f [] q = refl
flat_append f (x ∷ p) q = rw (flat_append f p q, append_assoc)

pub flat_two : (f : ℕ → Bytes) (o o₁ o₂ : Out) (p q : Bytes) → o₂ ≡ emit o₁ (flat f q) → o₁ ≡ emit o (flat f p) → o₂ ≡ emit o (flat f (p ++ q))
flat_two f o o₁ o₂ p q h g = rw (flat_append, emit_append, ← g) h

-- a text as it is
pub flat_same : (p : Bytes) → flat (becomes Mode.Same) p ≡ p
unfolding flat becomes
flat_same [] = refl
flat_same (b ∷ p) = ap (λ (r : Bytes). b ∷ r) (flat_same p)
