-- Laws: what stands before the last `/`, byte by byte. Assumes nothing.
use Rattle.std.specs.Prelude.{ℕ, zero, suc, ◌+◌, ◌≤◌, ◌<◌, ◌≡◌, refl, Bool, true, false, cond, ◌||◌, List, [], ◌∷◌, eqb, length, take, drop, get_or}
use Rattle.std.proofs.Common.{arith, sym, ap, ◌∙◌}
use Rattle.text.specs.Ascii.{Bytes, byte}
use Rattle.text.specs.Scan.{is, any, onto, split_at}
use Rattle.text.specs.Lists.{here}
use Rattle.text.specs.Sames.{no_true}
use Rattle.model.specs.Scope.{up, up_length}

-- there is a `/`
abbrev pub slashed : Bytes → Bool
slashed s = any (is (byte "/")) s

-- how many bytes stand before the last one; none where there is none
unfoldable pub up_size : Bytes → ℕ
up_size [] = 0
up_size (x ∷ xs) = cond (slashed xs) (suc (up_size xs)) 0

-- one part where there is no `/`, more where there is one
abbrev several : List Bytes → Bool
several [] = false
several (p ∷ []) = false
several (p ∷ q ∷ ps) = true

several_onto : (x : ℕ) (ps : List Bytes) → several (onto x ps) ≡ several ps
several_onto x [] = refl
several_onto x (p ∷ []) = refl
several_onto x (p ∷ q ∷ ps) = refl

pub some_parts : (s : Bytes) → split_at (byte "/") s ≡ [] → ⊥
unfolding split_at
some_parts [] e = let z : ◌≡◌ {A = ℕ} 1 0 = ap length e in absurd (omega arith)
some_parts (x ∷ xs) e = go (eqb x (byte "/")) (split_at (byte "/") xs) (ap length e)
  where
    go : (t : Bool) (ps : List Bytes) → length (cond t ([] ∷ ps) (onto x ps)) ≡ 0 → ⊥
    go true ps e = absurd (omega arith)
    go false [] e = absurd (omega arith)
    go false (p ∷ ps) e = absurd (omega arith)

parts_several : (s : Bytes) → several (split_at (byte "/") s) ≡ slashed s
unfolding split_at any
parts_several [] = refl
parts_several (x ∷ xs) = go (eqb x (byte "/")) (split_at (byte "/") xs) refl (parts_several xs)
  where
    go : (t : Bool) (ps : List Bytes) → split_at (byte "/") xs ≡ ps → several ps ≡ slashed xs → several (cond t ([] ∷ ps) (onto x ps)) ≡ (t || slashed xs)
    go true [] q e = absurd (some_parts xs q)
    go true (p ∷ ps) q e = refl
    go false ps q e = several_onto x ps ∙ e

take_more : (n : ℕ) (x : ℕ) (xs : Bytes) → take (0 + 1 + n) (x ∷ xs) ≡ x ∷ take n xs
take_more n x xs = let q : 0 + 1 + n ≡ suc n = omega arith in rw q

take_long : (a n x : ℕ) (xs : Bytes) → take (suc a + 1 + n) (x ∷ xs) ≡ x ∷ take (a + 1 + n) xs
take_long a n x xs = let q : suc a + 1 + n ≡ suc (a + 1 + n) = omega arith in rw q

up_none : up [] ≡ []
unfolding up split_at
up_none = refl

up_by : (x : ℕ) (xs : Bytes) (t : Bool) → eqb x (byte "/") ≡ t → (ps : List Bytes) → split_at (byte "/") xs ≡ ps → several (split_at (byte "/") xs) ≡ slashed xs → up (x ∷ xs) ≡ cond (slashed xs) (x ∷ up xs) []
unfolding up split_at
up_by x xs t h [] q e = absurd (some_parts xs q)
up_by x xs true h (p ∷ []) q e = rw (← e, q, h)
up_by x xs false h (p ∷ []) q e = rw (← e, q, h)
up_by x xs true h (p ∷ r ∷ ps) q e = rw (← e, q, h) (take_more (up_length (p ∷ r ∷ ps)) x xs)
up_by x xs false h (p ∷ r ∷ []) q e = rw (← e, q, h)
up_by x xs false h (p ∷ r ∷ u ∷ ps) q e = rw (← e, q, h) (take_long (length p) (up_length (r ∷ u ∷ ps)) x xs)

up_step : (x : ℕ) (xs : Bytes) → up (x ∷ xs) ≡ cond (slashed xs) (x ∷ up xs) []
up_step x xs = up_by x xs (eqb x (byte "/")) refl (split_at (byte "/") xs) refl (parts_several xs)

pub up_is : (s : Bytes) → up s ≡ take (up_size s) s
unfolding up_size
up_is [] = up_none
up_is (x ∷ xs) = up_step x xs ∙ go (slashed xs) (up_is xs)
  where
    go : (t : Bool) → up xs ≡ take (up_size xs) xs → cond t (x ∷ up xs) [] ≡ take (cond t (suc (up_size xs)) 0) (x ∷ xs)
    go true e = rw e
    go false e = refl

pub up_short : (s : Bytes) → up_size s ≤ length s
unfolding up_size
up_short [] = omega arith
up_short (x ∷ xs) = go (slashed xs) (up_short xs)
  where
    go : (t : Bool) → up_size xs ≤ length xs → cond t (suc (up_size xs)) 0 ≤ suc (length xs)
    go true h = omega arith
    go false h = omega arith

-- ---- from the front: i bytes are passed, and the last `/` among them stands at `last`
pub size_step : (i last b : ℕ) (t : Bytes) → cond (slashed (b ∷ t)) (i + up_size (b ∷ t)) last ≡ cond (slashed t) (i + 1 + up_size t) (cond (eqb b (byte "/")) i last)
unfolding up_size any
size_step i last b t = go (eqb b (byte "/")) (slashed t)
  where
    go : (p q : Bool) → cond (p || q) (i + cond q (suc (up_size t)) 0) last ≡ cond q (i + 1 + up_size t) (cond p i last)
    go true true = omega arith
    go true false = omega arith
    go false true = omega arith
    go false false = refl

-- ---- from the back: there is no `/` from i on

no_slash : (s : Bytes) → slashed s ≡ false → up_size s ≡ 0
unfolding up_size any
no_slash [] h = refl
no_slash (x ∷ xs) h = go (eqb x (byte "/")) (slashed xs) h
  where
    go : (p q : Bool) → (p || q) ≡ false → cond q (suc (up_size xs)) 0 ≡ 0
    go p false e = refl
    go true true e = absurd (no_true (sym e))
    go false true e = absurd (no_true (sym e))

pub size_none : (s : Bytes) → slashed (drop 0 s) ≡ false → up_size s ≡ 0
size_none s h = no_slash s h

-- one byte more to the front
pub slashed_here : (s : Bytes) (i : ℕ) → i < length s → slashed (drop i s) ≡ (eqb (get_or s i 0) (byte "/") || slashed (drop (i + 1) s))
unfolding any
slashed_here s i h = rw (here s i h)

or_true' : (p : Bool) → (p || true) ≡ true
or_true' true = refl
or_true' false = refl

slashed_tail : (x : ℕ) (xs : Bytes) → slashed xs ≡ true → slashed (x ∷ xs) ≡ true
unfolding any
slashed_tail x xs h = rw h (or_true' (eqb x (byte "/")))

behind : (i : ℕ) (s : Bytes) → slashed (drop i s) ≡ true → slashed s ≡ true
behind zero s h = h
behind (suc i) [] h = h
behind (suc i) (x ∷ xs) h = slashed_tail x xs (behind i xs h)

pub size_at : (i : ℕ) (s : Bytes) → slashed (drop i s) ≡ true → slashed (drop (i + 1) s) ≡ false → up_size s ≡ i
unfolding up_size any
size_at zero [] h g = absurd (no_true h)
size_at zero (x ∷ xs) h g = let k : slashed xs ≡ false = g in rw k
size_at (suc i) [] h g = absurd (no_true h)
size_at (suc i) (x ∷ xs) h g =
    let q : suc i + 1 ≡ suc (i + 1) = omega arith in
    let k : slashed (drop (i + 1) xs) ≡ false = rw q at g in
    rw (behind i xs h) (ap suc (size_at i xs h k))
