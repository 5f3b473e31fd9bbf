-- Texts for the parts of an area, one after the other or joined. A part is given by two numbers: its place and its length.
-- Assumes nothing.
use Rattle.std.specs.Prelude.{ℕ, zero, suc, ◌+◌, ◌<◌, ◌≤◌, ◌≡◌, refl, cond, List, [], ◌∷◌, ◌++◌, map, length, get_or, take, drop, eqb}
use Rattle.std.proofs.Common.{add-one, add-suc, arith, drop-cons}
use Rattle.std.proofs.Math.Numerals.{add-two}
use Rattle.std.proofs.Math.ListN.{length-drop}
use Rattle.std.proofs.Math.Dec.{eqb-suc-zero}
use Rattle.text.specs.Ascii.{Bytes}
use Rattle.out.specs.Emit.{Out, emit, emit_append}

-- the parts that a list of places and lengths names
unfoldable pub parts : Bytes → List ℕ → List Bytes
parts area [] = []
parts area (a ∷ []) = []
parts area (a ∷ n ∷ l) = take n (drop a area) ∷ parts area l

-- a text for each of a list, one after the other
unfoldable pub each : {A : Type 0} → (A → Bytes) → List A → Bytes
each f [] = []
each f (t ∷ ts) = f t ++ each f ts

-- Rust's `join`: the texts with sep between them
unfoldable pub behind : Bytes → List Bytes → Bytes
behind sep [] = []
behind sep (t ∷ ts) = sep ++ (t ++ behind sep ts)

unfoldable pub joined : Bytes → List Bytes → Bytes
joined sep [] = []
joined sep (t ∷ ts) = t ++ behind sep ts

-- ---- laws

pub each_cons : {A : Type 0} (f : A → Bytes) (x : A) (xs : List A) → each f (x ∷ xs) ≡ f x ++ each f xs
unfolding each
each_cons f x xs = refl

pub each_none : {A : Type 0} (f : A → Bytes) (o : Out) → emit o (each f []) ≡ o
unfolding each emit
each_none f o = refl

two : (l : List ℕ) (i : ℕ) → i + 1 < length l → drop i l ≡ get_or l i 0 ∷ get_or l (i + 1) 0 ∷ drop (i + 2) l
two l i h =
    let h₀ : i < length l = omega arith in
    let h₁ : suc i < length l = omega arith in
    rw (drop-cons l i 0 h₀, drop-cons l (suc i) 0 h₁, add-one, add-two)

pub parts_next : (area l : List ℕ) (i : ℕ) → i + 1 < length l → parts area (drop i l) ≡ take (get_or l (i + 1) 0) (drop (get_or l i 0) area) ∷ parts area (drop (i + 2) l)
unfolding parts
parts_next area l i h = rw (two l i h)

pub parts_none : (area l : List ℕ) → length l ≤ 1 → parts area l ≡ []
unfolding parts
parts_none area [] h = refl
parts_none area (a ∷ []) h = refl
parts_none area (a ∷ n ∷ l) h = absurd (omega arith)

-- what a loop over the parts keeps: what is left to write, written from here, is the answer w
pub record Each (f : Bytes → Bytes) (area l : List ℕ) (w o : Out) (i : ℕ) : Type 0 where
  pub keeps : emit o (each f (parts area (drop i l))) ≡ w

module _ (f : Bytes → Bytes) (area l : List ℕ) (w o : Out) (i : ℕ) (inv : Each f area l w o i) where
  pub each_next : (x : Bytes) (a n : ℕ) (o' : Out) → o' ≡ emit o (f x) → x ≡ take n (drop a area) → a ≡ get_or l i 0 → n ≡ get_or l (i + 1) 0 → i + 1 < length l → Each f area l w o' (i + 2)
  unfolding each
  each_next x a n o' e y p q h = record { keeps = rw (e, y, p, q) (rw (parts_next area l i h, emit_append) at inv.keeps) }

  pub each_done : length l ≤ i + 1 → o ≡ w
  unfolding each emit
  each_done h = rw (parts_none area (drop i l) (simp length-drop (omega arith))) at inv.keeps

-- what is left of a join at index i; and sep but at index 0
unfoldable pub rest : Bytes → ℕ → List Bytes → Bytes
rest sep zero ts = joined sep ts
rest sep (suc i) ts = behind sep ts

unfoldable pub unless : ℕ → Bytes → Bytes
unless i s = cond (eqb i 0) [] s

rest_cons : (o : Out) (sep : Bytes) (i : ℕ) (t : Bytes) (ts : List Bytes) → emit o (rest sep i (t ∷ ts)) ≡ emit (emit (emit o (unless i sep)) t) (behind sep ts)
unfolding rest joined behind unless emit
rest_cons o sep zero t ts = rw emit_append
rest_cons o sep (suc i) t ts = simp (eqb-suc-zero, emit_append)

-- one turn of a loop that joins, and its end
pub join_next : (o o₁ o₂ w : Out) (sep : Bytes) (i k : ℕ) (t : Bytes) (ts : List Bytes) → o₁ ≡ emit o (unless i sep) → o₂ ≡ emit o₁ t
    → emit o (rest sep i (t ∷ ts)) ≡ w → emit o₂ (rest sep (i + suc k) ts) ≡ w
unfolding rest
join_next o o₁ o₂ w sep i k t ts e f h = rw (f, e, add-suc) (rw rest_cons at h)

pub join_done : (o w : Out) (sep : Bytes) (i : ℕ) → emit o (rest sep i []) ≡ w → o ≡ w
unfolding rest joined behind emit
join_done o w sep zero h = h
join_done o w sep (suc i) h = h

pub record Joins (f : Bytes → Bytes) (sep area l : List ℕ) (w o : Out) (i : ℕ) : Type 0 where
  pub keeps : emit o (rest sep i (map f (parts area (drop i l)))) ≡ w

pub joins_start : (f : Bytes → Bytes) (sep area l : List ℕ) (o : Out) → Joins f sep area l (emit o (joined sep (map f (parts area l)))) o 0
unfolding rest
joins_start f sep area l o = record { keeps = refl }

module _ (f : Bytes → Bytes) (sep area l : List ℕ) (w o : Out) (i : ℕ) (inv : Joins f sep area l w o i) where
  pub joins_next : (x : Bytes) (a n : ℕ) (o₁ o₂ : Out) → o₂ ≡ emit o₁ (f x) → o₁ ≡ emit o (unless i sep) → x ≡ take n (drop a area) → a ≡ get_or l i 0 → n ≡ get_or l (i + 1) 0 → i + 1 < length l → Joins f sep area l w o₂ (i + 2)
  joins_next x a n o₁ o₂ e₂ e₁ y p q h =
      let g : x ≡ take (get_or l (i + 1) 0) (drop (get_or l i 0) area) = rw (← p, ← q) y in
      record { keeps = join_next o o₁ o₂ w sep i 1 (f x) (map f (parts area (drop (i + 2) l))) e₁ e₂ (rw (parts_next area l i h, ← g) at inv.keeps) }

  pub joins_done : length l ≤ i + 1 → o ≡ w
  joins_done h = join_done o w sep i (rw (parts_none area (drop i l) (simp length-drop (omega arith))) at inv.keeps)
