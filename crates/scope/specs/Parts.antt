-- The parts of an override, as they stand in its bytes.
-- Assumes nothing.
use Rattle.std.specs.Prelude.{Option, Some, None}
use Rattle.std.specs.Prelude.{ℕ, suc, ◌+◌, ◌≤◌, ◌<◌, ◌≡◌, refl, Bool, true, false, cond, not, ◌||◌, List, [], ◌∷◌, map, length, take, drop, get_or, eqb, ltb}
use Rattle.std.proofs.Common.{ap, ◌∙◌, sym, suc-add, arith, drop_of_length-le, length-take-le, lt-ltb, ltb-true, ltb-false}
use Rattle.std.proofs.Math.Dec.{leb-suc-suc}
use Rattle.text.specs.Ascii.{Bytes, byte}
use Rattle.text.specs.Compare.{same}
use Rattle.text.specs.Scan.{before, onto, split_at}
use Rattle.text.specs.Scans.{before_le}
use Rattle.text.specs.Sames.{no_true}
use Rattle.text.specs.Lists.{here}
use Rattle.design.specs.Lists.{those}
use Rattle.texts.specs.Scope.{slash_of, override_parts}
use Rattle.scope.specs.declared.PartAt.{PartAt}

-- a byte that parts them
abbrev pub separates : ℕ → Bool
separates b = eqb b (byte "/") || eqb b (byte ".")

-- the parts from a place on
abbrev pub parts : Bytes → ℕ → List Bytes
parts over at = override_parts (drop at over)

abbrev pub parts_left : Bytes → Option PartAt → List Bytes
parts_left over None = []
parts_left over (Some r) = take r.len (drop r.at over) ∷ parts over r.next

abbrev pub PartOn : Bytes → ℕ → Option PartAt → Type 0
PartOn over at None = Unit {0}
PartOn over at (Some r) = (at < r.next) × (r.next ≤ length over)

pub record PartSeen (over : Bytes) (at : ℕ) (r : Option PartAt) : Type 0 where
  pub says : parts_left over r ≡ parts over at
  pub goes : PartOn over at r

-- ---- the first part
abbrev cut : Bytes → List Bytes
cut p = split_at (byte "/") (map slash_of p)

-- a separator begins a new part, any other byte is as it stands
separator : (b : ℕ) (p : Bytes) → separates b ≡ true → cut (b ∷ p) ≡ [] ∷ cut p
unfolding split_at
separator b p h = go (eqb b (byte "/")) (eqb b (byte ".")) refl refl h
  where
    go : (s d : Bool) → eqb b (byte "/") ≡ s → eqb b (byte ".") ≡ d → s || d ≡ true → cond (eqb (slash_of b) (byte "/")) ([] ∷ cut p) (onto (slash_of b) (cut p)) ≡ [] ∷ cut p
    go s true es ed q = rw ed
    go true false es ed q = rw (ed, es)
    go false false es ed q = absurd (no_true q)

other : (b : ℕ) (p : Bytes) → separates b ≡ false → cut (b ∷ p) ≡ onto b (cut p)
unfolding split_at
other b p h = go (eqb b (byte "/")) (eqb b (byte ".")) refl refl h
  where
    go : (s d : Bool) → eqb b (byte "/") ≡ s → eqb b (byte ".") ≡ d → s || d ≡ false → cond (eqb (slash_of b) (byte "/")) ([] ∷ cut p) (onto (slash_of b) (cut p)) ≡ onto b (cut p)
    go true d es ed q = absurd (no_true (sym q))
    go false true es ed q = absurd (no_true (sym q))
    go false false es ed q = rw (ed, es)

cut_step : (p : Bytes) → cut p ≡ take (before separates p) p ∷ cond (ltb (before separates p) (length p)) (cut (drop (before separates p + 1) p)) []
unfolding before split_at
cut_step [] = refl
cut_step (b ∷ p) = go (separates b) refl (cut_step p)
  where
    go : (q : Bool) → separates b ≡ q → cut p ≡ take (before separates p) p ∷ cond (ltb (before separates p) (length p)) (cut (drop (before separates p + 1) p)) []
        → cut (b ∷ p) ≡ take (cond q 0 (suc (before separates p))) (b ∷ p) ∷ cond (ltb (cond q 0 (suc (before separates p))) (suc (length p))) (cut (drop (cond q 0 (suc (before separates p)) + 1) (b ∷ p))) []
    go true e h = separator b p e ∙ simp (lt-ltb 0 (suc (length p)) (omega arith))
    go false e h = other b p e ∙ rw (h, leb-suc-suc, suc-add)

-- what the scan stops at
stops : (p : Bytes) → before separates p < length p → separates (get_or p (before separates p) 0) ≡ true
unfolding before
stops [] h = absurd (omega arith)
stops (b ∷ p) h = go (separates b) refl (λ k. stops p k) h
  where
    go : (q : Bool) → separates b ≡ q → (before separates p < length p → separates (get_or p (before separates p) 0) ≡ true) → cond q 0 (suc (before separates p)) < suc (length p) → separates (get_or (b ∷ p) (cond q 0 (suc (before separates p))) 0) ≡ true
    go true e f k = e
    go false e f k = f (omega arith)

pub no_parts : override_parts [] ≡ []
unfolding split_at those same
no_parts = refl

pub parts_skip : (b : ℕ) (p : Bytes) → separates b ≡ true → override_parts (b ∷ p) ≡ override_parts p
unfolding those same
parts_skip b p h = rw (separator b p h)

abbrev full : Bytes → Bool
full q = not (same q [])

keeps : (w : Bytes) (ls : List Bytes) → 0 < length w → those full (w ∷ ls) ≡ w ∷ those full ls
unfolding those same
keeps [] ls h = absurd (omega arith)
keeps (b ∷ w) ls h = refl

behind : (p : Bytes) (q : Bool) → ltb (before separates p) (length p) ≡ q → those full (cond q (cut (drop (before separates p + 1) p)) []) ≡ override_parts (drop (before separates p) p)
unfolding those split_at same
behind p true e =
    let l = ltb-true (before separates p) (length p) e in
    rw (here p (before separates p) l) (sym (parts_skip (get_or p (before separates p) 0) (drop (before separates p + 1) p) (stops p l)))
behind p false e = rw (drop_of_length-le p {i = before separates p} (ltb-false (before separates p) (length p) e)) refl

pub parts_word : (p : Bytes) → 0 < before separates p → override_parts p ≡ take (before separates p) p ∷ override_parts (drop (before separates p) p)
parts_word p h =
    let l : 0 < length (take (before separates p) p) = omega (arith, length-take-le (before separates p) p (before_le separates p)) in
    ap (those full) (cut_step p)
    ∙ (keeps (take (before separates p) p) (cond (ltb (before separates p) (length p)) (cut (drop (before separates p + 1) p)) []) l
    ∙ ap (λ (ls : List Bytes). take (before separates p) p ∷ ls) (behind p (ltb (before separates p) (length p)) refl))

pub separates_first : (b : ℕ) (p : Bytes) → before separates (b ∷ p) ≡ 0 → separates b ≡ true
unfolding before
separates_first b p h = go (separates b) h
  where
    go : (q : Bool) → cond q 0 (suc (before separates p)) ≡ 0 → q ≡ true
    go true e = refl
    go false e = absurd (omega arith)
