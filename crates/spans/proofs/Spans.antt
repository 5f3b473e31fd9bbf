-- A span's first byte, strings compared byte by byte, and parts: laws as the needs ask them. Assumes nothing.
use Prim.Native.Nat.{ℕ, zero, suc, ◌+◌, ◌-◌, ◌*◌, ◌≤◌, ◌<◌, min}
use mathlib.Core.Path.{◌≡◌, refl, sym, ap, ◌∙◌}
use mathlib.Core.Bool.{Bool, true, false, ◌&&◌}
use mathlib.Core.List.{List, [], ◌∷◌, ◌++◌, append-nil}
use native.Mathlib.Numerals.{add-one, sub-one}
use native.Mathlib.Omega.{arith}
use native.Mathlib.Nat.{min-eq_left, min-eq_right}
use lib.Dec.{eqb, leb}
use lib.ListN.{length, take, drop, get_or, drop_of_length-le, length-append, length-take, length-drop, get_or-append, get_or-eq_default}
use lib.Seq.{drop-cons, get_or-append-add, take_all, take-take, take-append-le, length-take-le}
use borrow.Author.Rules.{rules}
use borrow.Author.Tests.{eqb-true, leb-true, leb-false}
use Rattle.text.specs.Compare.{same}
use Rattle.text.specs.Lists.{take_none, drop_two, take_two, drop_take}
use Rattle.text.specs.Sames.{both, same_refl}
use Rattle.spans.specs.Span.{◌⋯◌, bytes, pair_at}
use Rattle.spans.specs.Frame.{whole, bytes_same}
use Rattle.spans.specs.Area.{Wrote}
use Rattle.spans.specs.declared.span.Span.{Span}
use Rattle.spans.specs.Writes.{wrote_kept, wrote_long, wrote_two}

-- ---- the first byte

pub span_none : (mem : List ℕ) (s : Span) → s.len ≡ 0 → bytes mem s ≡ []
unfolding bytes
span_none mem s h = rw h

span_byte : (mem : List ℕ) (at len : ℕ) → (len ≡ 0 → ⊥) → at < length mem → bytes mem (at ⋯ len) ≡ get_or mem at 0 ∷ bytes mem ((at + 1) ⋯ (len - 1))
unfolding bytes
span_byte mem at zero h g = absurd (h refl)
span_byte mem at (suc l) h g = rw (drop-cons mem at 0 g, add-one, sub-one)

module _ (text area : List ℕ) (s : Span) where
  pub span_text : (s.len ≡ 0 → ⊥) → s.at < length text → bytes (text ++ area) s ≡ get_or text s.at 0 ∷ bytes (text ++ area) ((s.at + 1) ⋯ (s.len - 1))
  span_text h g =
      let k : s.at < length (text ++ area) = rw (length-append text area) (omega arith) in
      span_byte (text ++ area) s.at s.len h k ∙ rw (get_or-append text area 0 s.at g)

  pub span_area : (s.len ≡ 0 → ⊥) → length text ≤ s.at → s.at - length text < length area → bytes (text ++ area) s ≡ get_or area (s.at - length text) 0 ∷ bytes (text ++ area) ((s.at + 1) ⋯ (s.len - 1))
  span_area h g f =
      let k : s.at < length (text ++ area) = rw (length-append text area) (omega arith) in
      let e : s.at ≡ length text + (s.at - length text) = omega arith in
      let d : get_or (text ++ area) s.at 0 ≡ get_or area (s.at - length text) 0 = ap (λ (i : ℕ). get_or (text ++ area) i 0) e ∙ get_or-append-add text area (s.at - length text) 0 in
      span_byte (text ++ area) s.at s.len h k ∙ rw d

  pub span_past : length text ≤ s.at → length area ≤ s.at - length text → bytes (text ++ area) s ≡ []
  unfolding bytes
  span_past g f =
      let k : length (text ++ area) ≤ s.at = rw (length-append text area) (omega arith) in
      rw (drop_of_length-le (text ++ area) {i = s.at} k) (take_none s.len)

pub ruleset spans = (rules, span_none, span_text, span_area, span_past)

-- ---- the size

pub size_is : (files area : List ℕ) (s : Span) (t r : ℕ) → r ≡ min s.len t → t ≡ length files + length area - s.at → r ≡ length (bytes (files ++ area) s)
unfolding bytes
size_is files area s t r e h = e ∙ rw h (sym (rw (length-take, length-drop, length-append)))

-- ---- a part of one of the two

span_two : (t a : List ℕ) (s : Span) → bytes (t ++ a) s ≡ take s.len (drop s.at t) ++ take (s.len - (length t - s.at)) (drop (s.at - length t) a)
unfolding bytes
span_two t a s = rw (drop_two, take_two, length-drop)

module _ (files area : List ℕ) (s : Span) (r : List ℕ) where
  pub fetch_files : r ≡ take s.len (drop s.at files) → r ≡ take (length r) (bytes (files ++ area) s)
  fetch_files e =
      sym (rw (span_two files area s, ← e) (take-append-le (length r) r (take (s.len - (length files - s.at)) (drop (s.at - length files) area)) (omega arith) ∙ take_all (length r) r (omega arith)))

  pub fetch_area : r ≡ take s.len (drop (s.at - length files) area) → length files ≤ s.at → r ≡ take (length r) (bytes (files ++ area) s)
  fetch_area e h =
      let q : s.len - (length files - s.at) ≡ s.len = omega arith in
      sym (rw (span_two files area s, drop_of_length-le files {i = s.at} h, take_none s.len, q, ← e) (take_all (length r) r (omega arith)))

pub ruleset fetches = (rules, fetch_files, fetch_area)

-- ---- whether the string is s

-- a string that is fetched whole
pub is_whole : (mem w p : List ℕ) (s : Span) (r : Bool) → r ≡ same p w → p ≡ take (length p) (bytes mem s) → length p ≡ s.len → r ≡ same (bytes mem s) w
is_whole mem w p s r e f h = e ∙ ap (λ (q : List ℕ). same q w) (whole mem s p f h)

-- ---- whether two strings are the same

module _ (mem : List ℕ) (s t : Span) where
  pub same_place : eqb s.at t.at && eqb s.len t.len ≡ true → true ≡ same (bytes mem s) (bytes mem t)
  unfolding bytes
  same_place h =
      let b = both (eqb s.at t.at) (eqb s.len t.len) h in
      let e : s.at ≡ t.at = eqb-true s.at t.at b.0 in
      let f : s.len ≡ t.len = eqb-true s.len t.len b.1 in
      sym (rw (e, f) (same_refl (take t.len (drop t.at mem))))

  pub same_wholes : (p q : List ℕ) (r : Bool) → r ≡ same p q → p ≡ take (length p) (bytes mem s) → q ≡ take (length q) (bytes mem t) → eqb (length p) s.len && eqb (length q) t.len ≡ true → r ≡ same (bytes mem s) (bytes mem t)
  same_wholes p q r g e f h =
      let b = both (eqb (length p) s.len) (eqb (length q) t.len) h in
      let x : length p ≡ s.len = eqb-true (length p) s.len b.0 in
      let y : length q ≡ t.len = eqb-true (length q) t.len b.1 in
      g ∙ rw (← (whole mem s p e x), ← (whole mem t q f y))

pub ruleset same_ways = (rules, same_place, same_wholes)

-- ---- stored pairs

pub pair_past : (l : List ℕ) (k : ℕ) → length l ≤ k → 0 ⋯ 0 ≡ pair_at l k
pair_past l k h =
    let a : length l ≤ 2 * k = omega arith in
    let b : length l ≤ 2 * k + 1 = omega arith in
    sym (rw (get_or-eq_default l 0 a, get_or-eq_default l 0 b))

pub ruleset pair_ways = (rules, pair_past)

-- ---- a string copied within the area

take_min : (m n : ℕ) (l : List ℕ) → take m (take n l) ≡ take (min m n) l
take_min m n l = go (leb m n) refl
  where
    go : (b : Bool) → leb m n ≡ b → take m (take n l) ≡ take (min m n) l
    go true e = let h : m ≤ n = leb-true m n e in take-take m n l h ∙ rw (min-eq_left h)
    go false e =
        let h : n ≤ m = let k : n < m = leb-false m n e in omega arith in
        let g : length (take n l) ≤ m = rw length-take (omega arith) in
        take_all m (take n l) g ∙ rw (min-eq_right h)

pub least_is : (a b : ℕ) → a ≤ b → a ≡ min a b
least_is a b h = sym (min-eq_left h)

pub least_other : (a b : ℕ) → b < a → b ≡ min a b
least_other a b h = let g : b ≤ a = omega arith in sym (min-eq_right g)

pub ruleset leasts = (rules, least_is, least_other)

min_by : (a b m : ℕ) → (min b (m - a) ≡ 0 → ⊥) → a + min b (m - a) ≤ m
min_by a b m h = omega arith

module _ (t l₀ l₁ : List ℕ) (m o e : ℕ) (s q : Span) (p : List ℕ) (w : Wrote l₀ l₁ o p e) (g : p ≡ take s.len (drop s.at t))
    (f : q ≡ (s.at - length t) ⋯ min (s.len - (length t - s.at)) (m - (s.at - length t))) where
  known_two : bytes (t ++ take m l₀) s ≡ p ++ take q.len (drop q.at l₀)
  known_two = span_two t (take m l₀) s ∙ rw (drop_take (s.at - length t) m l₀, take_min, f, g)

  pub own_none : q.len ≡ 0 → Wrote l₀ l₁ o (bytes (t ++ take m l₀) s) e
  own_none z = rw (known_two, z, append-nil) w

  module _ (h : m ≤ o) (n : o + length (bytes (t ++ take m l₀) s) ≤ length l₀) (z : q.len ≡ 0 → ⊥) where
    own_by : q.at + q.len ≤ m
    own_by =
        let i : min (s.len - (length t - s.at)) (m - (s.at - length t)) ≡ 0 → ⊥ = λ y. z (ap (λ (x : Span). x.len) f ∙ y) in
        rw f (min_by (s.at - length t) (s.len - (length t - s.at)) m i)

    own_fits : e + length (take q.len (drop q.at l₀)) ≤ length l₀
    own_fits = omega (arith, n, w.ends, ap length known_two, length-append p (take q.len (drop q.at l₀)))

    own_size : length (take q.len (drop q.at l₀)) ≡ q.len
    own_size = length-take-le q.len (drop q.at l₀) (rw length-drop (omega (arith, own_by, n)))

    pub own_up : q.at + q.len ≤ e
    own_up = omega (arith, own_by, w.ends)

    pub own_room : e + q.len ≤ length l₁
    own_room =
        let k : e ≤ length l₀ = omega (arith, own_fits) in
        omega (arith, own_fits, own_size, wrote_long l₀ l₁ o p e w k)

    pub own_wrote : (l₂ : List ℕ) (r : ℕ) → Wrote l₁ l₂ e (take q.len (drop q.at l₁)) r → Wrote l₀ l₂ o (bytes (t ++ take m l₀) s) r
    unfolding bytes
    own_wrote l₂ r v =
        let k : e ≤ length l₀ = omega (arith, own_fits) in
        let u : q.at + q.len ≤ o = omega (arith, own_by) in
        let x : take q.len (drop q.at l₁) ≡ take q.len (drop q.at l₀) = bytes_same o l₀ l₁ q u (wrote_kept l₀ l₁ o p e w k) in
        let v' : Wrote l₁ l₂ e (take q.len (drop q.at l₀)) r = rw x at v in
        rw known_two (wrote_two l₀ l₁ l₂ o p (take q.len (drop q.at l₀)) e r w v' (omega (arith, own_fits, v'.ends)))

pub part_fits : (t l : List ℕ) (m o : ℕ) (s : Span) (p : List ℕ) → p ≡ take s.len (drop s.at t) → o + length (bytes (t ++ take m l) s) ≤ length l → o + length p ≤ length l
part_fits t l m o s p e h =
    let a : bytes (t ++ take m l) s ≡ p ++ take (s.len - (length t - s.at)) (drop (s.at - length t) (take m l)) = span_two t (take m l) s ∙ rw (← e) in
    omega (arith, ap length a, length-append p (take (s.len - (length t - s.at)) (drop (s.at - length t) (take m l))))

pub own_is : (n m a x y z k : ℕ) (s : Span) → k ≡ min y z → z ≡ m - a → y ≡ s.len - x → x ≡ n - s.at → a ≡ s.at - n → a ⋯ k ≡ (s.at - n) ⋯ min (s.len - (n - s.at)) (m - (s.at - n))
own_is n m a x y z k s e f g h d = rw (e, f, g, h, d)

pub ruleset owns = (rules, part_fits, own_none, own_up, own_room, own_wrote)
