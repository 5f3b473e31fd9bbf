-- Laws of spans, for all who store strings: when a fetched part is the whole string, a span within a span, and what is read when the area grows.
-- Assumes nothing.
use Rattle.std.specs.Prelude.{Option, Some}
use Rattle.std.specs.Prelude.{ℕ, zero, suc, ◌+◌, ◌-◌, ◌*◌, ◌≤◌, ◌<◌, max, ◌≡◌, refl, List, [], ◌∷◌, ◌++◌, map, length, take, drop, get_or, set}
use Rattle.std.proofs.Common.{sym, ap, ◌∙◌, arith, add-zero, zero-add, length-take, length-drop, length-set, drop-drop, take-take, take_all, drop-set-lt, get_or-drop, get_or-set_other, get_or-set_same}
use Rattle.std.proofs.lemmas.List.{take-append-le}
use Rattle.text.specs.Ascii.{Bytes}
use Rattle.text.specs.Lists.{drop_take, drop_two, take_two}
use Rattle.spans.specs.Span.{◌⋯◌, bytes, pair_at, pairs, got_of}
use Rattle.spans.specs.declared.span.Span.{Span}

-- for clients of `fetch`: a front as long as the span is the whole string
pub whole : (mem : Bytes) (s : Span) (p : Bytes) → p ≡ take (length p) (bytes mem s) → length p ≡ s.len → p ≡ bytes mem s
unfolding bytes
whole mem s p e h =
    let l : length (take s.len (drop s.at mem)) ≤ s.len = rw length-take (omega arith) in
    e ∙ rw h (take_all s.len (take s.len (drop s.at mem)) l)

-- a string is no longer than its span
pub size_in : (mem : Bytes) (w : Span) → length (bytes mem w) ≤ w.len
unfolding bytes
size_in mem w = rw length-take (omega arith)

-- a span within a string is a span of the list that the string lies in
pub inner : (mem : Bytes) (w s : Span) → s.at + s.len ≤ w.len → bytes mem ((w.at + s.at) ⋯ s.len) ≡ bytes (bytes mem w) s
unfolding bytes
inner mem w s h =
    let g : s.len ≤ w.len - s.at = omega arith in
    sym (rw (drop_take s.at w.len (drop w.at mem), take-take s.len (w.len - s.at) (drop s.at (drop w.at mem)) g, drop-drop))

front : (n : ℕ) (m : Bytes) (s : Span) → s.at + s.len ≤ n → bytes (take n m) s ≡ bytes m s
unfolding bytes
front n m s h =
    let g : s.len ≤ n - s.at = omega arith in
    rw (drop_take s.at n m, take-take s.len (n - s.at) (drop s.at m) g)

-- what ends by n is read the same where the first n bytes are the same
pub bytes_same : (n : ℕ) (mem mem' : Bytes) (s : Span) → s.at + s.len ≤ n → take n mem' ≡ take n mem → bytes mem' s ≡ bytes mem s
bytes_same n mem mem' s h e = sym (front n mem' s h) ∙ ap (λ (m : Bytes). bytes m s) e ∙ front n mem s h

-- ---- the files, and the area up to its end

-- the first bytes of the files and the area are the files and the area up to o
pub known_front : (files area : Bytes) (o : ℕ) → take (length files + o) (files ++ area) ≡ files ++ take o area
known_front files area o =
    let q : length files + o - length files ≡ o = omega arith in
    take_two (length files + o) files area ∙ rw (take_all (length files + o) files (omega arith), q)

-- a string that ends by the area's end is read in the whole area as it is up to there
pub known_is : (files area : Bytes) (o : ℕ) (s : Span) → s.at + s.len ≤ length files + o → bytes (files ++ take o area) s ≡ bytes (files ++ area) s
known_is files area o s h = sym (ap (λ (m : Bytes). bytes m s) (known_front files area o)) ∙ front (length files + o) (files ++ area) s h

-- and so it is when the area has grown and what stood there is kept
pub known_grows : (files area area' : Bytes) (o o' : ℕ) → o ≤ o' → take o area' ≡ take o area → take (length files + o) (files ++ take o' area') ≡ take (length files + o) (files ++ take o area)
known_grows files area area' o o' h e =
    known_front files (take o' area') o ∙ rw (take-take o o' area' h, e) (sym (known_front files (take o area) o ∙ rw (take-take o o area (omega arith))))

-- a part of a part of the files
pub filed : (files area : Bytes) (base len a l : ℕ) → a + l ≤ length (take len (drop base files)) → bytes (files ++ area) ((base + a) ⋯ l) ≡ take l (drop a (take len (drop base files)))
unfolding bytes
filed files area base len zero zero h = refl
filed files area base len a (suc l) h =
    let n : length (take len (drop base files)) ≤ len = rw length-take (omega arith) in
    let m : length (take len (drop base files)) ≤ length (drop base files) = rw length-take (omega arith) in
    let d : length (drop base files) ≡ length files - base = length-drop base files in
    let g : suc l ≤ len - a = omega arith in
    let b : base + a ≤ length files = omega arith in
    let z : base + a - length files ≡ 0 = omega arith in
    let k : suc l ≤ length (drop (base + a) files) = rw length-drop (omega arith) in
    rw (drop_two (base + a) files area, take-append-le (suc l) (drop (base + a) files) (drop (base + a - length files) area) k, drop_take a len (drop base files), take-take (suc l) (len - a) (drop a (drop base files)) g, drop-drop)
filed files area base len (suc a) zero h = refl

-- ---- several spans

-- where the last of them ends
unfoldable pub last_end : List Span → ℕ
last_end [] = 0
last_end (s ∷ ss) = max (s.at + s.len) (last_end ss)

pub strings_same : (n : ℕ) (mem mem' : Bytes) (ss : List Span) → last_end ss ≤ n → take n mem' ≡ take n mem → map (bytes mem') ss ≡ map (bytes mem) ss
unfolding last_end
strings_same n mem mem' [] h e = refl
strings_same n mem mem' (s ∷ ss) h e =
    let a : s.at + s.len ≤ n = omega arith in
    let b : last_end ss ≤ n = omega arith in
    rw (bytes_same n mem mem' s a e, strings_same n mem mem' ss b e)

-- a list of pairs that is kept
pub pairs_same : (l l' : List ℕ) (k n : ℕ) → ((i : ℕ) → i < 2 * (k + n) → 2 * k ≤ i → get_or l' i 0 ≡ get_or l i 0) → pairs l' k n ≡ pairs l k n
unfolding pairs
pairs_same l l' k zero e = refl
pairs_same l l' k (suc n) e =
    rw (e (2 * k) (omega arith) (omega arith), e (2 * k + 1) (omega arith) (omega arith), pairs_same l l' (k + 1) n (λ i h g. e i (omega arith) (omega arith)))

-- the last of n + 1
pub pairs_last : (l : List ℕ) (k n : ℕ) → pairs l k (n + 1) ≡ pairs l k n ++ (pair_at l (k + n) ∷ [])
unfolding pairs
pairs_last l k zero = rw add-zero
pairs_last l k (suc n) =
    let q : k + 1 + n ≡ k + suc n = omega arith in
    let e : suc n + 1 ≡ suc (n + 1) = omega arith in
    rw e (ap (λ (t : List Span). pair_at l k ∷ t) (pairs_last l (k + 1) n ∙ rw q))

pub last_end_push : (ss : List Span) (s : Span) → last_end (ss ++ (s ∷ [])) ≡ max (last_end ss) (s.at + s.len)
unfolding last_end
last_end_push [] s = omega arith
last_end_push (u ∷ ss) s = rw (last_end_push ss s) (omega arith)

-- a pair stored behind the first n
module _ (l : List ℕ) (n a b : ℕ) (h : 2 * n + 1 < length l) where
  push_below : (i : ℕ) → i < 2 * n → get_or (set (set l (2 * n) a) (2 * n + 1) b) i 0 ≡ get_or l i 0
  push_below i g =
      let x : i ≡ 2 * n + 1 → ⊥ = λ e. absurd (omega arith) in
      let y : i ≡ 2 * n → ⊥ = λ e. absurd (omega arith) in
      get_or-set_other (set l (2 * n) a) (2 * n + 1) i b 0 x ∙ get_or-set_other l (2 * n) i a 0 y

  push_at : pair_at (set (set l (2 * n) a) (2 * n + 1) b) n ≡ a ⋯ b
  push_at =
      let x : 2 * n ≡ 2 * n + 1 → ⊥ = λ e. absurd (omega arith) in
      let g : 2 * n < length l = omega arith in
      let k : 2 * n + 1 < length (set l (2 * n) a) = rw length-set h in
      rw (get_or-set_same (set l (2 * n) a) (2 * n + 1) b 0 k, get_or-set_other (set l (2 * n) a) (2 * n + 1) (2 * n) b 0 x, get_or-set_same l (2 * n) a 0 g)

  pub pairs_push : pairs (set (set l (2 * n) a) (2 * n + 1) b) 0 (n + 1) ≡ pairs l 0 n ++ ((a ⋯ b) ∷ [])
  pairs_push =
      pairs_last (set (set l (2 * n) a) (2 * n + 1) b) 0 n
      ∙ rw (zero-add, push_at, pairs_same l (set (set l (2 * n) a) (2 * n + 1) b) 0 n (λ i g k. push_below i (omega arith)))

  pub push_back : drop (2 * (n + 1)) (set (set l (2 * n) a) (2 * n + 1) b) ≡ drop (2 * (n + 1)) l
  push_back =
      let x : 2 * n + 1 < 2 * (n + 1) = omega arith in
      let y : 2 * n < 2 * (n + 1) = omega arith in
      drop-set-lt (2 * (n + 1)) (set l (2 * n) a) (2 * n + 1) b x ∙ drop-set-lt (2 * (n + 1)) l (2 * n) a y

-- pairs read from numbers that are kept from 2 k on
pub pairs_kept : (l l' : List ℕ) (k n : ℕ) → drop (2 * k) l' ≡ drop (2 * k) l → pairs l' k n ≡ pairs l k n
pairs_kept l l' k n e =
    pairs_same l l' k n
    (λ i h g.
    let q : 2 * k + (i - 2 * k) ≡ i = omega arith in
    let f : get_or (drop (2 * k) l') (i - 2 * k) 0 ≡ get_or (drop (2 * k) l) (i - 2 * k) 0 = ap (λ (t : List ℕ). get_or t (i - 2 * k) 0) e in
    rw q at (sym (get_or-drop (2 * k) l' (i - 2 * k) 0) ∙ f ∙ get_or-drop (2 * k) l (i - 2 * k) 0))

-- a string without its first byte is shorter
pub shorter : (mem w : List ℕ) (p : Option (ℕ × Span)) (b : ℕ) (u : Span) → w ≡ got_of mem p → p ≡ Some (b, u) → length (bytes mem u) < length w
shorter mem w p b u e h = rw (e, h) (omega arith)
