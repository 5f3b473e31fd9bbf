-- A strategy put among those that are found: laws as the needs ask them. Assumes nothing.
use Rattle.std.specs.Prelude.{Option, Some, None}
use Prim.Native.Nat.{ℕ, zero, suc, ◌+◌, ◌-◌, ◌≤◌, ◌<◌, ◌^◌}
use native.Mathlib.Omega.{arith}
use native.Mathlib.Numerals.{add-one}
use mathlib.Core.Path.{◌≡◌, refl, sym, ap, ap₂, ◌∙◌}
use mathlib.Core.Bool.{Bool, true, false, cond}
use mathlib.Core.List.{List, [], ◌∷◌, ◌++◌, append_assoc}
use lib.ListN.{length, take, drop, get_or, set, length-set, length-append, length-drop, drop_of_length-le, take-append-drop}
use borrow.Rule.Slice.PartMut.{put_mid}
use lib.Seq.{drop_at, drop-cons, get_or-take, get_or_at, set_at, take-suc, take_at, length-take-le, take-take}
use borrow.Author.Rules.{rules}
use borrow.Author.Tests.{ltb-true, lt-ltb}
use Rattle.text.specs.Scan.{all}
use Rattle.text.specs.Sames.{both}
use Rattle.model.specs.Records.{Isolation as Isolationʳ}
use Rattle.checks.specs.Sorted.{are_same, is_earlier, place_number, spot_in, inserted_in, inserted_at, is_number, Known, Adds, Found}

-- ---- numbers that are found

all_number : (l : List ℕ) (k : ℕ) → all is_number l ≡ true → k < length l → get_or l k 0 < 32
unfolding all
all_number [] k a h = absurd (omega arith)
all_number (x ∷ l) zero a h = ltb-true x 32 (both (is_number x) (all is_number l) a).0
all_number (x ∷ l) (suc k) a h = all_number l k (both (is_number x) (all is_number l) a).1 (omega arith)

pub number_at : (l : List ℕ) (n k : ℕ) → Known l n → k < n → (j : ℕ) → j ≡ get_or l k 0 → j < 32
number_at l n k w h j e = rw e (rw (get_or-take n l k 0 h) at (all_number (take n l) k w.numbers (rw (length-take-le n l w.long) h)))

next_is : (l : List ℕ) (n k : ℕ) → k < n → n ≤ length l → drop k (take n l) ≡ get_or l k 0 ∷ drop (k + 1) (take n l)
next_is l n k h g =
    let m : k < length (take n l) = rw (length-take-le n l g) h in
    drop-cons (take n l) k 0 m ∙ rw (get_or-take n l k 0 h, ← add-one k)

-- ---- the spot: not among the first k, nor before them

pub record Spots (f : ℕ → Isolationʳ) (i : ℕ) (l : List ℕ) (n k : ℕ) : Type 0 where
  pub number : i < 32
  pub known : Known l n
  pub before : k ≤ n
  pub left : spot_in f i (take n l) 0 ≡ spot_in f i (drop k (take n l)) k

pub spot_start : (f : ℕ → Isolationʳ) (i : ℕ) (l : List ℕ) (n : ℕ) → i < 32 → Known l n → Spots f i l n 0
spot_start f i l n a b = record { number = a; known = b; before = omega arith; left = refl }

module _ (f : ℕ → Isolationʳ) (i : ℕ) (l : List ℕ) (n k : ℕ) (inv : Spots f i l n k) where
  w : Known l n
  w = inv.known

  pub spot_number : k < n → (j : ℕ) → j ≡ get_or l k 0 → j < 32
  spot_number h j e = number_at l n k w h j e

  pub spot_end : n ≤ k → n + 1 ≡ spot_in f i (take n l) 0
  unfolding spot_in
  spot_end h =
      let e : k ≡ n = omega (arith, inv.before) in
      sym (inv.left ∙ rw (drop_of_length-le (take n l) {i = k} (rw (length-take-le n l w.long) h), e))

  module _ (h : k < n) (j : ℕ) (e : j ≡ get_or l k 0) (b : Bool) (s : b ≡ are_same (f i) (f j)) where
    opened : spot_in f i (take n l) 0 ≡ cond b 0 (cond (is_earlier (f i) (f j)) (k + 1) (spot_in f i (drop (k + 1) (take n l)) (k + 1)))
    unfolding spot_in
    opened = inv.left ∙ rw (next_is l n k h w.long, ← e, ← s)

    pub spot_there : b ≡ true → 0 ≡ spot_in f i (take n l) 0
    spot_there g = sym (opened ∙ rw g)

    module _ (g : b ≡ false) (d : Bool) (q : d ≡ is_earlier (f i) (f j)) where
      pub spot_here : d ≡ true → k + 1 ≡ spot_in f i (take n l) 0
      spot_here z = sym (opened ∙ rw (g, ← q, z))

      pub spot_on : d ≡ false → Spots f i l n (k + 1)
      spot_on z = record { number = inv.number; known = inv.known; before = omega arith; left = opened ∙ rw (g, ← q, z) }

pub ruleset spots = (rules, spot_number, spot_end, spot_there, spot_here, spot_on)

-- ---- what is put there: behind the others, and turned to its place

-- of the list a, b, x and r the part b, x is turned by one
rotated : (a b r : List ℕ) (x k j : ℕ) → length a ≡ k → j ≡ length b + 1 → (ys m : List ℕ) → m ≡ a ++ (b ++ (x ∷ r)) → ys ≡ drop (length (take j (drop k m)) - 1) (take j (drop k m)) ++ take (length (take j (drop k m)) - 1) (take j (drop k m)) → put_mid k j m ys ≡ a ++ (x ∷ (b ++ r))
rotated a b r x k j ka jb ys m e y =
    let v : drop k m ≡ (b ++ (x ∷ [])) ++ r = rw e (drop_at a (b ++ (x ∷ r)) k ka) ∙ sym (append_assoc b (x ∷ []) r) in
    let l : length (b ++ (x ∷ [])) ≡ j = length-append b (x ∷ []) ∙ sym jb in
    let s : take j (drop k m) ≡ b ++ (x ∷ []) = rw v (take_at (b ++ (x ∷ [])) r j l) in
    let d : drop j (drop k m) ≡ r = rw v (drop_at (b ++ (x ∷ [])) r j l) in
    let t : take k m ≡ a = rw e (take_at a (b ++ (x ∷ r)) k ka) in
    let q : length (b ++ (x ∷ [])) - 1 ≡ length b = omega (arith, l, jb) in
    let w : ys ≡ (x ∷ []) ++ b = y ∙ rw (s, q, drop_at b (x ∷ []) (length b) refl, take_at b (x ∷ []) (length b) refl) in
    rw (t, d, w)

pub inserted_by : (l ys : List ℕ) (n k x : ℕ) → k ≤ n → n < length l
    → ys ≡ drop (length (take (n + 1 - k) (drop k (set l n x))) - 1) (take (n + 1 - k) (drop k (set l n x))) ++ take (length (take (n + 1 - k) (drop k (set l n x))) - 1) (take (n + 1 - k) (drop k (set l n x)))
    → put_mid k (n + 1 - k) (set l n x) ys ≡ inserted_at l n k x
unfolding inserted_at
inserted_by l ys n k x h g y =
    let f : length (take n l) ≡ n = length-take-le n l (omega arith) in
    let p : l ≡ take n l ++ (get_or l n 0 ∷ drop (n + 1) l) = sym (take-append-drop n l) ∙ ap (λ (r : List ℕ). take n l ++ r) (drop-cons l n 0 g ∙ rw (add-one n)) in
    let u : set l n x ≡ take n l ++ (x ∷ drop (n + 1) l) = ap (λ (r : List ℕ). set r n x) p ∙ set_at (take n l) (get_or l n 0) (drop (n + 1) l) x n f in
    let t : take n l ≡ take k l ++ drop k (take n l) = sym (take-append-drop k (take n l)) ∙ ap (λ (r : List ℕ). r ++ drop k (take n l)) (take-take k n l h) in
    let m : set l n x ≡ take k l ++ (drop k (take n l) ++ (x ∷ drop (n + 1) l)) = u ∙ ap (λ (r : List ℕ). r ++ (x ∷ drop (n + 1) l)) t ∙ append_assoc (take k l) (drop k (take n l)) (x ∷ drop (n + 1) l) in
    rotated (take k l) (drop k (take n l)) (drop (n + 1) l) x k (n + 1 - k) (length-take-le k l (omega arith)) (omega (arith, length-drop k (take n l), f)) ys (set l n x) m y

-- ---- one more, where it is new

module _ (f : ℕ → Isolationʳ) (i : ℕ) where
  -- its check is there
  there_is : (l : List ℕ) (k : ℕ) → spot_in f i l k ≡ 0 → inserted_in f i l ≡ l
  unfolding spot_in inserted_in
  there_is [] k h = absurd (omega arith)
  there_is (j ∷ l) k h = go (are_same (f i) (f j)) (is_earlier (f i) (f j)) h (λ q. there_is l (k + 1) q)
    where
      go : (b c : Bool) → cond b 0 (cond c (k + 1) (spot_in f i l (k + 1))) ≡ 0 → (spot_in f i l (k + 1) ≡ 0 → inserted_in f i l ≡ l) → cond b (j ∷ l) (cond c (i ∷ j ∷ l) (j ∷ inserted_in f i l)) ≡ j ∷ l
      go true c h r = refl
      go false true h r = absurd (omega arith)
      go false false h r = ap (λ (r : List ℕ). j ∷ r) (r h)

  pub record Goes (l : List ℕ) (k s : ℕ) : Type 0 where
    pub from : k + 1 ≤ s
    pub upto : s ≤ k + length l + 1
    pub is : inserted_in f i l ≡ take (s - 1 - k) l ++ (i ∷ drop (s - 1 - k) l)

  goes_here : (l : List ℕ) (k s : ℕ) → s ≡ k + 1 → inserted_in f i l ≡ i ∷ l → Goes l k s
  goes_here l k s e h = let z : s - 1 - k ≡ 0 = omega arith in record { from = omega arith; upto = omega arith; is = rw z h }

  goes_on : (j : ℕ) (l : List ℕ) (k s : ℕ) → Goes l (k + 1) s → inserted_in f i (j ∷ l) ≡ j ∷ inserted_in f i l → Goes (j ∷ l) k s
  goes_on j l k s g h =
      let z : s - 1 - k ≡ suc (s - 1 - (k + 1)) = omega (arith, g.from) in
      record { from = omega (arith, g.from); upto = omega (arith, g.upto); is = rw z (h ∙ ap (λ (r : List ℕ). j ∷ r) g.is) }

  goes : (l : List ℕ) (k s : ℕ) → spot_in f i l k ≡ s → (s ≡ 0 → ⊥) → Goes l k s
  unfolding spot_in inserted_in
  goes [] k s h n = goes_here [] k s (sym h) refl
  goes (j ∷ l) k s h n = go (are_same (f i) (f j)) refl (is_earlier (f i) (f j)) refl (λ q. goes l (k + 1) s q n)
    where
      go : (b : Bool) → are_same (f i) (f j) ≡ b → (c : Bool) → is_earlier (f i) (f j) ≡ c → (spot_in f i l (k + 1) ≡ s → Goes l (k + 1) s) → Goes (j ∷ l) k s
      go true e c d r = absurd (n (sym (rw e at h)))
      go false e true d r = goes_here (j ∷ l) k s (sym (rw (e, d) at h)) (rw (e, d))
      go false e false d r = goes_on j l k s (r (rw (e, d) at h)) (rw (e, d))

  all_in : (t : ℕ → Bool) (l : List ℕ) → all t l ≡ true → t i ≡ true → all t (inserted_in f i l) ≡ true
  unfolding all inserted_in
  all_in t [] a e = rw e
  all_in t (j ∷ l) a e =
      let b = both (t j) (all t l) a in
      go (are_same (f i) (f j)) (is_earlier (f i) (f j)) b.0 b.1 (all_in t l b.1 e)
    where
      go : (b c : Bool) → t j ≡ true → all t l ≡ true → all t (inserted_in f i l) ≡ true → all t (cond b (j ∷ l) (cond c (i ∷ j ∷ l) (j ∷ inserted_in f i l))) ≡ true
      go true c p q r = rw (p, q)
      go false true p q r = rw (e, p, q)
      go false false p q r = rw (p, r)

  module _ (l : List ℕ) (n : ℕ) (w : Adds l n i) (s : ℕ) (e : s ≡ spot_in f i (take n l) 0) where
    long : length (take n l) ≡ n
    long = length-take-le n l w.known.long

    add_there : s ≡ 0 → Found (inserted_in f i (take n l)) (n + 1) l l n
    add_there h = record { are = sym (there_is (take n l) 0 (sym e ∙ h)); count = omega arith; known = w.known; size = refl }

    module _ (h : s ≡ 0 → ⊥) where
      at_spot : Goes (take n l) 0 s
      at_spot = goes (take n l) 0 s (sym e) h

      add_place : s - 1 ≤ n
      add_place = omega (arith, at_spot.upto, long)

      add_put : (l' : List ℕ) (x : ℕ) → l' ≡ inserted_at l n (s - 1) x → x ≡ i → length l' ≡ length l → Found (inserted_in f i (take n l)) (n + 1) l l' (n + 1)
      unfolding inserted_at
      add_put l' x p q m =
          let z : s - 1 - 0 ≡ s - 1 = omega arith in
          let a : take (s - 1) l ≡ take (s - 1) (take n l) = sym (take-take (s - 1) n l add_place) in
          let y : inserted_in f i (take n l) ≡ take (s - 1) (take n l) ++ (i ∷ drop (s - 1) (take n l)) = rw z at at_spot.is in
          let v : take (s - 1) l ++ (x ∷ (drop (s - 1) (take n l) ++ drop (n + 1) l)) ≡ take (s - 1) (take n l) ++ (i ∷ (drop (s - 1) (take n l) ++ drop (n + 1) l)) = rw (q, a) in
          let r : l' ≡ inserted_in f i (take n l) ++ drop (n + 1) l =
          p ∙ v ∙ sym (append_assoc (take (s - 1) (take n l)) (i ∷ drop (s - 1) (take n l)) (drop (n + 1) l)) ∙ ap (λ (u : List ℕ). u ++ drop (n + 1) l) (sym y) in
          let c : length (inserted_in f i (take n l)) ≡ n + 1 = sizes y in
          let t : take (n + 1) l' ≡ inserted_in f i (take n l) = ap (take (n + 1)) r ∙ take_at (inserted_in f i (take n l)) (drop (n + 1) l) (n + 1) c in
          record {
            are = t;
            count = omega arith;
            known = record { few = omega (arith, w.few); long = omega (arith, m, w.few, w.room); numbers = rw t (all_in is_number (take n l) w.known.numbers (lt-ltb i 32 w.number)) };
            size = m;
          }
        where
          sizes : inserted_in f i (take n l) ≡ take (s - 1) (take n l) ++ (i ∷ drop (s - 1) (take n l)) → length (inserted_in f i (take n l)) ≡ n + 1
          sizes u =
              let y = length-append (take (s - 1) (take n l)) (i ∷ drop (s - 1) (take n l)) in
              let v = length-take-le (s - 1) (take n l) (omega (arith, long, add_place)) in
              let d = length-drop (s - 1) (take n l) in
              ap length u ∙ omega (arith, y, v, d, long, add_place)

  module _ (l : List ℕ) (n : ℕ) (w : Adds l n i) where
    pub add_room : n < length l
    add_room = omega (arith, w.few, w.room)

    pub add_more : n + 1 < 2 ^ 64
    add_more = omega (arith, w.few)

    module _ (r : Option ℕ) (e : place_number r ≡ spot_in f i (take n l) 0) where
      pub spot_none : r ≡ None → Found (inserted_in f i (take n l)) (n + 1) l l n
      spot_none h = add_there l n w 0 (rw h at e) refl

      module _ (k : ℕ) (h : r ≡ Some k) where
        spot_is : k + 1 ≡ spot_in f i (take n l) 0
        spot_is = rw h at e

        less_one : k + 1 - 1 ≡ k
        less_one = omega arith

        pub spot_place : k ≤ n
        spot_place = omega (arith, add_place l n w (k + 1) spot_is (λ z. omega arith))

        pub spot_put : (l' : List ℕ) (x : ℕ) → l' ≡ inserted_at l n k x → x ≡ i → length l' ≡ length l → Found (inserted_in f i (take n l)) (n + 1) l l' (n + 1)
        spot_put l' x p q m = add_put l n w (k + 1) spot_is (λ z. omega arith) l' x (rw less_one p) q m

pub ruleset adds = (rules, add_room, add_more, spot_none, spot_place, spot_put)
