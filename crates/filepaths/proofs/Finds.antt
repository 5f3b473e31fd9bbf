-- Laws: the last slash of a path, a path below a directory, and the loop over the files. Assumes nothing.
use Prim.Native.Nat.{ℕ, suc, ◌+◌, ◌-◌, ◌≤◌, ◌<◌}
use native.Mathlib.Omega.{arith}
use native.Mathlib.Nat.{zero-add}
use mathlib.Core.Path.{◌≡◌, refl, sym, ◌∙◌}
use mathlib.Core.Bool.{Bool, true, false, cond, not, ◌&&◌}
use mathlib.Core.List.{List, [], ◌∷◌, ◌++◌}
use lib.Dec.{eqb, ltb}
use lib.ListN.{length, take, drop, get_or, drop_of_length-le, get_or-eq_default}
use borrow.Author.Rules.{rules}
use borrow.Author.Tests.{eq-eqb, ne_eqb, eqb-true, ltb-true, ltb-false, not-true, not-false}
use Rattle.text.specs.Ascii.{Bytes}
use Rattle.text.specs.Compare.{same, starts_with}
use Rattle.text.specs.Lists.{here}
use Rattle.text.specs.Scan.{any}
use Rattle.text.specs.Sames.{no_true}
use Rattle.jobindex.specs.Index.{path_at, file_at, rows}
use Rattle.jobindex.specs.Rows.{rows_length, rows_here}
use Rattle.model.specs.Scope.{below, up}
use Rattle.model.specs.Up.{slashed, up_size, up_is, size_none, size_at, slashed_here}
use Rattle.read.specs.Reading.{joined_path}
use Rattle.filepaths.specs.Paths.{place_of}

-- ---- the last slash: there is none from i on
pub record Clear (s : Bytes) (i : ℕ) : Type 0 where
  pub within : i ≤ length s
  pub none : slashed (drop i s) ≡ false

module _ (s : Bytes) where
  pub clear_start : Clear s (length s)
  unfolding any
  clear_start = record { within = omega arith; none = rw (drop_of_length-le s {i = length s} (omega arith)) }

  pub clear_end : (i : ℕ) → Clear s i → i ≤ 0 → 0 ≡ up_size s
  clear_end i v h = let z : i ≡ 0 = omega arith in sym (size_none s (rw z at v.none))

  module _ (i : ℕ) (v : Clear s i) (h : 0 < i) where
    less : i - 1 < length s
    less = omega (arith, v.within)

    back : slashed (drop (i - 1 + 1) s) ≡ false
    back = let q : i - 1 + 1 ≡ i = omega arith in rw q v.none

    pub clear_stop : get_or s (i - 1) 0 ≡ 47 → i - 1 ≡ up_size s
    clear_stop g = sym (size_at (i - 1) s (slashed_here s (i - 1) less ∙ rw (eq-eqb (get_or s (i - 1) 0) 47 g)) back)

    pub clear_step : (get_or s (i - 1) 0 ≡ 47 → ⊥) → Clear s (i - 1)
    clear_step g = record { within = omega (arith, v.within); none = slashed_here s (i - 1) less ∙ rw (ne_eqb (get_or s (i - 1) 0) 47 g, back) }

pub ruleset clears = (rules, clear_start, clear_end, clear_stop, clear_step)

-- ---- a name below a directory

eqb_swap : (x y : ℕ) → eqb x y ≡ eqb y x
eqb_swap x y = go (eqb x y) refl (eqb y x) refl
  where
    go : (a : Bool) → eqb x y ≡ a → (b : Bool) → eqb y x ≡ b → a ≡ b
    go true p true q = refl
    go true p false q = absurd (no_true (sym q ∙ eq-eqb y x (sym (eqb-true x y p))))
    go false p true q = absurd (no_true (sym p ∙ eq-eqb x y (sym (eqb-true y x q))))
    go false p false q = refl

pub same_swap : (p q : Bytes) → same p q ≡ same q p
unfolding same
same_swap [] [] = refl
same_swap [] (y ∷ q) = refl
same_swap (x ∷ p) [] = refl
same_swap (x ∷ p) (y ∷ q) = rw (eqb_swap x y, same_swap p q)

and_assoc : (a b c : Bool) → (a && (b && c)) ≡ ((a && b) && c)
and_assoc true b c = refl
and_assoc false b c = refl

-- a path is two strings joined where it begins with the one and goes on with the other
same_joined : (d p x : Bytes) → same p (d ++ x) ≡ (same (take (length d) p) d && same (drop (length d) p) x)
unfolding same
same_joined [] p x = refl
same_joined (b ∷ d) [] x = refl
same_joined (b ∷ d) (y ∷ p) x = rw (same_joined d p x) (and_assoc (eqb y b) (same (take (length d) p) d) (same (drop (length d) p) x))

below_is : (d name : Bytes) → (length d ≡ 0 → ⊥) → below d name ≡ d ++ (47 ∷ name)
below_is [] name h = absurd (h refl)
below_is (b ∷ d) name h = refl

here_by : (p : Bytes) (n : ℕ) (x : Bytes) (t : Bool) → ltb n (length p) ≡ t → same (drop n p) (47 ∷ x) ≡ (eqb (get_or p n 0) 47 && same (drop (n + 1) p) x)
unfolding same
here_by p n x true q = rw (here p n (ltb-true n (length p) q))
here_by p n x false q =
    let l : length p ≤ n = ltb-false n (length p) q in
    rw (drop_of_length-le p {i = n} l, get_or-eq_default p 0 l)

module _ (path d name : Bytes) where
  pub joined_root : (n : ℕ) (r : Bool) → n ≡ length d → n ≡ 0 → r ≡ same name path → r ≡ same path (below d name)
  joined_root n r e z h = go d (sym e ∙ z)
    where
      go : (d : Bytes) → length d ≡ 0 → r ≡ same path (below d name)
      go [] q = h ∙ same_swap name path
      go (b ∷ d) q = absurd (omega arith)

  module _ (z : length d ≡ 0 → ⊥) where
    split : same path (below d name) ≡ (starts_with d path && (eqb (get_or path (length d) 0) 47 && same (drop (length d + 1) path) name))
    split = rw (below_is d name z, same_joined d path (47 ∷ name), here_by path (length d) name (ltb (length d) (length path)) refl)

    pub joined_other : (t : Bool) → t ≡ starts_with d path → not t ≡ true → false ≡ same path (below d name)
    joined_other t e h = sym (split ∙ rw (← e, not-true t h))

    module _ (t : Bool) (e : t ≡ starts_with d path) (h : not t ≡ false) (b : ℕ) (eb : b ≡ get_or path (length d) 0) where
      pub joined_unslashed : (b ≡ 47 → ⊥) → false ≡ same path (below d name)
      joined_unslashed g = sym (split ∙ rw (← e, not-false t h, ← eb, ne_eqb b 47 g))

      pub joined_name : b ≡ 47 → (q : Bytes) (r : Bool) → q ≡ drop (length d + 1) path → r ≡ same name q → r ≡ same path (below d name)
      joined_name g q r eq er = sym (split ∙ rw (← e, not-false t h, ← eb, eq-eqb b 47 g, er, ← eq) (same_swap q name))

pub ruleset joins = (rules, joined_root, joined_other, joined_unslashed, joined_name)

-- ---- the files
pub record Left (job : Bytes) (nums : List ℕ) (n : ℕ) (p : Bytes) (k : ℕ) : Type 0 where
  pub few : k ≤ n
  pub rest : place_of (rows (file_at job nums) n) p ≡ k + place_of (drop k (rows (file_at job nums) n)) p

module _ (job : Bytes) (nums : List ℕ) (n : ℕ) (p : Bytes) where
  pub left_start : Left job nums n p 0
  left_start = record { few = omega arith; rest = rw zero-add }

  pub left_none : (k : ℕ) → Left job nums n p k → n ≤ k → n ≡ place_of (rows (file_at job nums) n) p
  unfolding place_of
  left_none k v h =
      let l : length (rows (file_at job nums) n) ≡ n = rows_length (file_at job nums) n in
      sym (v.rest ∙ rw (drop_of_length-le (rows (file_at job nums) n) {i = k} (omega arith)) (omega (arith, v.few)))

  module _ (k : ℕ) (v : Left job nums n p k) (h : k < n) (t : Bool) (et : t ≡ same (path_at job nums k) p) where
    one : place_of (drop k (rows (file_at job nums) n)) p ≡ cond t 0 (suc (place_of (drop (k + 1) (rows (file_at job nums) n)) p))
    unfolding place_of
    one = rw (rows_here (file_at job nums) n k h, et)

    pub left_stop : t ≡ true → k ≡ place_of (rows (file_at job nums) n) p
    left_stop g = sym (v.rest ∙ rw (one, g) (omega arith))

    pub left_step : t ≡ false → Left job nums n p (k + 1)
    left_step g = record { few = omega arith; rest = v.rest ∙ rw (one, g) (omega arith) }

-- the test of file k, by the loader's directory
pub test_is : (by d path name : Bytes) (job : Bytes) (nums : List ℕ) (loader k s : ℕ) (t : Bool) → by ≡ path_at job nums loader → s ≡ up_size by → d ≡ take s (drop 0 by) → path ≡ path_at job nums k → t ≡ same path (below d name) → t ≡ same (path_at job nums k) (joined_path (path_at job nums loader) name)
test_is by d path name job nums loader k s t eb es ed ep et =
    let q : d ≡ up (path_at job nums loader) = ed ∙ rw (es, eb) (sym (up_is (path_at job nums loader))) in
    rw (q, ep) at et

pub ruleset finds = (rules, left_start, left_none, left_stop, left_step, test_is)
