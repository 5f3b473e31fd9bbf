-- The entries of the values read as lists, counted: "a value read as a list 64 entries, all such values 1,024". Assumes nothing.
use Rattle.std.specs.Prelude.{Option, Some, None}
use Rattle.std.specs.Prelude.{ℕ, ◌+◌, ◌≤◌, ◌<◌, ◌≡◌, refl, Bool, true, false, cond, ◌&&◌, List, [], ◌∷◌, ◌++◌, leb}
use Rattle.std.proofs.Common.{arith, sym, ◌∙◌, le-leb, leb-true, leb-false}
use Rattle.std.proofs.lemmas.Bool.{lt-leb}
use Rattle.text.specs.Scan.{all}
use Rattle.model.specs.Within.{total}
use Rattle.model.specs.Limits.{most_entries, most_all_entries}

-- values with ls entries more: each within its limit, and all together
unfoldable pub counted : ℕ → List ℕ → Option ℕ
counted before ls = cond (all (λ k. leb k most_entries) ls && leb (before + total ls) most_all_entries) (Some (before + total ls)) None

-- ---- the same, one value after the other

-- a value with k entries more
abbrev pub and_one : ℕ → Option ℕ → Option ℕ
and_one k None = None
and_one k (Some t) = cond (leb k 64) (cond (leb (t + k) 1024) (Some (t + k)) None) None

unfoldable pub and_all : List ℕ → Option ℕ → Option ℕ
and_all [] c = c
and_all (k ∷ ks) c = and_all ks (and_one k c)

-- how many they are
abbrev pub size_of : Option ℕ → ℕ
size_of None = 0
size_of (Some t) = t

-- an answer: these values more, and the limit is kept
pub record Counts (ks : List ℕ) (c r : Option ℕ) : Type 0 where
  pub is : r ≡ and_all ks c
  pub few : size_of r ≤ 1024

pub all_append : (ks ls : List ℕ) (c : Option ℕ) → and_all (ks ++ ls) c ≡ and_all ls (and_all ks c)
unfolding and_all
all_append [] ls c = refl
all_append (k ∷ ks) ls c = all_append ks ls (and_one k c)

all_over : (ks : List ℕ) → and_all ks None ≡ None
unfolding and_all
all_over [] = refl
all_over (k ∷ ks) = all_over ks

-- past the limit already
too_many : (n : ℕ) (b : Bool) → 1024 < n → cond (b && leb n 1024) (Some n) None ≡ None
too_many n true h = rw (lt-leb n 1024 h)
too_many n false h = refl

step : (ks : List ℕ) (t k : ℕ) (a b : Bool) → leb k 64 ≡ a → leb (t + k) 1024 ≡ b → ((n : ℕ) → n ≤ 1024 → and_all ks (Some n) ≡ counted n ks) → and_all ks (cond a (cond b (Some (t + k)) None) None) ≡ cond (a && all (λ n. leb n 64) ks && leb (t + (k + total ks)) 1024) (Some (t + (k + total ks))) None
unfolding counted
step ks t k false b p q f = all_over ks
step ks t k true false p q f =
    let h : 1024 < t + k = leb-false (t + k) 1024 q in
    all_over ks ∙ sym (too_many (t + (k + total ks)) (all (λ n. leb n 64) ks) (omega arith))
step ks t k true true p q f =
    let h : t + k ≤ 1024 = leb-true (t + k) 1024 q in
    let e : t + k + total ks ≡ t + (k + total ks) = omega arith in
    f (t + k) h ∙ rw e

pub all_counted : (ks : List ℕ) (t : ℕ) → t ≤ 1024 → and_all ks (Some t) ≡ counted t ks
unfolding and_all counted all total
all_counted [] t h = let e : t + 0 ≡ t = omega arith in rw (e, le-leb t 1024 h)
all_counted (k ∷ ks) t h = step ks t k (leb k 64) (leb (t + k) 1024) refl refl (λ n g. all_counted ks n g)
