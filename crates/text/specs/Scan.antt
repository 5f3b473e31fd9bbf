-- How far a byte string goes before something: the measure of every word, field and line.
-- Assumes nothing.
use Rattle.std.specs.Prelude.{ℕ, suc, ◌+◌, ◌≤◌, ◌≡◌, Bool, cond, ◌||◌, ◌&&◌, List, [], ◌∷◌, eqb, drop}
use Rattle.text.specs.Ascii.{Bytes}

-- how many bytes stand before the first that passes the test; all of them where none passes
unfoldable pub before : (ℕ → Bool) → Bytes → ℕ
before p [] = 0
before p (x ∷ xs) = cond (p x) 0 (suc (before p xs))

-- the same for one byte
abbrev pub is : ℕ → ℕ → Bool
is b x = eqb x b

abbrev pub up_to : ℕ → Bytes → ℕ
up_to b xs = before (is b) xs

-- a test of every element, and of some
unfoldable pub all : {A : Type 0} → (A → Bool) → List A → Bool
all t [] = Bool.true
all t (x ∷ xs) = t x && all t xs

unfoldable pub any : {A : Type 0} → (A → Bool) → List A → Bool
any t [] = Bool.false
any t (x ∷ xs) = t x || any t xs

-- a scan of n bytes that ends at r, where it should end at a
pub record Ends (a n r : ℕ) : Type 0 where
  pub is_at : r ≡ a
  pub within : r ≤ n

-- where r says so, none of the n bytes of s from i on passes the test
pub record Free (p : ℕ → Bool) (s : Bytes) (i n : ℕ) (r : Bool) : Type 0 where
  pub passed : r ≡ Bool.true → before p (drop i s) ≡ n + before p (drop (i + n) s)

-- the parts between the b's: one more than there are b's
abbrev pub onto : ℕ → List Bytes → List Bytes
onto x [] = (x ∷ []) ∷ []
onto x (p ∷ ps) = (x ∷ p) ∷ ps

unfoldable pub split_at : ℕ → Bytes → List Bytes
split_at b [] = [] ∷ []
split_at b (x ∷ xs) = cond (eqb x b) ([] ∷ split_at b xs) (onto x (split_at b xs))
