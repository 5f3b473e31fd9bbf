-- Laws: a definition by `cond`, at a `return` that tests led to. `search cases` follows the ladder, test by test; past five tests say `depth 8`.
-- Assumes nothing.
use Rattle.std.specs.Prelude.{◌≡◌, Bool, true, false, cond, ℕ, ◌≤◌, ◌<◌, eqb, leb, ltb}
use Rattle.std.proofs.Common.{rules, eq-eqb, ne_eqb, le-leb, lt-ltb, le-ltb}
use Rattle.std.proofs.lemmas.Bool.{lt-leb}
use Rattle.text.specs.Lists.{past, part_is_lem}

pub if_eq : {A : Type 0} (a b : ℕ) (x y r : A) → a ≡ b → r ≡ x → r ≡ cond (eqb a b) x y
if_eq a b x y r h e = rw (eq-eqb a b h) e

pub if_ne : {A : Type 0} (a b : ℕ) (x y r : A) → (a ≡ b → ⊥) → r ≡ y → r ≡ cond (eqb a b) x y
if_ne a b x y r h e = rw (ne_eqb a b h) e

pub if_le : {A : Type 0} (a b : ℕ) (x y r : A) → a ≤ b → r ≡ x → r ≡ cond (leb a b) x y
if_le a b x y r h e = rw (le-leb a b h) e

pub if_gt : {A : Type 0} (a b : ℕ) (x y r : A) → b < a → r ≡ y → r ≡ cond (leb a b) x y
if_gt a b x y r h e = rw (lt-leb a b h) e

pub if_lt : {A : Type 0} (a b : ℕ) (x y r : A) → a < b → r ≡ x → r ≡ cond (ltb a b) x y
if_lt a b x y r h e = rw (lt-ltb a b h) e

pub if_ge : {A : Type 0} (a b : ℕ) (x y r : A) → b ≤ a → r ≡ y → r ≡ cond (ltb a b) x y
if_ge a b x y r h e = rw (le-ltb a b h) e

pub if_true : {A : Type 0} (t : Bool) (x y r : A) → t ≡ true → r ≡ x → r ≡ cond t x y
if_true t x y r h e = rw h e

pub if_false : {A : Type 0} (t : Bool) (x y r : A) → t ≡ false → r ≡ y → r ≡ cond t x y
if_false t x y r h e = rw h e

-- the flag f came from a call that ensures that it is t
pub if_told : {A : Type 0} (f t : Bool) (x y r : A) → f ≡ t → f ≡ true → r ≡ x → r ≡ cond t x y
if_told f t x y r g h e = rw (← g, h) e

pub if_untold : {A : Type 0} (f t : Bool) (x y r : A) → f ≡ t → f ≡ false → r ≡ y → r ≡ cond t x y
if_untold f t x y r g h e = rw (← g, h) e

pub ruleset cases = (rules, if_eq, if_ne, if_le, if_gt, if_lt, if_ge, if_true, if_false, if_told, if_untold, past, part_is_lem)
