-- How the definitions speak of lists: the first that passes a test, those that pass it, one of them, each of them one time.
-- Assumes nothing.
use Rattle.std.specs.Prelude.{Bool, cond, List, [], ◌∷◌, ◌++◌, Option, None, Some}
use Rattle.text.specs.Ascii.{Bytes}
use Rattle.text.specs.Compare.{same}
use Rattle.text.specs.Scan.{any}

-- what is made of a value, and what stands where there is none
abbrev pub on_some {ℓ} : {A : Type 0} {B : Type ℓ} → Option A → B → (A → B) → B
on_some None b f = b
on_some (Some a) b f = f a

-- the first that passes the test
unfoldable pub first : {A : Type 0} → (A → Bool) → List A → Option A
first t [] = None
first t (x ∷ xs) = cond (t x) (Some x) (first t xs)

-- those that pass the test, in their order
unfoldable pub those : {A : Type 0} → (A → Bool) → List A → List A
those t [] = []
those t (x ∷ xs) = cond (t x) (x ∷ those t xs) (those t xs)

-- s is one of l
abbrev pub is_in : Bytes → List Bytes → Bool
is_in s l = any (λ t. same s t) l

-- s behind l, where l does not have it yet
unfoldable pub add_new : List Bytes → Bytes → List Bytes
add_new l s = cond (is_in s l) l (l ++ (s ∷ []))

-- each of a list so, one after the other
unfoldable pub add_all : List Bytes → List Bytes → List Bytes
add_all l [] = l
add_all l (s ∷ ss) = add_all (add_new l s) ss
