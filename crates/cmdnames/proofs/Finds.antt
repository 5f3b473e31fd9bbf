-- Laws: a word looked for among names. Assumes nothing.
use Rattle.std.specs.Prelude.{ℕ, suc, ◌≤◌, ◌≡◌, refl, Bool, true, false, cond, List, [], ◌∷◌, map, length, Option, Some, None, unwrap_or}
use Rattle.std.specs.List.{position_or_len}
use Rattle.std.proofs.Common.{arith, ap, ◌∙◌, ltb}
use Rattle.std.proofs.lemmas.Bool.Decides.{nat_tests}
use Rattle.std.proofs.lemmas.List.{length-map}
use Rattle.std.proofs.lemmas.List.Recursion.{is_position_or_len}
use Prim.Native.String.{String}
use Rattle.text.specs.Ascii.{Bytes, ascii}
use Rattle.text.specs.Compare.{same}
use Rattle.fields.specs.Fields.{among}
use Rattle.model.specs.Names.{Named, command_named, names, or_unknown}
use Rattle.model.specs.Numbers.{named_in, named_by}
use Rattle.cmdnames.specs.Table.{number_in, Numbered}

unfoldable pub firsts : List (String × Named) → List Bytes
firsts [] = []
firsts (x ∷ xs) = ascii x.0 ∷ firsts xs

-- what a list of names says is what the name with the word's number stands for
said : (xs : List (String × Named)) (w : Bytes) → or_unknown (among xs w) ≡ named_in xs (number_in (firsts xs) w)
unfolding firsts number_in
said [] w = refl
said (x ∷ xs) w = go (same w (ascii x.0)) (said xs w)
  where
    go : (t : Bool) → or_unknown (among xs w) ≡ named_in xs (number_in (firsts xs) w)
        → or_unknown (cond t (Some x.1) (among xs w)) ≡ named_in (x ∷ xs) (cond t 0 (suc (number_in (firsts xs) w)))
    go true e = refl
    go false e = e

named_is : (ns : List Bytes) (r : ℕ) (w : Bytes) → ns ≡ firsts names → r ≡ number_in ns w → command_named w ≡ named_by r
unfolding command_named
named_is ns r w e h = said names w ∙ rw (h, e)

-- no number is past the names
in_all : (ns : List Bytes) (w : Bytes) → number_in ns w ≤ length ns
unfolding number_in
in_all [] w = omega arith
in_all (x ∷ xs) w = go (same w x) (in_all xs w)
  where
    go : (t : Bool) → number_in xs w ≤ length xs → cond t 0 (suc (number_in xs w)) ≤ suc (length xs)
    go true e = omega arith
    go false e = omega arith

thirty : length (firsts names) ≡ 30
unfolding firsts
thirty = refl

number_is : (ns : List Bytes) (r : ℕ) (w : Bytes) → ns ≡ firsts names → r ≡ number_in ns w → Numbered w r
number_is ns r w e h = record { is = named_is ns r w e h; known = omega (arith, h, in_all ns w, ap length e, thirty) }

-- what `position` found among what stands for the names, or how many they are
module _ {A : Type 0} (f : A → Bytes) (w : Bytes) where
  first_is : (l : List A) → number_in (map f l) w ≡ position_or_len (λ x. same w (f x)) l
  unfolding number_in
  first_is = is_position_or_len (λ l. number_in (map f l) w) (λ x. same w (f x)) refl (λ x xs. ap (cond (same w (f x)) 0) (omega arith))

  found_le : (l : List A) → number_in (map f l) w ≤ length l
  found_le l = omega (arith, in_all (map f l) w, length-map l f)

  pub number_found : (s l : List A) → s ≡ l → (o : Option ℕ) (r n : ℕ) → map f l ≡ firsts names → length l ≡ n
      → o ≡ cond (ltb (position_or_len (λ x. same w (f x)) l) (length l)) (Some (position_or_len (λ x. same w (f x)) l)) None → r ≡ unwrap_or o n → Numbered w r
  number_found s l i o r n e q h k = number_is (map f l) r w e (rw (k, h, ← q, ← first_is l) (go (ltb (number_in (map f l) w) (length l)) refl))
    where
      go : (found : Bool) → ltb (number_in (map f l) w) (length l) ≡ found → unwrap_or (cond found (Some (number_in (map f l) w)) None) (length l) ≡ number_in (map f l) w
      go true g = refl
      go false g = grind (arith, nat_tests, found_le l)
