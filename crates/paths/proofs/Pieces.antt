-- A path compared piece by piece, from the back, and written. Assumes nothing.
use Prim.Native.Nat.{ℕ, ◌+◌, ◌<◌, ◌^◌}
use mathlib.Core.Path.{◌≡◌, refl, sym, ap, ◌∙◌}
use mathlib.Core.Bool.{Bool, true, false, not, ◌&&◌}
use mathlib.Core.List.{[], ◌∷◌, ◌++◌}
use native.Mathlib.Omega.{arith}
use lib.Dec.{eqb}
use lib.ListN.{length, take, drop, length-append, length-drop}
use lib.Seq.{drop-drop, take_all}
use borrow.Author.Rules.{rules}
use borrow.Author.Tests.{not-true, not-false}
use Rattle.text.specs.Ascii.{Bytes}
use Rattle.text.specs.Compare.{same}
use Rattle.text.specs.Sames.{differ}
use Rattle.out.specs.Emit.{Out, emit, emit_append}
use Rattle.out.specs.Bytewise.{dotted as Bytewise·dotted}
use Rattle.names.specs.Name.{name_of}
use Rattle.names.specs.Laws.{dotted_map}
use Rattle.names.specs.declared.name.Name.{Name}
use Rattle.design.specs.Paths.{dotted}
use Rattle.paths.specs.Pieces.{Sized}
use Rattle.walk.proofs.Retained.{length_dotted}

-- the same by a front and what is behind it
pub same_split : (a b r : Bytes) → same (a ++ b) r ≡ same a (take (length a) r) && same b (drop (length a) r)
unfolding same
same_split [] b r = refl
same_split (x ∷ a) b [] = refl
same_split (x ∷ a) b (y ∷ r) = go (eqb x y) (same_split a b r)
  where
    go : (t : Bool) → same (a ++ b) r ≡ same a (take (length a) r) && same b (drop (length a) r) → t && same (a ++ b) r ≡ (t && same a (take (length a) r)) && same b (drop (length a) r)
    go true e = e
    go false e = refl

and_right : (x y : Bool) → y ≡ false → false ≡ x && y
and_right true y e = sym e
and_right false y e = refl

module _ (mem : Bytes) (e : Name) (elen : ℕ) (tail name row : Bytes) (s : Sized mem e elen tail name) where
  pub at_fits : elen + length tail < 2 ^ 64
  at_fits = omega (arith, s.fits)

  pub end_fits : elen + length tail + length name < 2 ^ 64
  end_fits = omega (arith, s.fits)

  abbrev path : Bytes
  path = dotted (name_of mem e) ++ (tail ++ name)

  front : length (dotted (name_of mem e)) ≡ elen
  front = length_dotted (name_of mem e) ∙ sym s.is

  pub path_long : (length row ≡ elen + length tail + length name → ⊥) → false ≡ same path row
  path_long h = differ path row (λ z. h (omega (arith, sym z, length-append (dotted (name_of mem e)) (tail ++ name), length-append tail name, front)))

  module _ (l : length row ≡ elen + length tail + length name) where
    parts : same path row ≡ same (dotted (name_of mem e)) (take elen row) && (same tail (take (length tail) (drop elen row)) && same name (drop (elen + length tail) row))
    parts = same_split (dotted (name_of mem e)) (tail ++ name) row ∙ rw (front, same_split tail name (drop elen row), drop-drop (length tail) elen row)

    last : take (length name) (drop (elen + length tail) row) ≡ drop (elen + length tail) row
    last = take_all (length name) (drop (elen + length tail) row) (omega (arith, length-drop (elen + length tail) row))

    module _ (n : Bytes) (en : n ≡ take (length name) (drop (elen + length tail) row)) (b : Bool) (eb : b ≡ same name n) where
      name_test : same name (drop (elen + length tail) row) ≡ b
      name_test = sym (eb ∙ ap (same name) (en ∙ last))

      pub path_name : not b ≡ true → false ≡ same path row
      path_name h =
          and_right (same (dotted (name_of mem e)) (take elen row)) (same tail (take (length tail) (drop elen row)) && same name (drop (elen + length tail) row))
          (sym (and_right (same tail (take (length tail) (drop elen row))) (same name (drop (elen + length tail) row)) (name_test ∙ not-true b h)))
          ∙ sym parts

      module _ (h : not b ≡ false) (t : Bytes) (et : t ≡ take (length tail) (drop elen row)) (c : Bool) (ec : c ≡ same tail t) where
        tail_test : same tail (take (length tail) (drop elen row)) ≡ c
        tail_test = sym (ec ∙ ap (same tail) et)

        pub path_tail : not c ≡ true → false ≡ same path row
        path_tail g =
            let z : same tail (take (length tail) (drop elen row)) && same name (drop (elen + length tail) row) ≡ false = rw (tail_test, not-true c g) in
            and_right (same (dotted (name_of mem e)) (take elen row)) (same tail (take (length tail) (drop elen row)) && same name (drop (elen + length tail) row)) z ∙ sym parts

        pub path_front : not c ≡ false → (f : Bytes) → f ≡ take elen (drop 0 row) → (r : Bool) → r ≡ same (Bytewise·dotted (name_of mem e)) f → r ≡ same path row
        path_front g f ef r er =
            let z : same tail (take (length tail) (drop elen row)) && same name (drop (elen + length tail) row) ≡ true = rw (tail_test, not-false c g, name_test, not-false b h) in
            let k : r ≡ same (dotted (name_of mem e)) (take elen row) = er ∙ rw (dotted_map (name_of mem e), ef) in
            k ∙ sym (parts ∙ rw z (and_one_lem (same (dotted (name_of mem e)) (take elen row))))
          where
            and_one_lem : (x : Bool) → x && true ≡ x
            and_one_lem true = refl
            and_one_lem false = refl

pub ruleset sames = (rules, at_fits, end_fits, path_long, path_name, path_tail, path_front)

-- three writes, one behind the other
pub put_three : (w u v z : Out) (mem : Bytes) (e : Name) (t n : Bytes) → u ≡ emit w (Bytewise·dotted (name_of mem e)) → v ≡ emit u t → z ≡ emit v n → z ≡ emit w (dotted (name_of mem e) ++ (t ++ n))
put_three w u v z mem e t n eu ev ez = ez ∙ rw (ev, eu, dotted_map (name_of mem e), emit_append, emit_append)

pub ruleset writes = (rules, put_three)
