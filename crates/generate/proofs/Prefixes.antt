-- What the scope's path adds to each path: the bytes of each part, and one for each. Laws as the needs of `prefix` ask them. Assumes nothing.
use Rattle.std.specs.Prelude.{Option, Some, None}
use Prim.Native.Nat.{ℕ, suc, ◌+◌, ◌-◌, ◌≤◌, ◌<◌, ◌^◌}
use native.Mathlib.Omega.{arith}
use mathlib.Core.Path.{◌≡◌, refl, sym}
use mathlib.Core.Bool.{Bool, true, false, cond, not}
use mathlib.Core.List.{List, [], ◌∷◌, ◌++◌, map, flat_map}
use lib.Dec.{eqb}
use lib.ListN.{length, take, drop, length-append, length-map, length-drop}
use borrow.Author.Rules.{rules}
use Rattle.text.specs.Ascii.{Bytes, byte}
use Rattle.text.specs.Compare.{same}
use Rattle.text.specs.Scan.{split_at, onto}
use Rattle.design.specs.Lists.{those}
use Rattle.design.specs.Paths.{scope_path}
use Rattle.paths.specs.Pieces.{stem}
use Rattle.texts.specs.Scope.{slash_of}
use Rattle.scope.specs.Parts.{parts, PartSeen}
use Rattle.scope.specs.declared.PartAt.{PartAt}
use Rattle.generate.specs.Steps.{Prefixed}

-- the bytes of the parts, and one for each
unfoldable pub spread : List Bytes → ℕ
spread [] = 0
spread (p ∷ ps) = length p + 1 + spread ps

abbrev full : Bytes → Bool
full q = not (same q [])

led_spread : (ns : List Bytes) → length (flat_map (λ (m : Bytes). byte "." ∷ m) ns) ≡ spread ns
unfolding spread flat_map
led_spread [] = refl
led_spread (n ∷ ns) = omega (arith, length-append (byte "." ∷ n) (flat_map (λ (m : Bytes). byte "." ∷ m) ns), led_spread ns)

-- no part is empty, so there is a dot behind the last where there is one
stem_spread : (xs : List Bytes) → length (stem (scope_path (those full xs))) ≡ spread (those full xs)
unfolding spread those same
stem_spread [] = refl
stem_spread ([] ∷ xs) = stem_spread xs
stem_spread ((b ∷ x) ∷ xs) =
    omega (
      arith,
      length-append (b ∷ x ++ flat_map (λ (m : Bytes). byte "." ∷ m) (those full xs)) (byte "." ∷ []),
      length-append x (flat_map (λ (m : Bytes). byte "." ∷ m) (those full xs)),
      led_spread (those full xs),
    )

-- ---- no more than the override has

those_spread : (xs : List Bytes) → spread (those full xs) ≤ spread xs
unfolding spread those
those_spread [] = omega arith
those_spread (x ∷ xs) = go (full x) (those_spread xs)
  where
    go : (b : Bool) → spread (those full xs) ≤ spread xs → spread (cond b (x ∷ those full xs) (those full xs)) ≤ length x + 1 + spread xs
    go true h = omega arith
    go false h = omega arith

onto_spread : (x n : ℕ) (l : List Bytes) → spread l ≡ n + 1 → spread (onto x l) ≡ n + 2
unfolding spread
onto_spread x n [] h = absurd (omega arith)
onto_spread x n (p ∷ ps) h = omega arith

split_spread : (b : ℕ) (p : Bytes) → spread (split_at b p) ≡ length p + 1
unfolding spread split_at
split_spread b [] = refl
split_spread b (x ∷ p) = go (eqb x b) (split_spread b p)
  where
    go : (q : Bool) → spread (split_at b p) ≡ length p + 1 → spread (cond q ([] ∷ split_at b p) (onto x (split_at b p))) ≡ suc (length p) + 1
    go true h = omega arith
    go false h = omega (arith, onto_spread x (length p) (split_at b p) h)

module _ (path : Bytes) (from : ℕ) where
  parts_spread : length (stem (scope_path (parts path from))) ≡ spread (parts path from)
  parts_spread = stem_spread (split_at (byte "/") (map slash_of (drop from path)))

  parts_few : spread (parts path from) ≤ length path + 1
  parts_few =
      omega (
        arith,
        those_spread (split_at (byte "/") (map slash_of (drop from path))),
        split_spread (byte "/") (map slash_of (drop from path)),
        length-map (drop from path) slash_of,
        length-drop from path,
      )

-- ---- part by part: n bytes so far, the parts from i on are left

pub record Adding (path : Bytes) (from n i : ℕ) : Type 0 where
  pub keeps : n + spread (parts path i) ≡ spread (parts path from)

pub adding_start : (path : Bytes) (from : ℕ) → Adding path from 0 from
adding_start path from = record { keeps = omega arith }

module _ (path : Bytes) (i : ℕ) (r : Option PartAt) (seen : PartSeen path i r) where
  no_part : r ≡ None → parts path i ≡ []
  no_part h = rw h at (sym seen.says)

  module _ (q : PartAt) (h : r ≡ Some q) where
    one_part : parts path i ≡ take q.len (drop q.at path) ∷ parts path q.next
    one_part = rw h at (sym seen.says)

    ahead : (i < q.next) × (q.next ≤ length path)
    ahead = rw h at seen.goes

    pub part_less : length path - q.next < length path - i
    part_less = omega (arith, ahead.0, ahead.1)

  module _ (from n : ℕ) (inv : Adding path from n i) where
    pub adding_end : r ≡ None → length path ≤ 65536 → Prefixed path from n
    unfolding spread
    adding_end h g =
        let e : n + 0 ≡ spread (parts path from) = rw (no_part h) at inv.keeps in
        record { is = omega (arith, e, parts_spread path from); small = omega (arith, e, parts_few path from) }

    module _ (q : PartAt) (p : Bytes) (k : p ≡ take q.len (drop q.at path)) (h : r ≡ Some q) where
      spread_is : spread (parts path i) ≡ length p + 1 + spread (parts path q.next)
      unfolding spread
      spread_is = rw (one_part q h, k)

      pub adding_next : Adding path from (n + (length p + 1)) q.next
      adding_next = record { keeps = omega (arith, inv.keeps, spread_is) }

      pub adding_fits : length path ≤ 65536 → n + (length p + 1) < 2 ^ 64
      adding_fits g = omega (arith, inv.keeps, spread_is, parts_few path from)

pub ruleset adds = (rules, adding_start, part_less, adding_end, adding_next, adding_fits)
