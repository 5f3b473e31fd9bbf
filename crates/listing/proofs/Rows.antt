-- A row of the list told from a path by its last byte. Assumes nothing.
use Prim.Native.Nat.{ℕ, ◌+◌, ◌-◌, ◌<◌, ◌≤◌}
use mathlib.Core.Path.{◌≡◌, refl, sym, ap, ◌∙◌}
use mathlib.Core.Bool.{Bool, true, false, not}
use mathlib.Core.List.{List, ◌++◌, append_assoc}
use native.Mathlib.Omega.{arith}
use lib.Dec.{eqb, ltb}
use lib.ListN.{length, take, drop, get_or, length-append, length-drop}
use lib.Seq.{get_or-take, get_or-drop, get_or-append-add, length-take-le}
use borrow.Author.Rules.{rules}
use borrow.Author.Tests.{eqb-false, ltb-true, ltb-false}
use Rattle.text.specs.Ascii.{Bytes}
use Rattle.text.specs.Compare.{same}
use Rattle.text.specs.Sames.{no_true, same_eq}
use Rattle.jobindex.specs.Index.{section}
use Rattle.listing.specs.Listing.{Apart}

end_behind : (p name : Bytes) → (length name ≡ 0 → ⊥) → get_or (p ++ name) (length (p ++ name) - 1) 0 ≡ get_or name (length name - 1) 0
end_behind p name h =
    let a : length (p ++ name) - 1 ≡ length p + (length name - 1) = omega (arith, length-append p name) in
    rw a (get_or-append-add p name (length name - 1) 0)

end_row : (text : Bytes) (at end : ℕ) → at < end → end ≤ length text → get_or (section text at end) (length (section text at end) - 1) 0 ≡ get_or text (end - 1) 0
end_row text at end l f =
    let long : length (section text at end) ≡ end - at = length-take-le (end - at) (drop at text) (omega (arith, length-drop at text)) in
    let a : length (section text at end) - 1 ≡ end - at - 1 = omega (arith, long) in
    let b : end - at - 1 < end - at = omega arith in
    let c : at + (end - at - 1) ≡ end - 1 = omega arith in
    rw a (get_or-take (end - at) (drop at text) (end - at - 1) 0 b ∙ get_or-drop at text (end - at - 1) 0 ∙ ap (λ (n : ℕ). get_or text n 0) c)

pub apart_no : (last : ℕ) (text : Bytes) (end : ℕ) → Apart last text end false
apart_no last text end = record { is = λ e. absurd (no_true e) }

pub apart_ends : (last : ℕ) (text : Bytes) (end : ℕ) → (end ≡ 0 → ⊥) → end ≤ length text → Apart last text end (not (eqb (get_or text (end - 1) 0) last))
apart_ends last text end z f = go (eqb (get_or text (end - 1) 0) last) refl
  where
    -- a row that is empty is no path that has a last byte
    empty : (path : Bytes) (at : ℕ) → (length path ≡ 0 → ⊥) → end ≤ at → path ≡ section text at end → ⊥
    empty path at h l k = h (omega (arith, ap length k, length-take-le (end - at) (drop at text) (omega (arith, l))))

    full : eqb (get_or text (end - 1) 0) last ≡ false → (path : Bytes) (at : ℕ) → get_or path (length path - 1) 0 ≡ last → at < end → path ≡ section text at end → ⊥
    full e path at g l k = eqb-false _ _ e (sym (end_row text at end l f) ∙ (sym (ap (λ (s : Bytes). get_or s (length s - 1) 0) k) ∙ g))

    no : eqb (get_or text (end - 1) 0) last ≡ false → (path : Bytes) (at : ℕ) → (length path ≡ 0 → ⊥) → get_or path (length path - 1) 0 ≡ last → path ≡ section text at end → (b : Bool) → ltb at end ≡ b → ⊥
    no e path at h g k true l = full e path at g (ltb-true at end l) k
    no e path at h g k false l = empty path at h (ltb-false at end l) k

    other : eqb (get_or text (end - 1) 0) last ≡ false → (path : Bytes) (at : ℕ) → (length path ≡ 0 → ⊥) → get_or path (length path - 1) 0 ≡ last → (t : Bool) → same path (section text at end) ≡ t → false ≡ t
    other e path at h g false k = refl
    other e path at h g true k = absurd (no e path at h g (same_eq _ _ k) (ltb at end) refl)

    go : (b : Bool) → eqb (get_or text (end - 1) 0) last ≡ b → Apart last text end (not b)
    go true e = apart_no last text end
    go false e = record { is = λ _. λ path at h g. other e path at h g (same path (section text at end)) refl }

pub ruleset aparts = (rules, apart_no, apart_ends)

pub row_apart : (d tail name text : Bytes) (last at end : ℕ) (t : Bool) → last ≡ get_or name (length name - 1) 0 → (length name ≡ 0 → ⊥) → Apart last text end t → t ≡ true → false ≡ same (d ++ (tail ++ name)) (section text at end)
row_apart d tail name text last at end t f h a e =
    let path : Bytes = d ++ (tail ++ name) in
    let q : (d ++ tail) ++ name ≡ path = append_assoc d tail name in
    let long : length path ≡ length d + (length tail + length name) = length-append d (tail ++ name) ∙ omega (arith, length-append tail name) in
    a.is e path at (λ k. h (omega (arith, long, k))) (ap (λ (s : Bytes). get_or s (length s - 1) 0) (sym q) ∙ end_behind (d ++ tail) name h ∙ sym f)

pub ruleset rows = (rules, row_apart)
