-- Laws: the flag of a path that is added. Assumes nothing.
use Rattle.std.specs.Prelude.{ℕ, ◌+◌, ◌<◌, ◌≤◌, ◌≡◌, refl, false, List, [], ◌∷◌, ◌++◌, length, set, get_or}
use Rattle.std.proofs.Common.{ap, ◌∙◌, ⊎_elim, arith, length-set, get_or-set_same, get_or-set_other}
use mathlib.Core.List.Memᴰ.{append_cases}
use mathlib.Core.List.Memᴰ.{eq_of_singleton as eq-single}
use Rattle.text.specs.Ascii.{Bytes}
use Rattle.text.specs.Scan.{any}
use Rattle.design.specs.Lists.{is_in}
use Rattle.design.specs.Laws.{is_in_out, out_is_in}
use Rattle.walk.specs.Limits.{most_paths}
use Rattle.listing.specs.Listing.{flag_count, flag_place, Flagged}

pub flagged_none : (stamp : ℕ) (ends : List ℕ) → Flagged stamp ends []
unfolding any
flagged_none stamp ends p h = refl

pub flag_low : (p : Bytes) → flag_place p < most_paths + flag_count
flag_low p = omega arith

-- an end is stored and the flag of q is set
module _ (stamp : ℕ) (ends : List ℕ) (ps : List Bytes) (q : Bytes) (c x : ℕ) (old : Flagged stamp ends ps) (low : c < most_paths) (long : most_paths + flag_count ≤ length ends) where
  set_here : get_or (set (set ends c x) (flag_place q) stamp) (flag_place q) 0 ≡ stamp
  set_here = get_or-set_same (set ends c x) (flag_place q) stamp 0 (omega (arith, flag_low q, length-set ends c x))

  module _ (p : Bytes) (z : get_or (set (set ends c x) (flag_place q) stamp) (flag_place p) 0 ≡ stamp → ⊥) where
    apart : flag_place p ≡ flag_place q → ⊥
    apart e = z (ap (λ i. get_or (set (set ends c x) (flag_place q) stamp) i 0) e ∙ set_here)

    unset : get_or ends (flag_place p) 0 ≡ stamp → ⊥
    unset h = z (get_or-set_other (set ends c x) (flag_place q) (flag_place p) stamp 0 apart ∙ get_or-set_other ends c (flag_place p) x 0 (λ e. omega (arith, e)) ∙ h)

    out : is_in p (ps ++ (q ∷ [])) ≡ false
    out = out_is_in p (ps ++ (q ∷ [])) (λ m. ⊎_elim (is_in_out p ps (old p unset)) (λ k. apart (ap flag_place (eq-single k))) (append_cases ps m))

  pub flagged_on : Flagged stamp (set (set ends c x) (flag_place q) stamp) (ps ++ (q ∷ []))
  flagged_on p z = out p z
