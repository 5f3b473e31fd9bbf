-- The first place that passes a test, in the words of specs/Scan.antt. Assumes nothing.
use Rattle.std.specs.Prelude.{◌≡◌, refl, Bool, true, false, cond, List, ℕ, ◌+◌, ◌≤◌, length, drop, Option, Some, None, unwrap_or}
use Rattle.std.specs.List.{position_or_len}
use Rattle.std.proofs.Common.{sym, ap, ◌∙◌, arith, ltb, eq-eqb, ne_eqb, length-drop}
use Rattle.std.proofs.lemmas.Bool.Decides.{nat_tests}
use Rattle.std.proofs.lemmas.List.Recursion.{is_position_or_len}
use Rattle.std.proofs.lemmas.List.Sums.{position_or_len_is}
use Rattle.memchr.specs.Find.{IsFirstByte, is_byte}
use Rattle.text.specs.Scan.{before, is, up_to, Ends}
use Rattle.text.specs.Scans.{before_le}

module _ (p : ℕ → Bool) where
  before_is : (t : List ℕ) → before p t ≡ position_or_len p t
  unfolding before
  before_is = is_position_or_len (before p) p refl (λ x xs. ap (cond (p x) 0) (omega arith))

  -- what `position` found, as `position_from_yields_List` says it
  pub position_found : (t : List ℕ) (r : Option ℕ) → r ≡ cond (ltb (position_or_len p t) (length t)) (Some (position_or_len p t)) None → unwrap_or r (length t) ≡ before p t
  position_found t r h = rw (h, ← before_is t) (go (ltb (before p t) (length t)) refl)
    where
      go : (found : Bool) → ltb (before p t) (length t) ≡ found → unwrap_or (cond found (Some (before p t)) None) (length t) ≡ before p t
      go true e = refl
      go false e = grind (arith, nat_tests, before_le p t)

  -- a scan of t, which is s from `at` on
  pub ends_at : (at n m : ℕ) (s t : List ℕ) → at ≤ length s → t ≡ drop at s → n ≡ m → m ≡ before p t → Ends (at + before p (drop at s)) (length s) (at + n)
  ends_at at n m s t l e f g = record { is_at = rw (f, g, e); within = omega (arith, f, g, ap (before p) e, before_le p (drop at s), length-drop at s) }

-- what `memchr` found
pub memchr_found : (b : ℕ) (t : List ℕ) (r : Option ℕ) → IsFirstByte (is_byte b) t r → unwrap_or r (length t) ≡ up_to b t
memchr_found b t None h =
    sym (before_is (is b) t ∙ position_or_len_is (is b) t (length t) 0 (omega arith) (λ k l. ne_eqb _ b (λ e. h k (omega arith) l (eq-eqb _ b e))) (λ l. absurd (omega arith)))
memchr_found b t (Some n) h =
    let first = h.0 in
    let low = first.high in
    sym (before_is (is b) t ∙ position_or_len_is (is b) t n 0 (omega arith) (λ k l. ne_eqb _ b (λ e. first.before k (omega arith) l (eq-eqb _ b e))) (λ l. h.1))
