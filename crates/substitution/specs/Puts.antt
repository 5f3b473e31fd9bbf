-- Laws: what the answer of a write up to a limit says. Assumes nothing.
use Rattle.std.specs.Prelude.{Result, Ok, Err}
use Rattle.substitution.specs.declared.put.Full.{Full}
use Rattle.substitution.specs.Room.{full}
use Rattle.std.specs.Prelude.{◌+◌, ◌-◌, ◌<◌, ◌≤◌, ℕ, ◌≡◌, refl, List, Bool, cond, false, true, drop, length, leb}
use Rattle.std.proofs.Common.{◌∙◌, ap, sym, arith, drop-drop, le-leb, leb-false, leb-true}
use Rattle.std.proofs.lemmas.Bool.{lt-leb}
use Rattle.substitution.specs.Put.{Puts, answer}
use Rattle.spans.specs.Area.{Wrote}
use Rattle.spans.specs.Writes.{wrote_back, wrote_kept}

-- it is done, and ends within the limit
pub answer_done : (limit e r : ℕ) → Ok r ≡ answer limit e → (r ≡ e) × (e ≤ limit)
unfolding answer
answer_done limit e r g = go (leb e limit) refl g
  where
    go : (b : Bool) → leb e limit ≡ b → Ok r ≡ cond b (Ok e) (Err full) → (r ≡ e) × (e ≤ limit)
    go true t g = (cc, leb-true e limit t)
    go false t g = let z : ◌≡◌ {A = ℕ} 0 1 = cc in absurd (omega arith)

-- it would pass the limit
pub answer_full : (limit e : ℕ) → Err full ≡ answer limit e → limit < e
unfolding answer
answer_full limit e g = go (leb e limit) refl g
  where
    go : (b : Bool) → leb e limit ≡ b → Err full ≡ cond b (Ok e) (Err full) → limit < e
    go true t g = let z : ◌≡◌ {A = ℕ} 0 1 = cc in absurd (omega arith)
    go false t g = leb-false e limit t

module _ (l₀ l : List ℕ) (o limit : ℕ) (all : List ℕ) (p : Result ℕ Full) (w : Puts l₀ l o limit all p) where
  pub puts_ends : (r : ℕ) → p ≡ Ok r → r ≡ o + length all
  puts_ends r g = (answer_done limit (o + length all) r (sym g ∙ w.answered)).0

  pub puts_within : (r : ℕ) → p ≡ Ok r → r ≤ limit
  puts_within r g = let d = answer_done limit (o + length all) r (sym g ∙ w.answered) in omega (arith, d.0, d.1)

  pub puts_wrote : (r : ℕ) → p ≡ Ok r → Wrote l₀ l o all r
  puts_wrote r g = let d = answer_done limit (o + length all) r (sym g ∙ w.answered) in rw (← d.0) at (w.wrote d.1)

  pub puts_over : p ≡ Err full → limit < o + length all
  puts_over g = answer_full limit (o + length all) (sym g ∙ w.answered)

-- the two answers
pub puts_done : (l₀ l : List ℕ) (o limit : ℕ) (all : List ℕ) (r : ℕ) → Wrote l₀ l o all r → r ≤ limit → limit ≤ length l₀ → Puts l₀ l o limit all (Ok r)
unfolding answer
puts_done l₀ l o limit all r w h g =
    let m : o + length all ≤ limit = omega (arith, w.ends) in
    let k : r ≤ length l₀ = omega arith in
    let d : drop limit l ≡ drop limit l₀ =
    let q : r + (limit - r) ≡ limit = omega arith in
    sym (drop-drop (limit - r) r l ∙ rw q) ∙ ap (drop (limit - r)) (wrote_back l₀ l o all r w k) ∙ drop-drop (limit - r) r l₀ ∙ rw q in
    record { answered = rw (le-leb (o + length all) limit m) (ap Ok w.ends); wrote = λ z. rw (← w.ends) w; kept = wrote_kept l₀ l o all r w k; back = d }

pub puts_full : (l : List ℕ) (o limit : ℕ) (all : List ℕ) → limit < o + length all → Puts l l o limit all (Err full)
unfolding answer
puts_full l o limit all h =
    record { answered = rw (lt-leb (o + length all) limit h); wrote = λ z. absurd (omega arith); kept = refl; back = refl }
