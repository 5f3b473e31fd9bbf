-- `spans::area::append_own` meets its contract. Assumes nothing.
use Rattle.std.proofs.Common.{rules, ◌+◌, ◌-◌, ◌<◌, ◌≤◌, ◌≡◌, ℕ, suc, List, ◌∙◌, ap, sym, add-zero, arith, drop, get_or, length, set, take, get_or-take}
use Rattle.spans.specs.Writes.{Written, written_all, written_byte, written_kept, written_none}
use Rattle.text.specs.Lists.{here}
use Rattle.spans.specs.Area.{Wrote}
use Rattle.spans.proofs.area.append_own.Goals as goal

again-is : (l₀ l all : List ℕ) (a n i o : ℕ) → Written l₀ o all (take (n - i) (drop (a + i) l₀)) l (o + i) → i < n → a + n ≤ o → o + n ≤ length l₀ → Written l₀ o all (take (n - (i + 1)) (drop (a + (i + 1)) l₀)) (set l (o + i) (get_or l (a + i) 0)) (o + (i + 1))
again-is l₀ l all a n i o r h g m =
    let q : n - i ≡ suc (n - (i + 1)) = omega arith in
    let io : a + i < o = omega arith in
    let il : a + i < length l₀ = omega arith in
    let u : a + i + 1 ≡ a + (i + 1) = omega arith in
    let v : o + i + 1 ≡ o + (i + 1) = omega arith in
    let x : get_or l (a + i) 0 ≡ get_or l₀ (a + i) 0 = sym (get_or-take o l (a + i) 0 io) ∙ ap (λ (t : List ℕ). get_or t (a + i) 0) (written_kept l₀ o all (take (n - i) (drop (a + i) l₀)) l (o + i) r) ∙ get_or-take o l₀ (a + i) 0 io in
    rw (v, u) at (written_byte l₀ o all (get_or l (a + i) 0) (take (n - (i + 1)) (drop (a + i + 1) l₀)) l (o + i) (omega arith) (rw (q, here l₀ (a + i) il, ← x) at r))

end_is : (l₀ l all : List ℕ) (a n i o : ℕ) → Written l₀ o all (take (n - i) (drop (a + i) l₀)) l (o + i) → n ≤ i → i ≤ n → Wrote l₀ l o all (o + n)
end_is l₀ l all a n i o r h g =
    let q : n - i ≡ 0 = omega arith in
    let u : i ≡ n = omega arith in
    rw u at (written_all l₀ o all l (o + i) (rw q at r))

start_is : (l₀ : List ℕ) (a n o : ℕ) → o + n ≤ length l₀ → Written l₀ o (take n (drop a l₀)) (take (n - 0) (drop (a + 0) l₀)) l₀ (o + 0)
start_is l₀ a n o h =
    let z : n - 0 ≡ n = omega arith in
    rw (z, add-zero, add-zero) (written_none l₀ o (take n (drop a l₀)) (omega arith))

pub loop-i-init : goal.loop-i-init
loop-i-init c = search start_is

pub loop-i-preserved : goal.loop-i-preserved
loop-i-preserved c = search (rules, again-is)

pub returns : goal.returns
returns c = search end_is
