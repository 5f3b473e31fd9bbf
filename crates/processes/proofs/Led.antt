-- Whether a port before is of a strategy like this one: laws as the needs ask them. Assumes nothing.
use Rattle.store.specs.declared.state.Few.{Few}
use Rattle.store.specs.declared.state.Isolation.{Isolation}
use Prim.Native.Nat.{ℕ, suc, ◌+◌, ◌-◌, ◌≤◌, ◌<◌}
use native.Mathlib.Omega.{arith}
use mathlib.Core.Path.{◌≡◌, refl, sym, ap, ◌∙◌}
use mathlib.Core.Bool.{Bool, true, false, ◌||◌}
use mathlib.Core.List.{List}
use borrow.Author.Rules.{rules}
use Rattle.text.specs.Ascii.{Bytes}
use Rattle.text.specs.Scan.{any}
use Rattle.model.specs.Records.{Isolation as Isolationʳ}
use Rattle.isolated.specs.Table.{port_row}
use Rattle.alike.specs.Strategies.{strategy_at, are_alike}
use Rattle.alike.specs.Ruled.{Ruled, row_small}
use Rattle.alike.specs.Numbers.{numbers_from, numbers_in}
use Rattle.processes.specs.Ports.{is_like}

-- the strategy of row k
pub number_small : (mem : Bytes) (t : Few Isolation) (ports : List ℕ) (n : ℕ) → Ruled mem t ports n → (k : ℕ) → k < n → (j : ℕ) → j ≡ (port_row ports k).strategy → j < 32
number_small mem t ports n r k h j e = rw e (r.strategies k h)

-- none of the first k is like it, nor is s
pub record Seeks (f : ℕ → Isolationʳ) (ports : List ℕ) (n i k s : ℕ) : Type 0 where
  pub before : k ≤ n
  pub unlike : s < 32 → are_alike (f i) (f s) ≡ false
  pub left : any (is_like f i) (numbers_in ports n) ≡ any (is_like f i) (numbers_from ports k (n - k))

pub seek_start : (f : ℕ → Isolationʳ) (ports : List ℕ) (n i : ℕ) → Seeks f ports n i 0 32
seek_start f ports n i = let z : n - 0 ≡ n = omega arith in record { before = omega arith; unlike = λ h. absurd (omega (arith, h)); left = rw z }

module _ (mem : Bytes) (t : Few Isolation) (ports : List ℕ) (n i k s : ℕ) (inv : Seeks (strategy_at mem t) ports n i k s) where
  pub seek_end : n ≤ k → false ≡ any (is_like (strategy_at mem t) i) (numbers_in ports n)
  unfolding any numbers_from
  seek_end h = let z : n - k ≡ 0 = omega arith in sym (inv.left ∙ rw z)

  module _ (h : k < n) (j : ℕ) (e : j ≡ (port_row ports k).strategy) (b : Bool) (g : b ≡ are_alike (strategy_at mem t i) (strategy_at mem t j)) where
    opened : any (is_like (strategy_at mem t) i) (numbers_in ports n) ≡ b || any (is_like (strategy_at mem t) i) (numbers_from ports (k + 1) (n - (k + 1)))
    unfolding any numbers_from
    opened = let z : n - k ≡ suc (n - (k + 1)) = omega arith in inv.left ∙ rw (z, g, e)

    pub seek_here : b ≡ true → true ≡ any (is_like (strategy_at mem t) i) (numbers_in ports n)
    seek_here d = sym (opened ∙ rw d)

    pub seek_on : b ≡ false → Seeks (strategy_at mem t) ports n i (k + 1) j
    seek_on d = record { before = omega arith; unlike = λ l. sym g ∙ d; left = opened ∙ rw d }

  pub seek_skip : (h : k < n) (j : ℕ) → j ≡ (port_row ports k).strategy → Ruled mem t ports n → j ≡ s → Seeks (strategy_at mem t) ports n i (k + 1) s
  seek_skip h j e r d =
      let l : s < 32 = rw d at (number_small mem t ports n r k h j e) in
      let g : false ≡ are_alike (strategy_at mem t i) (strategy_at mem t j) = sym (ap (λ (m : ℕ). are_alike (strategy_at mem t i) (strategy_at mem t m)) d ∙ inv.unlike l) in
      rw d at (seek_on h j e false g refl)

pub ruleset seeks = (rules, row_small, number_small, seek_end, seek_here, seek_on, seek_skip)
