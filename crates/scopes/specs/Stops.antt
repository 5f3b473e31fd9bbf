-- Why a reading ends before its last command, as the number of the refusal. Assumes nothing.
use Rattle.std.specs.Prelude.{ℕ, ◌≡◌, refl, Bool, true, false, Option, None, Some, is_some}
use Rattle.std.proofs.Common.{arith, sym}
use Rattle.text.specs.Sames.{no_true}
use Rattle.scopes.specs.declared.go.Stop.{Stop}
use Rattle.scopes.specs.declared.go.Stop.TheVariants as stop

-- 8 too deep, 9 a file that is not listed, 10 past a reading limit
abbrev pub number_of : Stop → ℕ
number_of stop.TooDeep = 8
number_of stop.NotListed = 9
number_of stop.PastLimit = 10

-- 0 where there is none
abbrev pub tag_of : Option Stop → ℕ
tag_of None = 0
tag_of (Some x) = number_of x

-- no refusal has the number 0
pub numbered : (x : Stop) → number_of x ≡ 0 → ⊥
numbered stop.TooDeep e = absurd (omega (arith, e))
numbered stop.NotListed e = absurd (omega (arith, e))
numbered stop.PastLimit e = absurd (omega (arith, e))

pub stopped : (o : Option Stop) → is_some o ≡ true → tag_of o ≡ 0 → ⊥
stopped None e h = absurd (no_true e)
stopped (Some x) e h = numbered x h

pub not_stopped : (o : Option Stop) → is_some o ≡ false → tag_of o ≡ 0
not_stopped None e = refl
not_stopped (Some x) e = absurd (no_true (sym e))
