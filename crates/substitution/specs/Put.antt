-- What a write up to a limit leaves. Assumes nothing.
use Rattle.std.specs.Prelude.{Result, Ok, Err}
use Rattle.substitution.specs.declared.put.Full.{Full}
use Rattle.substitution.specs.Room.{full}
use Rattle.std.specs.Prelude.{◌+◌, ◌≤◌, ℕ, cond, List, ◌≡◌, leb, drop, length, take}
use Rattle.text.specs.Ascii.{Bytes}
use Rattle.spans.specs.Area.{Wrote}

-- the answer, where what is written would end at e
unfoldable pub answer : ℕ → ℕ → Result ℕ Full
answer limit e = cond (leb e limit) (Ok e) (Err full)

-- the area was l₀ and is l, after `all` was written from o on where it fits up to the limit; in any case nothing else is changed but between o and the limit
pub record Puts (l₀ l : List ℕ) (o limit : ℕ) (all : Bytes) (r : Result ℕ Full) : Type 0 where
  pub answered : r ≡ answer limit (o + length all)
  pub wrote : o + length all ≤ limit → Wrote l₀ l o all (o + length all)
  pub kept : take o l ≡ take o l₀
  pub back : drop limit l ≡ drop limit l₀
