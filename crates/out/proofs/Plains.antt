-- A scan for a brace that passes over several bytes at a time. Assumes nothing.
use mathlib.Core.Path.{◌≡◌}
use Prim.Native.Nat.{ℕ, ◌+◌, ◌<◌, ◌≤◌}
use native.Mathlib.Omega.{arith}
use mathlib.Core.Bool.{Bool, true, false, ◌&&◌}
use lib.ListN.{length, get_or}
use lib.Dec.{ltb}
use borrow.Author.Rules.{rules}
use borrow.Author.Tests.{ltb-true, ne_eqb}
use Rattle.text.specs.Ascii.{Bytes, byte}
use Rattle.text.specs.Scan.{Free}
use Rattle.text.specs.Scans.{free_one, free_and, free_found, free_on}
use Rattle.out.specs.Fill.{is_brace}

-- a byte before the braces in ASCII
abbrev low : Bytes → ℕ → Bool
low t i = ltb (get_or t i 0) (byte "{")

low_no : (b : ℕ) → ltb b (byte "{") ≡ true → is_brace b ≡ false
low_no b t = let h : b < 123 = ltb-true b 123 t in rw (ne_eqb b 123 (λ e. absurd (omega arith)), ne_eqb b 125 (λ e. absurd (omega arith)))

plain_here : (t : Bytes) (i : ℕ) → i < length t → Free is_brace t i 1 (low t i)
plain_here t i h = free_one is_brace t i (low t i) h (low_no (get_or t i 0))

plain_on : (t : Bytes) (i n : ℕ) (a : Bool) → i + n < length t → Free is_brace t i n a → Free is_brace t i (n + 1) (a && low t (i + n))
plain_on t i n a h f = free_and is_brace t i n 1 a (low t (i + n)) f (plain_here t (i + n) h)

pub plain_eight : (t : Bytes) (i : ℕ) → i + 8 ≤ length t → Free is_brace t i 8 (((((((low t i && low t (i + 1)) && low t (i + 2)) && low t (i + 3)) && low t (i + 4)) && low t (i + 5)) && low t (i + 6)) && low t (i + 7))
plain_eight t i h =
    plain_on t i 7 _ (omega arith) (plain_on t i 6 _ (omega arith) (plain_on t i 5 _ (omega arith) (plain_on t i 4 _ (omega arith)
    (plain_on t i 3 _ (omega arith) (plain_on t i 2 _ (omega arith) (plain_on t i 1 _ (omega arith) (plain_here t i (omega arith))))))))

pub ruleset plains = (rules, plain_eight, free_found, free_on)
