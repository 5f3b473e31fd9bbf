-- What is said of a sorted list of checks. Assumes nothing.
use Rattle.std.specs.Prelude.{◌≡◌, true, List, [], ◌∷◌}
use mathlib.Core.List.{Memᴰ as Mem}
use Rattle.texts.specs.Domains.{Check, earlier}

abbrev pub Ascending : List Check → Type 0
Ascending [] = Unit {0}
Ascending (a ∷ l) = ((b : Check) → Mem b l → earlier a b ≡ true) × Ascending l
