-- The command names by their numbers in the table. Assumes nothing.
use Rattle.std.specs.Prelude.{ℕ, zero, suc, List, [], ◌∷◌}
use Prim.Native.String.{String}
use Rattle.model.specs.Names.{Named, unknown, names}

-- what name k of the table stands for, from 0; no name past its end
abbrev pub named_in : List (String × Named) → ℕ → Named
named_in [] k = unknown
named_in (x ∷ xs) zero = x.1
named_in (x ∷ xs) (suc k) = named_in xs k

abbrev pub named_by : ℕ → Named
named_by k = named_in names k
