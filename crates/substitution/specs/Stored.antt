-- How numbers stand for the variables: four each, the span of its name and the span of its value. Assumes nothing.
use Rattle.std.specs.Prelude.{◌*◌, ◌+◌, suc, zero, ℕ, List, [], ◌++◌, ◌∷◌}
use Rattle.spans.specs.declared.span.Span.{Span}
use Rattle.tcl.specs.Substitution.{Variable}
use Rattle.spans.specs.Span.{bytes, pair_at}
use Rattle.text.specs.Ascii.{Bytes}

abbrev pub name_at : List ℕ → ℕ → Span
name_at vars k = pair_at vars (2 * k)

abbrev pub value_at : List ℕ → ℕ → Span
value_at vars k = pair_at vars (2 * k + 1)

abbrev pub variable_at : Bytes → List ℕ → ℕ → Variable
variable_at mem vars k = record { name = bytes mem (name_at vars k); value = bytes mem (value_at vars k) }

-- the first n of them
unfoldable pub variables : Bytes → List ℕ → ℕ → List Variable
variables mem vars zero = []
variables mem vars (suc k) = variables mem vars k ++ (variable_at mem vars k ∷ [])
