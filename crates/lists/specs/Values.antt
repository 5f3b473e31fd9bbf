-- The values that a command reads as lists, and that each is whole in the files or in the area. Assumes nothing.
use Rattle.std.specs.Prelude.{ℕ, ◌≤◌, ◌<◌, ◌^◌, List, [], ◌∷◌, ◌++◌, length, Option, None, Some}
use Rattle.text.specs.Ascii.{Bytes, ascii}
use Rattle.spans.specs.Span.{pairs}
use Rattle.spans.specs.Reach.{last_of, reach}
use Rattle.tcl.specs.Arguments.{option_of, states}
use Rattle.model.specs.Within.{state_values}

-- the words of a command lie in the files or in the area, each whole
pub record Whole (files area : Bytes) (words : List ℕ) (n : ℕ) : Type 0 where
  pub line : last_of (reach (length files)) (pairs words 0 n) ≤ length (files ++ area)
  pub small : length (files ++ area) < 2 ^ 32

-- the value of an option, one or none
abbrev pub optional : Option Bytes → List Bytes
optional None = []
optional (Some v) = v ∷ []

-- the values of a switch, in the order in which they are read; `line` has all words, `ws` those behind the name
abbrev pub switch_values : List Bytes → List Bytes → List Bytes
switch_values ws line =
    optional (option_of (ascii "-control_port") ws)
    ++ (state_values (states (ascii "-on_state") (ascii "-off_state") line)
    ++ (optional (option_of (ascii "-input_supply_port") ws) ++ optional (option_of (ascii "-output_supply_port") ws)))
