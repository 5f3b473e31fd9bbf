-- A line in pieces. Assumes nothing.
use Rattle.std.specs.Prelude.{Bool, ◌&&◌}
use mathlib.Core.List.{List, [], ◌∷◌, ◌++◌}
use Rattle.text.specs.Ascii.{Bytes}
use Rattle.texts.specs.Domains.{Check}
use Rattle.texts.specs.ForceLines.{on_one_line}

-- the pieces of a line, and t behind them
abbrev pub written : List Bytes → Bytes → Bytes
written [] t = t
written (p ∷ ps) t = p ++ written ps t

abbrev pub line : List Bytes → Bytes
line ps = written ps []

-- the parts of a check have no LF
abbrev pub check_on_one_line : Check → Bool
check_on_one_line c = on_one_line c.signal && (on_one_line c.active && on_one_line c.strategy)
