-- "A value used as a list is read again by these rules without variables, its commands run together." Assumes nothing.
use Rattle.std.specs.Prelude.{List, [], ◌∷◌, ◌++◌}
use Rattle.text.specs.Ascii.{Bytes}
use Rattle.tcl.specs.Words.{Word}
use Rattle.tcl.specs.Join.{join}
use Rattle.tcl.specs.Commands.{commands}
use Rattle.tcl.specs.Substitution.{values}

unfoldable pub together : List (List Word) → List Word
together [] = []
together (c ∷ cs) = c ++ together cs

abbrev pub list : Bytes → List Bytes
list v = values [] (together (commands (join v)))
