-- The scope's path, as texts are written below it. Assumes nothing.
use Rattle.std.specs.Prelude.{List}
use Rattle.text.specs.Ascii.{Bytes}
use Rattle.scope.specs.Parts.{parts}
use Rattle.scope.specs.declared.ScopePath.{ScopePath}

-- its parts
abbrev pub path_of : ScopePath → List Bytes
path_of s = parts s.over.now s.from
