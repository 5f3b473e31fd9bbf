-- The names of a table. Assumes nothing.
use Rattle.std.specs.Prelude.{List}
use Rattle.text.specs.Ascii.{Bytes}
use Rattle.nametable.specs.Table.{table_names}
use Rattle.text.specs.declared.part.Rows.{Rows}

-- the names of a table, read in the memory that they lie in
abbrev pub names_in : Bytes → Rows → List Bytes
names_in mem t = table_names mem t.rows.now t.n
