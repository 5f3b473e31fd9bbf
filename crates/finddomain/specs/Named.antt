-- Stored records by their names. Assumes nothing.
use Rattle.std.specs.Prelude.{Bool}
use Rattle.text.specs.Ascii.{Bytes}
use Rattle.text.specs.Compare.{same}
use Rattle.store.specs.Strings.{string}
use Rattle.store.specs.declared.stored.Stored.{Stored}
use Rattle.store.specs.declared.state.Domain.{Domain}
use Rattle.store.specs.declared.state.Table.{Table}

-- the names of records
abbrev pub domain_name : Domain → Stored
domain_name d = d.name

abbrev pub table_name : Table → Stored
table_name t = t.name

-- whether a stored record, whose name f tells, has the name
abbrev pub has_name : {A : Type 0} → (A → Stored) → Bytes → Stored → A → Bool
has_name f mem name x = same (string mem (f x)) (string mem name)

-- whether a stored domain has the name
abbrev pub is_named : Bytes → Stored → Domain → Bool
is_named mem name d = has_name domain_name mem name d
