-- What the reading limits come to in the records: how many entries their lists have. Assumes nothing.
use Rattle.std.specs.Prelude.{ℕ, ◌≤◌, max, List, [], ◌∷◌, map, length}
use Rattle.model.specs.Records.{Domain, Switch, Isolation, Retention, TableState, Table, Model}
use Rattle.model.specs.Within.{total}
use Rattle.store.specs.Order.{Within}

-- the entries of all retentions
abbrev pub retained_entries : Model → ℕ
retained_entries m = total (map (λ (r : Retention). length r.elements) m.retentions)

-- the most values that a state of a table has
unfoldable pub most_values : List TableState → ℕ
most_values [] = 0
most_values (s ∷ ss) = max (length s.values) (most_values ss)

-- "a value read as a list 64 entries, all such values 1,024": `entries` of them have been read; a domain may have its scope as an element more
pub record Few (entries : ℕ) (m : Model) : Type 0 where
  pub domains : Within (λ (d : Domain). length d.elements) 65 m.domains
  pub switches : Within (λ (w : Switch). length w.controls) 32 m.switches
  pub isolations : Within (λ (i : Isolation). length i.elements) 64 m.isolations
  pub tables : Within (λ (t : Table). length t.supplies) 64 m.tables
  pub states : Within (λ (t : Table). most_values t.states) 64 m.tables
  pub retained : retained_entries m ≤ entries
