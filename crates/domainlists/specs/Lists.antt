-- The entries of stored retentions, what is asked of stored domains and retentions, and a table of names. Assumes nothing.
use Rattle.store.specs.declared.state.Few.{Few}
use Rattle.std.specs.Prelude.{ℕ, ◌≤◌, ◌<◌, ◌^◌, ◌≡◌, Bool, length, take}
use mathlib.Core.List.{List, ◌++◌, flat_map}
use Rattle.text.specs.Ascii.{Bytes}
use Rattle.text.specs.Compare.{same}
use Rattle.design.specs.Lists.{those}
use Rattle.nametable.specs.Table.{table_names}
use Rattle.store.specs.Strings.{string}
use Rattle.store.specs.View.{list_below, domain_of}
use Rattle.store.specs.Order.{of_domain, of_retention}
use Rattle.store.specs.declared.stored.Stored.{Stored}
use Rattle.store.specs.declared.state.Domain.{Domain}
use Rattle.store.specs.declared.state.Retention.{Retention}
use Rattle.made.specs.Made.{reach_of}
use Rattle.setting.specs.Orders.{Holds}

-- ---- the entries

abbrev pub entries_of : Bytes → Retention → List Bytes
entries_of mem x = list_below mem x.scope x.elements

-- of all retentions
abbrev pub all_entries : Bytes → Few Retention → List Bytes
all_entries mem t = flat_map (entries_of mem) (take t.n t.all)

-- of those of a domain
abbrev pub is_of : Bytes → Stored → Retention → Bool
is_of mem domain x = same (string mem x.domain) (string mem domain)

abbrev pub own_entries : Bytes → Few Retention → Stored → List Bytes
own_entries mem t domain = flat_map (entries_of mem) (those (is_of mem domain) (take t.n t.all))

-- ---- what is asked: strings that lie in the files or in the area, and room for the entries

pub record OfDomain (files area : Bytes) (d : Domain) (table : List ℕ) : Type 0 where
  pub small : length (files ++ area) < 2 ^ 32
  pub strings : of_domain (reach_of (length files)) d ≤ length (files ++ area)
  pub few : length (domain_of (files ++ area) d).elements ≤ 65
  pub room : 325 ≤ length table

pub record OfRetentions (files area : Bytes) (t : Few Retention) (table : List ℕ) : Type 0 where
  pub small : length (files ++ area) < 2 ^ 32
  pub holds : Holds (of_retention (reach_of (length files))) (length (files ++ area)) t.n t.all
  pub few : length (all_entries (files ++ area) t) ≤ 1024
  pub room : 5120 ≤ length table

-- ---- what is answered: a table of r names

pub record Names (mem : Bytes) (names : List Bytes) (table₀ table : List ℕ) (r : ℕ) : Type 0 where
  pub are : table_names mem table r ≡ names
  pub count : r ≡ length names
  pub long : length table ≡ length table₀
