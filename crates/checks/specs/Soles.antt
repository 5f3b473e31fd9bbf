-- Which strategies are of a domain, as it is told of every name. Only proofs need it. Assumes nothing.
use Rattle.store.specs.declared.state.Few.{Few}
use Rattle.store.specs.declared.state.Isolation.{Isolation}
use Rattle.std.specs.Prelude.{◌≡◌, false, take}
use Rattle.text.specs.Ascii.{Bytes}
use Rattle.text.specs.Compare.{same}
use Rattle.text.specs.Scan.{any}
use Rattle.store.specs.Strings.{string}
use Rattle.store.specs.declared.stored.Stored.{Stored}
use Rattle.checks.specs.Sorted.{is_own}
use Rattle.checks.specs.declared.Sole.{Sole}
use Rattle.checks.specs.declared.Sole.TheVariants.{None, One, More}

-- none: no name is that of a strategy of the domain; one: just its name is; more: nothing is told
abbrev pub SoleIs : Bytes → Few Isolation → Stored → Sole → Type 0
SoleIs mem t domain None = (name : Bytes) → any (is_own mem name (string mem domain)) (take t.n t.all) ≡ false
SoleIs mem t domain (One m) = (name : Bytes) → any (is_own mem name (string mem domain)) (take t.n t.all) ≡ same (string mem m) name
SoleIs mem t domain More = Unit {0}

-- what was seen of the strategies of a domain
pub record SoleSeen (mem : Bytes) (t : Few Isolation) (domain : Stored) (r : Sole) : Type 0 where
  pub is : SoleIs mem t domain r
