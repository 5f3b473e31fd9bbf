-- What is asked of a stored strategy and of its domain: strings that lie in the files or in the area, and few elements. Assumes nothing.
use Rattle.std.specs.Prelude.{◌+◌, ◌≤◌, ◌<◌, ◌^◌, ◌++◌, length}
use Rattle.text.specs.Ascii.{Bytes}
use Rattle.store.specs.View.{domain_of, isolation_of}
use Rattle.store.specs.Order.{of_domain, of_isolation}
use Rattle.store.specs.declared.state.Domain.{Domain}
use Rattle.store.specs.declared.state.Isolation.{Isolation}
use Rattle.made.specs.Made.{reach_of}

pub record OfOwn (files area : Bytes) (x : Isolation) : Type 0 where
  pub small : length (files ++ area) < 2 ^ 32
  pub strings : of_isolation (reach_of (length files)) x ≤ length (files ++ area)
  pub few : length (isolation_of (files ++ area) x).elements ≤ 64

-- and of its domain
pub record OfStrategy (files area : Bytes) (x : Isolation) (d : Domain) : Type 0 where
  pub own : OfOwn files area x
  pub domain : of_domain (reach_of (length files)) d ≤ length (files ++ area)
  pub domain_few : length (domain_of (files ++ area) d).elements ≤ 65
