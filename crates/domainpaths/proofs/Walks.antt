-- The walk of a stored domain: laws as the needs ask them. Assumes nothing.
use Prim.Native.Nat.{ℕ, ◌+◌, ◌≤◌}
use mathlib.Core.Path.{◌≡◌}
use mathlib.Core.List.{List, [], ◌++◌}
use Rattle.std.specs.Prelude.{Ok}
use native.Mathlib.Omega.{arith}
use lib.Dec.{ltb}
use lib.ListN.{length, length-append}
use Rattle.text.specs.Ascii.{Bytes}
use Rattle.joblines.specs.Job.{Module}
use Rattle.nametable.specs.Table.{table_names}
use Rattle.walk.specs.Walk.{domain_list, domain_entered}
use Rattle.paths.specs.Pieces.{entries_below}
use Rattle.listing.specs.Listing.{Within, Listed}
use Rattle.listing.specs.declared.Walk.{Walk}
use Rattle.corrupt.specs.Corrupt.{DomainGiven}
use Rattle.store.specs.View.{domain_of}
use Rattle.store.specs.declared.state.Domain.{Domain}
use Rattle.domainlists.specs.Lists.{OfDomain, Names}
use Rattle.domainpaths.specs.Losses.{OfWalk, Full, Loses}

module _ (job : Bytes) (nums : List ℕ) (count k : ℕ) (table : List ℕ) (files area : Bytes) (kept : ℕ) (d : Domain) (prefix : ℕ) (tail text : Bytes) (ends : List ℕ) (g : OfWalk job nums count k table files area kept d prefix tail text ends) where
  pub walk_elements : (elements : List ℕ) → 325 ≤ length elements → OfDomain files area d elements
  walk_elements elements h = record { small = g.small; strings = g.strings; few = g.elements_few; room = h }

  pub walk_given : (elements elements' : List ℕ) (m : ℕ) → Names (files ++ area) (domain_of (files ++ area) d).elements elements elements' m → DomainGiven job nums count k table files area kept m prefix tail text ends
  walk_given elements elements' m ns =
      record {
        few = g.few;
        row = g.row;
        job_small = g.job_small;
        memory_small = omega (arith, g.small, length-append files area);
        entries_few = g.kept_few;
        elements_few = omega (arith, ns.count, g.elements_few);
        prefix_small = g.prefix_small;
        tail_long = g.tail_long;
        text_long = g.text_long;
        ends_long = g.ends_long;
        short = g.short;
        tabled = g.tabled;
      }

  pub walk_over : (mods : List Module) (base : Module) (entries : List Bytes) (elements elements' : List ℕ) (m : ℕ)
      → (Within prefix (domain_entered mods base [] (entries_below (ltb 0 prefix) entries) (table_names (files ++ area) elements' m)) (domain_list mods base [] (entries_below (ltb 0 prefix) entries) (table_names (files ++ area) elements' m)) → ⊥)
      → Names (files ++ area) (domain_of (files ++ area) d).elements elements elements' m
      → Full mods base (files ++ area) entries d prefix elements' (record { elements = m })
  walk_over mods base entries elements elements' m out ns =
      record { elements_are = ns.are; elements_few = omega (arith, ns.count, g.elements_few); over = rw ns.are at out }

  pub walk_loses : (mods : List Module) (base : Module) (entries : List Bytes) (elements elements' : List ℕ) (m : ℕ) (w : Walk) (text' : Bytes) (ends' : List ℕ)
      → Listed prefix (domain_entered mods base [] (entries_below (ltb 0 prefix) entries) (table_names (files ++ area) elements' m)) (domain_list mods base [] (entries_below (ltb 0 prefix) entries) (table_names (files ++ area) elements' m)) w text' ends'
      → Names (files ++ area) (domain_of (files ++ area) d).elements elements elements' m
      → Loses mods base (files ++ area) entries d prefix elements' text' ends' (Ok (record { walk = w; elements = m }))
  walk_loses mods base entries elements elements' m w text' ends' a ns =
      record { elements_are = ns.are; elements_few = omega (arith, ns.count, g.elements_few); listed = rw ns.are at a }
