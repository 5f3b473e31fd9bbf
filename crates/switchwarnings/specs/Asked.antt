-- What is asked of a switch and of the value of an on-state, to warn about it. Assumes nothing.
use Rattle.std.specs.Prelude.{ℕ, ◌≤◌, ◌^◌, List, length}
use Rattle.spans.specs.declared.span.Span.{Span}
use Rattle.listnames.specs.Lists.{Whole}
use Rattle.store.specs.declared.state.Switch.{Switch}
use Rattle.switches.specs.Asked.{OfNames}

-- `count` rows of a table have the control ports; n warnings have been written
pub record Reads (files area : List ℕ) (count : ℕ) (w : Switch) (v : Span) (n : ℕ) : Type 0 where
  pub names : OfNames files area w
  pub value : Whole (length files) v
  pub rows : count ≤ 65536
  pub low : n ≤ 2 ^ 60
