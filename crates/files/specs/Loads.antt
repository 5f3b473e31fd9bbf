-- What a load asks that is to be carried out. Assumes nothing.
use Rattle.std.specs.Prelude.{ℕ, ◌≡◌, List}
use Rattle.spans.specs.Span.{bytes, pair_at}
use Rattle.model.specs.Names.{command_named}
use Rattle.model.specs.Numbers.{named_by}
use Rattle.store.specs.declared.state.State.{State}
use Rattle.held.specs.Held.{mem_of}
use Rattle.loads.specs.Steps.{Doing}

-- load_upf is number 2 of the table of names
pub record Loads (job files area nums words : List ℕ) (count n k left : ℕ) (s : State) : Type 0 where
  pub doing : Doing job files area nums words count n k left s
  pub is : command_named (bytes (mem_of files area s) (pair_at words 0)) ≡ named_by 2
