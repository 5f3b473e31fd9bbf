-- A command that only changes records: what it is told of the state, what it asks, and what it does. Assumes nothing.
use Rattle.store.specs.declared.state.Few.{Few}
use Rattle.store.specs.declared.stored.Below.{Below}
use Rattle.store.specs.declared.state.Domain.{Domain}
use Rattle.store.specs.declared.state.Isolation.{Isolation}
use Rattle.store.specs.declared.state.Table.{Table}
use Rattle.std.specs.Prelude.{ℕ, ◌≡◌, List, take}
use Rattle.text.specs.Ascii.{Bytes}
use Rattle.model.specs.Numbers.{named_by}
use Rattle.store.specs.declared.state.State.{State}
use Rattle.made.specs.declared.Brief.{Brief}
use Rattle.made.specs.declared.Deed.{Deed}
use Rattle.made.specs.Made.{done_by, Fits}
use Rattle.enter.specs.Entered.{Told}
use Rattle.held.specs.Held.{counted_of, model_at, Ran}
use Rattle.loads.specs.Steps.{acted, line_at}
use Rattle.plain.specs.Asks.{Asks}
use Rattle.plain.specs.Stores.{out_of}

-- there is a state of which it is told, with the area as far as it is used
pub record Acting (files area nums words : List ℕ) (n c k w : ℕ) (b : Brief) (domains : Few Domain) (nets : Few Below) (isolations : Few Isolation) (tables : Few Table) : Type 0 where
  pub state : State
  pub whole : Bytes
  pub told : Told b domains nets isolations tables state
  pub rows : state.fill.rows ≡ k
  pub warnings : state.fill.warnings ≡ w
  pub front : area ≡ take state.fill.end whole
  pub asks : Asks files whole nums words n c state
  pub no_puts : c ≡ 1 → ⊥
  pub no_scope : c ≡ 4 → ⊥

-- the deed is in its table, and carried out it is the command
pub record Acts (files area nums nums' words : List ℕ) (n c : ℕ) (s : State) (r : Deed) : Type 0 where
  pub fits : Fits s r
  pub ran : (log : Bytes) → Ran files area area nums nums' log log s (out_of (done_by s r)) (λ text. acted (named_by c) (line_at files area words n s) (counted_of s) (model_at files area nums s text))
