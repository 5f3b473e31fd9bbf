-- What a command that loads nothing asks. Assumes nothing.
use Rattle.std.specs.Prelude.{ℕ, ◌≤◌, ◌<◌, ◌≡◌, List}
use Rattle.text.specs.Ascii.{Bytes}
use Rattle.model.specs.Names.{command_named}
use Rattle.model.specs.Numbers.{named_by}
use Rattle.store.specs.declared.state.State.{State}
use Rattle.lists.specs.Values.{Whole}
use Rattle.held.specs.Held.{Held, Worded}
use Rattle.loads.specs.Steps.{line_at}

-- counting its entries: its words are whole in the files or in the area
pub record Lists (files area : Bytes) (words : List ℕ) (n before : ℕ) : Type 0 where
  pub whole : Whole files area words n
  pub named : 0 < n
  pub few : before ≤ 1024

-- carrying it out: c is the number of its name in the table, and its entries are counted
pub record Asks (files area nums words : List ℕ) (n c : ℕ) (s : State) : Type 0 where
  pub held : Held files area nums 1 s
  pub worded : Worded files words n s
  pub named : 0 < n
  pub few : n ≤ 128
  pub counted : s.count.commands ≤ 1024
  pub known : c ≤ 30
  pub no_load : c ≡ 2 → ⊥
  pub is : command_named (line_at files area words n s).name ≡ named_by c
