-- What create_power_switch and add_port_state ask and do, with the words of states that they put into the store. Assumes nothing.
use Rattle.std.specs.Prelude.{ℕ, ◌+◌, ◌-◌, ◌*◌, ◌≤◌, ◌≡◌, false, List, ◌++◌, map, length}
use Rattle.text.specs.Ascii.{Bytes, ascii}
use Rattle.spans.specs.Span.{◌⋯◌, bytes, pair_at, pairs}
use Rattle.spans.specs.Reach.{last_of}
use Rattle.spans.specs.declared.span.Span.{Span}
use Rattle.tcl.specs.Lists.{list}
use Rattle.tcl.specs.Arguments.{option_of, name_of, is_key}
use Rattle.args.specs.View.{words_from}
use Rattle.model.specs.Records.{Model}
use Rattle.model.specs.Commands.{option_list}
use Rattle.store.specs.Strings.{string, span_of, maybe_of}
use Rattle.store.specs.View.{Store, model_of}
use Rattle.store.specs.Order.{Within, of_switch}
use Rattle.store.specs.declared.stored.Stored.{Stored}
use Rattle.store.specs.declared.state.Switch.{Switch}
use Rattle.store.specs.declared.state.State.{State}
use Rattle.made.specs.declared.Brief.{Brief}
use Rattle.made.specs.declared.Deed.{Deed}
use Rattle.made.specs.Made.{Line, Ready, Did, words_set, brief_of, done_by, Fits}
use Rattle.statecmds.specs.Words.{words_put, worded}

-- the words put: they say these values, and are words of the command
pub record Puts (mem : Bytes) (words : List ℕ) (n : ℕ) (values : List Bytes) (nums nums' : List ℕ) (at end : ℕ) : Type 0 where
  pub put : List Stored
  pub becomes : nums' ≡ words_put nums at put
  pub ends : end ≡ at + length put
  pub is : map (string mem) put ≡ values
  pub within : (e : Span → ℕ) → e (0 ⋯ 0) ≡ 0 → Within (λ s. e (span_of s)) (last_of e (pairs words 0 n)) put

-- the switch that the words name, with its place among the words of the store
pub record SwitchIs (mem : Bytes) (words : List ℕ) (n : ℕ) (scope : Stored) (first mid end : ℕ) (r : Switch) : Type 0 where
  pub name : string mem r.name ≡ name_of (words_from mem words n 1)
  pub domain : maybe_of mem r.domain ≡ option_of (ascii "-domain") (words_from mem words n 1)
  pub below : r.scope ≡ scope
  pub input : list (string mem r.input) ≡ option_list "-input_supply_port" (words_from mem words n 1)
  pub output : list (string mem r.output) ≡ option_list "-output_supply_port" (words_from mem words n 1)
  pub controls : list (string mem r.controls) ≡ option_list "-control_port" (words_from mem words n 1)
  pub from : r.first ≡ first
  pub ons : r.ons ≡ mid - first
  pub offs : r.offs ≡ end - mid
  pub within : (e : Span → ℕ) → e (0 ⋯ 0) ≡ 0 → (m : ℕ) → e (span_of scope) ≤ m → last_of e (pairs words 0 n) ≤ m → of_switch (λ s. e (span_of s)) r ≤ m

-- what is asked: the command's name is not a key of states, so that a command has at most 63; that many words are kept for each switch and each port state
pub record WordRoom (one two mem : Bytes) (words : List ℕ) (n : ℕ) (nums : List ℕ) (b : Brief) : Type 0 where
  pub line : Line words n
  pub few : n ≤ 128
  pub named : is_key one two (bytes mem (pair_at words 0)) ≡ false
  pub long : 16384 ≤ length nums
  pub switches : b.switches ≤ 32
  pub portstates : b.portstates ≤ 32
  pub stored : b.words ≤ 63 * (b.switches + b.portstates)

-- what the deed does to a state, where these words are put: it is in its table, there is room for the words of the next one, and the command is carried out
pub record WordsDone (files area : Bytes) (words : List ℕ) (n : ℕ) (put : List Stored) (s : State) (r : Deed) (command : Model → Model) : Type 0 where
  pub fits : Fits s r
  pub stored : (done_by s r).state.fill.words ≤ 63 * ((done_by s r).state.switches.n + (done_by s r).state.portstates.n)
  pub did : (st : Store) (log : Bytes) → Ready (length files) (files ++ area) words n st s → Did (length files) (files ++ area) (worded st put) log (words_set s (s.fill.words + length put)) (done_by s r) (command (model_of (files ++ area) st s log))

-- what is done: words are put behind those of the store, no other number is changed, and with these words the command is carried out
pub record WordsDid (files area : Bytes) (words : List ℕ) (n : ℕ) (nums nums' : List ℕ) (b : Brief) (r : Deed) (command : Model → Model) : Type 0 where
  pub put : List Stored
  pub becomes : nums' ≡ words_put nums b.words put
  pub done : (s : State) → brief_of s ≡ b → WordsDone files area words n put s r command
