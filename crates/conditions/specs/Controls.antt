-- The control ports of a switch in a table, ports and signals by turns; conditions look at the scope alone. Assumes nothing.
use Rattle.std.specs.Prelude.{ℕ, zero, suc, ◌≤◌, ◌≡◌, refl, Bool, true, false, cond, List, [], ◌∷◌, ◌++◌, eqb, Option, None, Some}
use Rattle.std.proofs.Common.{sym, ap, ap₂, ◌∙◌, arith}
use Rattle.text.specs.Ascii.{Bytes}
use Rattle.text.specs.Classes.{is_variable}
use Rattle.text.specs.Compare.{same}
use Rattle.tcl.specs.Rewrite.{rewrite}
use Rattle.joblines.specs.Lines.{no_module}
use Rattle.names.specs.Name.{name_of}
use Rattle.nametable.specs.Table.{row_name, table_names, names_from}
use Rattle.model.specs.Records.{Control, no_records}
use Rattle.model.specs.Commands.{controls_of}
use Rattle.texts.specs.Setting.{Setting, hier}
use Rattle.texts.specs.Switches.{signal_of, word_more, word_at, word_text, piece_text, condition, unless_known, unknowns}

-- a setting that has the scope's names alone
abbrev pub scope_setting : List Bytes → Setting
scope_setting scope = record { top = []; scope = scope; base = no_module; design = []; records = no_records }

-- ---- the signal of a control port, as it stands in the table: of two for one port the last counts
unfoldable pub last_signal : List Control → Bytes → Option Bytes → Option Bytes
last_signal [] port found = found
last_signal (c ∷ cs) port found = last_signal cs port (cond (same c.port port) (Some c.signal) found)

-- what a row stands for: row 0 has a port, and means none
abbrev pub signal_at : Bytes → List ℕ → ℕ → Option Bytes
signal_at mem table r = cond (eqb r 0) None (Some (name_of mem (row_name table r)))

pub record ControlSeen (mem : Bytes) (table : List ℕ) (n : ℕ) (port : Bytes) (r : ℕ) : Type 0 where
  pub says : signal_at mem table r ≡ last_signal (controls_of (table_names mem table n)) port None
  pub within : r ≤ 65536

abbrev pub hier_of : Setting → Option Bytes → Option Bytes
hier_of s None = None
hier_of s (Some t) = Some (hier s t)

pub signal_is : (s : Setting) (cs : List Control) (port : Bytes) (found : Option Bytes) → signal_of s cs port (hier_of s found) ≡ hier_of s (last_signal cs port found)
unfolding signal_of last_signal
signal_is s [] port found = refl
signal_is s (c ∷ cs) port found = ap (signal_of s cs port) (step (same c.port port)) ∙ signal_is s cs port (cond (same c.port port) (Some c.signal) found)
  where
    step : (b : Bool) → cond b (Some (hier s c.signal)) (hier_of s found) ≡ hier_of s (cond b (Some c.signal) found)
    step true = refl
    step false = refl

-- what the answer for a port says of its signal
pub seen_signal : (scope : List Bytes) (mem : Bytes) (table : List ℕ) (n : ℕ) (port : Bytes) (r : ℕ) → ControlSeen mem table n port r → signal_of (scope_setting scope) (controls_of (table_names mem table n)) port None ≡ hier_of (scope_setting scope) (signal_at mem table r)
seen_signal scope mem table n port r seen = signal_is (scope_setting scope) (controls_of (table_names mem table n)) port None ∙ ap (hier_of (scope_setting scope)) (sym seen.says)

-- ---- of every setting with that scope

signal_same : (s : Setting) (cs : List Control) (port : Bytes) (found : Option Bytes) → signal_of (scope_setting s.scope) cs port found ≡ signal_of s cs port found
unfolding signal_of
signal_same s [] port found = refl
signal_same s (c ∷ cs) port found = signal_same s cs port (cond (same c.port port) (Some (hier s c.signal)) found)

piece_same : (s : Setting) (cs : List Control) (t : Bytes) → piece_text (scope_setting s.scope) cs t ≡ piece_text s cs t
unfolding piece_text
piece_same s cs [] = refl
piece_same s cs (b ∷ t) = ap (λ (o : Option Bytes). cond (is_variable b) (word_text o (word_at (b ∷ t))) (b ∷ [])) (signal_same s cs (word_at (b ∷ t)) None)

rewrite_same : (more : Bytes → ℕ) (f g : Bytes → Bytes) → ((t : Bytes) → f t ≡ g t) → (k : ℕ) (t : Bytes) → rewrite more f k t ≡ rewrite more g k t
unfolding rewrite
rewrite_same more f g h k [] = refl
rewrite_same more f g h zero (x ∷ t) = ap₂ ◌++◌ (h (x ∷ t)) (rewrite_same more f g h (more (x ∷ t)) t)
rewrite_same more f g h (suc k) (x ∷ t) = rewrite_same more f g h k t

pub condition_same : (s : Setting) (cs : List Control) (e : Bytes) → condition (scope_setting s.scope) cs e ≡ condition s cs e
condition_same s cs e = rewrite_same word_more (piece_text (scope_setting s.scope) cs) (piece_text s cs) (piece_same s cs) 0 e

pub unknowns_same : (s : Setting) (cs : List Control) (k : ℕ) (e : Bytes) → unknowns (scope_setting s.scope) cs k e ≡ unknowns s cs k e
unfolding unknowns
unknowns_same s cs k [] = refl
unknowns_same s cs zero (b ∷ t) =
    ap₂ (λ (o : Option Bytes) (l : List Bytes). cond (is_variable b) (unless_known o (word_at (b ∷ t))) [] ++ l) (signal_same s cs (word_at (b ∷ t)) None) (unknowns_same s cs (word_more (b ∷ t)) t)
unknowns_same s cs (suc k) (b ∷ t) = unknowns_same s cs k t

-- less than a port and a signal is no control port
pub controls_few : (mem : Bytes) (table : List ℕ) (i k : ℕ) → k ≤ 1 → controls_of (names_from mem table i k) ≡ []
unfolding names_from
controls_few mem table i zero h = refl
controls_few mem table i (suc zero) h = refl
controls_few mem table i (suc (suc k)) h = absurd (omega arith)
