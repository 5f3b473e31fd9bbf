-- Reading: the commands of the start file and of the files that it loads, carried out one after the other (document 01, "Files and commands"; check 6).
-- Assumes nothing.
use Rattle.std.specs.Prelude.{ℕ, zero, suc, ◌+◌, cond, List, [], ◌∷◌, length, Option, None, Some}
use Rattle.text.specs.Ascii.{Bytes, ascii}
use Rattle.text.specs.Compare.{same}
use Rattle.tcl.specs.Join.{join}
use Rattle.tcl.specs.Words.{Word}
use Rattle.tcl.specs.Commands.{commands}
use Rattle.tcl.specs.Substitution.{Variable, values, costs}
use Rattle.tcl.specs.Arguments.{option_of, name_of}
use Rattle.joblines.specs.Job.{File, Job}
use Rattle.model.specs.Limits.{most_depth}
use Rattle.model.specs.Records.{Model, no_records, with_scope, with_design_top}
use Rattle.model.specs.Scope.{below, up, entered}
use Rattle.model.specs.Names.{Named, command_named}
use Rattle.model.specs.Commands.{given, scope_command, carried_out, unsupported}
use Rattle.model.specs.Within.{Counted, nothing_counted, lists_by, entries_of, total, within}

-- what reading comes to: the records, and what has been counted; or a refusal, its number and the command's
pub data Reading : Type 0 where
  done : Counted → Model → Reading
  refused : ℕ → ℕ → Reading

-- a command's words: its name as written and the words behind it
pub record Line : Type 0 where
  pub name : Bytes
  pub rest : List Bytes

abbrev pub line_of : List Bytes → Line
line_of [] = record { name = []; rest = [] }
line_of (w ∷ ws) = record { name = w; rest = ws }

-- ---- what a command comes to before anything is loaded

-- `-scope` of a load moves the scope
abbrev pub entered_by : Option Bytes → Model → Model
entered_by None m = m
entered_by (Some s) m = with_scope m (entered m.scope s)

abbrev pub acts_by : Named → Model → Line → Model
acts_by Named.load_upf m l = entered_by (option_of (ascii "-scope") l.rest) m
acts_by Named.set_scope m l = scope_command m l.rest
acts_by (Named.other c) m l = carried_out c m l.name l.rest
acts_by Named.unknown m l = unsupported m l.name

-- the bytes of its scope count for `set_scope`, and for a load with `-scope`
abbrev pub scope_bytes : Option Bytes → Model → ℕ
scope_bytes None m = 0
scope_bytes (Some s) m = length m.scope

abbrev pub scopes_by : Named → Line → Model → ℕ
scopes_by Named.load_upf l m = scope_bytes (option_of (ascii "-scope") l.rest) m
scopes_by Named.set_scope l m = length m.scope
scopes_by (Named.other c) l m = 0
scopes_by Named.unknown l m = 0

-- what has been counted with this command: m is what it leaves
abbrev pub counted_by : Named → ℕ → Line → Counted → Model → Counted
counted_by c cost l n m =
    record {
      commands = n.commands + 1;
      substituted = n.substituted + cost;
      scopes = n.scopes + scopes_by c l m;
      entries = n.entries + total (entries_of (lists_by c l.name l.rest));
    }

-- ---- loading

-- "A path is joined to the directory of the loading file as text (an empty directory adds no slash)": the directory is what stands before the last `/`
abbrev pub joined_path : Bytes → Bytes → Bytes
joined_path loader name = below (up loader) name

-- behind a load the loader's scope, and its design top where it had one, are back
abbrev pub restored : Model → Reading → Reading
restored m (done n m') = done n (with_design_top (with_scope m' m.scope) (given m.design_top m'.design_top))
restored m (refused x k) = refused x k

-- ---- one command, of the file with this path: `load` reads a file

module _ (load : Bytes → Counted → Model → Reading) (path : Bytes) where
  -- m is what stood before the command, m' what it leaves
  abbrev pub afterwards : Named → Line → Model → Counted → Model → Reading
  afterwards Named.load_upf l m n m' = restored m (load (joined_path path (name_of l.rest)) n m')
  afterwards Named.set_scope l m n m' = done n m'
  afterwards (Named.other c) l m n m' = done n m'
  afterwards Named.unknown l m n m' = done n m'

  -- "within the reading limits? No: 10. For `load_upf`, is the new depth at most 16? No: 8. Is the joined path listed? No: 9."
  abbrev pub step : Named → ℕ → ℕ → Line → Counted → Model → Reading
  step c words cost l n m =
      cond (within words (entries_of (lists_by c l.name l.rest)) (counted_by c cost l n (acts_by c m l)) (acts_by c m l))
      (afterwards c l m (counted_by c cost l n (acts_by c m l)) (acts_by c m l))
      (refused 10 (n.commands + 1))

  -- a command's written words, substituted with the variables vs
  abbrev pub command : List Variable → List Word → Counted → Model → Reading
  command vs ws n m = step (command_named (line_of (values vs ws)).name) (length ws) (costs vs ws) (line_of (values vs ws)) n m

  abbrev pub go_on : Reading → (Counted → Model → Reading) → Reading
  go_on (done n m) go = go n m
  go_on (refused x k) go = refused x k

  -- command by command
  unfoldable pub read_commands : List Variable → List (List Word) → Counted → Model → Reading
  read_commands vs [] n m = done n m
  read_commands vs (c ∷ cs) n m = go_on (command vs c n m) (read_commands vs cs)

-- ---- a file

unfoldable pub file_named : List File → Bytes → Option Bytes
file_named [] path = None
file_named (f ∷ fs) path = cond (same f.path path) (Some f.body) (file_named fs path)

-- "All words of a file are substituted with the variables known when it was opened."
abbrev pub read_body : (Bytes → Counted → Model → Reading) → Bytes → Option Bytes → Counted → Model → Reading
read_body load path None n m = refused 9 n.commands
read_body load path (Some body) n m = read_commands load path m.variables (commands (join body)) n m

-- "reading a file and carrying out its load_upf lines call each other": `left` loads may still be nested
unfoldable pub read_file : List File → ℕ → Bytes → Counted → Model → Reading
read_file files zero path n m = read_body (λ p k r. refused 8 k.commands) path (file_named files path) n m
read_file files (suc left) path n m = read_body (read_file files left) path (file_named files path) n m

-- "The start file has depth 0"
abbrev pub reading : Job → Reading
reading j = read_file j.files most_depth j.start nothing_counted no_records
