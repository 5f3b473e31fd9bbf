-- "0 means accepted": no refusal has the number 0, so an answer with the number 0 is four texts.
-- Assumes nothing.
use Rattle.std.specs.Prelude.{ℕ, zero, suc, ◌+◌, ◌<◌, ◌≡◌, refl, Bool, false, cond, ◌&&◌, leb, ltb, length, drop, option_map, Option, None, Some}
use native.Mathlib.Omega.{arith}
use Rattle.std.proofs.Math.Bool.{true, not}
use mathlib.Core.List.{List, [], ◌∷◌, ◌++◌, map}
use Rattle.std.proofs.Math.ListN.{take}
use Rattle.text.specs.Ascii.{Bytes, ascii}
use Rattle.text.specs.Compare.{same, starts_with}
use Rattle.text.specs.Scan.{all, any}
use Rattle.text.specs.Numbers.{is_decimal, value_from}
use Rattle.text.specs.Classes.{is_ascii}
use Rattle.fields.specs.Limits.{most_bytes, most_files, most_modules, most_ports, most_decls, most_insts, most_conns}
use Rattle.fields.specs.Fields.{Style, is_name, is_path, style_of}
use Rattle.tcl.specs.Join.{join}
use Rattle.tcl.specs.Words.{Word}
use Rattle.tcl.specs.Commands.{commands}
use Rattle.tcl.specs.Substitution.{Variable, values, costs}
use Rattle.tcl.specs.Arguments.{name_of}
use Rattle.joblines.specs.Job.{File, Port, Decl, Conn, Module, Inst, Job, no_job}
use Rattle.joblines.specs.Lines.{Due, Read, Checked, any_value, is_body, fields, this_module, this_inst, with_files, with_modules, on_last, add_port, add_decl, add_inst, add_conn, with_insts, port_of, decl_of, inst_of, conn_of, refuse, on, bad, good, check, and_then, when, first_of, or_else, read_line, top_line, override_line, start_line, file_read, file_line, bytes_line, module_read, module_line, style_line, port_line, decl_line, inst_read, inst_line, conn_line, end_line}
use Rattle.joblines.specs.Parse.{Parsed, carry_on, is_nothing, has_line, first_line, behind_line, lines, listed, parse}
use Rattle.design.specs.Lookup.{module_named, module_at}
use Rattle.design.specs.Limits.{most_calls}
use Rattle.design.specs.Search.{find_by_type, calls_made}
use Rattle.model.specs.Limits.{most_depth}
use Rattle.model.specs.Names.{Named, command_named}
use Rattle.model.specs.Records.{Model, no_records}
use Rattle.model.specs.Within.{Counted, nothing_counted, lists_by, entries_of, within}
use Rattle.read.specs.Reading.{Reading, acts_by, counted_by, step, Line, line_of, joined_path, afterwards, go_on, command, restored, read_commands, read_body, read_file, file_named, reading}
use Rattle.texts.specs.Scope.{Scope, Path, found_at, by_design_top, scope_path_of, existing, scope_along, scope_of}
use Rattle.texts.specs.Setting.{Setting}
use Rattle.texts.specs.Texts.{glue_of, package_of, report_of, fits}
use Rattle.signals.specs.Accepted.{Accepted, accepted_job}
use Rattle.answers.specs.Answer.{Lent, Answer, number, all_fit, in_scope, below_top, after_reading, after_parse, roomy, answer}

-- what holds of both ways of a case holds of the case
either : {A : Type 0} (P : A → Type 0) (b : Bool) (x y : A) → P x → P y → P (cond b x y)
either P true x y h g = h
either P false x y h g = g

-- ---- a line of the job
abbrev Fault : Read → Type 0
Fault (Read.refuse x) = 0 < x
Fault (Read.on d j rest) = Unit {0}

abbrev MaybeFault : Option Read → Type 0
MaybeFault None = Unit {0}
MaybeFault (Some r) = Fault r

within_fault : {A : Type 0} (a : A) (b c : Bool) (go : A → Read) → Fault (go a) → Fault (and_then (cond b (cond c (good a) (bad 6)) (bad 5)) go)
within_fault a true true go h = h
within_fault a true false go h = omega arith
within_fault a false c go h = omega arith

checked_fault : {A : Type 0} (a : Option A) (b : Bool) (new : A → Bool) (go : A → Read) → ((x : A) → Fault (go x)) → Fault (and_then (check a b new) go)
checked_fault None b new go h = omega arith
checked_fault (Some a) b new go h = within_fault a b (new a) go (h a)

when_fault : (b : Bool) (r : Read) → Fault r → MaybeFault (when b r)
when_fault true r h = h
when_fault false r h = tt

map_fault : {A : Type 0} (b : Bool) (a : Option A) (w : Bool) (new : A → Bool) (go : A → Read) → ((x : A) → Fault (go x)) → MaybeFault (option_map (λ (r : Checked A). and_then r go) (when b (check a w new)))
map_fault true a w new go h = checked_fault a w new go h
map_fault false a w new go h = tt

module _ (j : Job) (line rest : Bytes) where
  top_fault : MaybeFault (top_line j line rest)
  unfolding top_line
  top_fault =
      when_fault (starts_with (ascii "top=") line) _ (checked_fault {A = Bytes} (when (is_name (drop (length (ascii "top=")) line)) (drop (length (ascii "top=")) line)) true (any_value)
      (λ n. on Due.due_override (record { top = n; override = j.override; start = j.start; files = j.files; modules = j.modules }) rest) (λ x. tt {0}))

  override_fault : MaybeFault (override_line j line rest)
  unfolding override_line
  override_fault = when_fault (starts_with (ascii "override=") line) _ tt

  start_fault : MaybeFault (start_line j line rest)
  unfolding start_line
  start_fault =
      when_fault (starts_with (ascii "start=") line) _ (checked_fault {A = Bytes} (when (is_path (drop (length (ascii "start=")) line)) (drop (length (ascii "start=")) line)) true (any_value)
      (λ p. on Due.due_file (record { top = j.top; override = j.override; start = p; files = j.files; modules = j.modules }) rest) (λ x. tt {0}))

  file_fault : MaybeFault (file_line j line rest)
  unfolding file_line file_read
  file_fault =
      map_fault {A = Bytes} (starts_with (ascii "file=") line) (when (is_path (drop (length (ascii "file=")) line)) (drop (length (ascii "file=")) line)) (ltb (length (map (λ (f : File). f.path) j.files)) most_files) (λ p. not (any (λ q. same q p) (map (λ (f : File). f.path) j.files)))
      (λ p. on (Due.due_bytes p) j rest) (λ x. tt {0})

  bytes_fault : (p : Bytes) → MaybeFault (bytes_line p j line rest)
  unfolding bytes_line
  bytes_fault p =
      when_fault (starts_with (ascii "bytes=") line) _ (checked_fault {A = ℕ} (when (is_decimal (drop (length (ascii "bytes=")) line) && is_body (value_from 0 (drop (length (ascii "bytes=")) line)) rest) (value_from 0 (drop (length (ascii "bytes=")) line))) true (any_value)
      (λ n. on Due.due_more (with_files j (j.files ++ (record { path = p; body = take n rest } ∷ []))) (drop (n + 1) rest)) (λ x. tt {0}))

  module_fault : MaybeFault (module_line j line rest)
  unfolding module_line module_read
  module_fault =
      map_fault {A = Bytes} (starts_with (ascii "module=") line) (when (is_name (drop (length (ascii "module=")) line)) (drop (length (ascii "module=")) line)) (ltb (length (map (λ (m : Module). m.name) j.modules)) most_modules) (λ n. not (any (λ m. same m n) (map (λ (m : Module). m.name) j.modules)))
      (λ n. on (Due.due_style n) j rest) (λ x. tt {0})

  style_fault : (n : Bytes) → MaybeFault (style_line n j line rest)
  unfolding style_line
  style_fault n =
      when_fault (starts_with (ascii "style=") line) _ (checked_fault {A = Style} (style_of (drop (length (ascii "style=")) line)) true (any_value)
      (λ s. on Due.due_ports (with_modules j (j.modules ++ (record { name = n; style = s; ports = []; decls = []; insts = [] } ∷ []))) rest) (λ x. tt {0}))

  port_fault : MaybeFault (port_line j line rest)
  unfolding port_line
  port_fault =
      when_fault (starts_with (ascii "port=") line) _ (checked_fault {A = Port} (port_of (this_module j).style (fields (drop (length (ascii "port=")) line))) (ltb (length (this_module j).ports) most_ports) (any_value)
      (λ p. on Due.due_ports (with_modules j (on_last (add_port p) j.modules)) rest) (λ x. tt {0}))

  decl_fault : MaybeFault (decl_line j line rest)
  unfolding decl_line
  decl_fault =
      when_fault (starts_with (ascii "decl=") line) _ (checked_fault {A = Decl} (decl_of (fields (drop (length (ascii "decl=")) line))) (ltb (length (this_module j).decls) most_decls) (any_value)
      (λ d. on Due.due_decls (with_modules j (on_last (add_decl d) j.modules)) rest) (λ x. tt {0}))

  inst_fault : MaybeFault (inst_line j line rest)
  unfolding inst_line inst_read
  inst_fault =
      map_fault {A = Inst} (starts_with (ascii "inst=") line) (inst_of (fields (drop (length (ascii "inst=")) line))) (ltb (length (map (λ (k : Inst). k.name) (this_module j).insts)) most_insts) (λ i. not (any (λ n. same n i.name) (map (λ (k : Inst). k.name) (this_module j).insts)))
      (λ i. on Due.due_insts (with_modules j (on_last (add_inst i) j.modules)) rest) (λ x. tt {0})

  conn_fault : MaybeFault (conn_line j line rest)
  unfolding conn_line
  conn_fault =
      when_fault (starts_with (ascii "conn=") line) _ (checked_fault {A = Conn} (conn_of (fields (drop (length (ascii "conn=")) line))) (ltb (length (this_inst j).conns) most_conns) (any_value)
      (λ c. on Due.due_insts (with_modules j (on_last (λ m. with_insts m (on_last (add_conn c) m.insts)) j.modules)) rest) (λ x. tt {0}))

  end_fault : MaybeFault (end_line j line rest)
  unfolding end_line
  end_fault = when_fault (same line (ascii "end=")) _ tt

  else_fault : (a : Option Read) (r : Read) → MaybeFault a → Fault r → Fault (or_else a r)
  else_fault None r h g = g
  else_fault (Some a) r h g = h

  line_fault : (d : Due) → Fault (read_line d j line rest)
  unfolding read_line
  line_fault Due.due_top = else_fault (top_line j line rest) (refuse 4) top_fault (omega arith)
  line_fault Due.due_override = else_fault (override_line j line rest) (refuse 4) override_fault (omega arith)
  line_fault Due.due_start = else_fault (start_line j line rest) (refuse 4) start_fault (omega arith)
  line_fault Due.due_file = else_fault (file_line j line rest) (refuse 4) file_fault (omega arith)
  line_fault (Due.due_bytes p) = else_fault (bytes_line p j line rest) (refuse 4) (bytes_fault p) (omega arith)
  line_fault Due.due_more = else_fault (file_line j line rest) (first_of (module_line ∷ []) j line rest) file_fault (else_fault (module_line j line rest) (refuse 4) module_fault (omega arith))
  line_fault (Due.due_style n) = else_fault (style_line n j line rest) (refuse 4) (style_fault n) (omega arith)
  line_fault Due.due_ports = else_fault (port_line j line rest) (first_of (decl_line ∷ inst_line ∷ module_line ∷ end_line ∷ []) j line rest) port_fault (else_fault (decl_line j line rest) (first_of (inst_line ∷ module_line ∷ end_line ∷ []) j line rest) decl_fault (else_fault (inst_line j line rest) (first_of (module_line ∷ end_line ∷ []) j line rest) inst_fault (else_fault (module_line j line rest) (first_of (end_line ∷ []) j line rest) module_fault (else_fault (end_line j line rest) (refuse 4) end_fault (omega arith)))))
  line_fault Due.due_decls = else_fault (decl_line j line rest) (first_of (inst_line ∷ module_line ∷ end_line ∷ []) j line rest) decl_fault (else_fault (inst_line j line rest) (first_of (module_line ∷ end_line ∷ []) j line rest) inst_fault (else_fault (module_line j line rest) (first_of (end_line ∷ []) j line rest) module_fault (else_fault (end_line j line rest) (refuse 4) end_fault (omega arith))))
  line_fault Due.due_insts = else_fault (conn_line j line rest) (first_of (inst_line ∷ module_line ∷ end_line ∷ []) j line rest) conn_fault (else_fault (inst_line j line rest) (first_of (module_line ∷ end_line ∷ []) j line rest) inst_fault (else_fault (module_line j line rest) (first_of (end_line ∷ []) j line rest) module_fault (else_fault (end_line j line rest) (refuse 4) end_fault (omega arith))))
  line_fault Due.due_nothing = omega arith

-- ---- a job: checks 2 to 5
abbrev Unparsed : Parsed → Type 0
Unparsed (Parsed.accepted j) = Unit {0}
Unparsed (Parsed.refused x n) = 0 < x

carry_unparsed : (n : ℕ) (r : Read) (go : Due → Job → Bytes → Parsed) → Fault r → ((d : Due) (j : Job) (rest : Bytes) → Unparsed (go d j rest)) → Unparsed (carry_on n r go)
carry_unparsed n (Read.refuse x) go h g = h
carry_unparsed n (Read.on d j rest) go h g = g d j rest

lines_unparsed : (k n : ℕ) (d : Due) (j : Job) (rest : Bytes) → Unparsed (lines k n d j rest)
unfolding lines
lines_unparsed zero n d j rest = omega arith
lines_unparsed (suc k) n d j rest =
    either Unparsed (is_nothing d) _ _ (either Unparsed (same rest []) _ _ tt (omega arith))
    (either Unparsed (has_line rest) _ _ (carry_unparsed n (read_line d j (first_line rest) (behind_line rest)) (lines k (n + 1)) (line_fault j (first_line rest) (behind_line rest) d) (λ e i r. lines_unparsed k (n + 1) e i r)) (omega arith))

listed_unparsed : (p : Parsed) → Unparsed p → Unparsed (listed p)
listed_unparsed (Parsed.refused x n) h = h
listed_unparsed (Parsed.accepted j) h = either Unparsed (any (λ (f : File). same f.path j.start) j.files && any (λ (m : Module). same m.name j.top) j.modules) _ _ tt (omega arith)

job_unparsed : (t : Bytes) → Unparsed (parse t)
unfolding parse
job_unparsed t = either Unparsed (leb (length t) most_bytes) _ _ (either Unparsed (all is_ascii t) _ _ (listed_unparsed (lines (length t + 1) 0 Due.due_top no_job t) (lines_unparsed (length t + 1) 0 Due.due_top no_job t)) (omega arith)) (omega arith)

-- ---- its commands: check 6
abbrev Unread : Reading → Type 0
Unread (Reading.done n m) = Unit {0}
Unread (Reading.refused x k) = 0 < x

restored_unread : (m : Model) (r : Reading) → Unread r → Unread (restored m r)
restored_unread m (Reading.done n r) h = tt
restored_unread m (Reading.refused x k) h = h

module _ (load : Bytes → Counted → Model → Reading) (path : Bytes) (h : (p : Bytes) (n : Counted) (m : Model) → Unread (load p n m)) where
  after_unread : (c : Named) (l : Line) (m : Model) (n : Counted) (m' : Model) → Unread (afterwards load path c l m n m')
  after_unread Named.load_upf l m n m' = restored_unread m (load (joined_path path (name_of l.rest)) n m') (h _ n m')
  after_unread Named.set_scope l m n m' = tt
  after_unread (Named.other c) l m n m' = tt
  after_unread Named.unknown l m n m' = tt

  on_unread : (r : Reading) (go : Counted → Model → Reading) → Unread r → ((n : Counted) (m : Model) → Unread (go n m)) → Unread (go_on load path r go)
  on_unread (Reading.done n m) go g f = f n m
  on_unread (Reading.refused x k) go g f = g

  step_unread : (c : Named) (words cost : ℕ) (l : Line) (n : Counted) (m : Model) → Unread (step load path c words cost l n m)
  step_unread c words cost l n m =
      either Unread (within words (entries_of (lists_by c l.name l.rest)) (counted_by c cost l n (acts_by c m l)) (acts_by c m l)) _ _
      (after_unread c l m (counted_by c cost l n (acts_by c m l)) (acts_by c m l)) (omega arith)

  command_unread : (vs : List Variable) (ws : List Word) (n : Counted) (m : Model) → Unread (command load path vs ws n m)
  command_unread vs ws n m = step_unread (command_named (line_of (values vs ws)).name) (length ws) (costs vs ws) (line_of (values vs ws)) n m

  commands_unread : (vs : List Variable) (cs : List (List Word)) (n : Counted) (m : Model) → Unread (read_commands load path vs cs n m)
  unfolding read_commands
  commands_unread vs [] n m = tt
  commands_unread vs (c ∷ cs) n m = on_unread (command load path vs c n m) (read_commands load path vs cs) (command_unread vs c n m) (λ n m. commands_unread vs cs n m)

  body_unread : (b : Option Bytes) (n : Counted) (m : Model) → Unread (read_body load path b n m)
  body_unread None n m = omega arith
  body_unread (Some b) n m = commands_unread m.variables (commands (join b)) n m

file_unread : (files : List File) (left : ℕ) (path : Bytes) (n : Counted) (m : Model) → Unread (read_file files left path n m)
unfolding read_file
file_unread files zero path n m = body_unread _ path (λ p k r. omega arith) (file_named files path) n m
file_unread files (suc left) path n m = body_unread (read_file files left) path (λ p k r. file_unread files left p k r) (file_named files path) n m

-- ---- its scope: checks 7 and 8
abbrev Unscoped : Scope → Type 0
Unscoped (Scope.at path m) = Unit {0}
Unscoped (Scope.no_scope n) = 0 < n

abbrev Pathless : Path → Type 0
Pathless (Path.along ps) = Unit {0}
Pathless (Path.refused n) = 0 < n

found_pathless : (o : Option (List Bytes)) → Pathless (found_at o)
found_pathless None = omega arith
found_pathless (Some p) = tt

top_pathless : (d : List Module) (top : Module) (name : Bytes) (o : Option Bytes) → Pathless (by_design_top d top name o)
top_pathless d top name None = tt
top_pathless d top name (Some type) = either Pathless (same type name) _ _ tt (either Pathless (leb (calls_made d top type) most_calls) _ _ (found_pathless (find_by_type d top type)) (omega arith))

path_pathless : (j : Job) (top : Module) (o : Option Bytes) → Pathless (scope_path_of j top o)
path_pathless j top o = either Pathless (same j.override []) _ _ (top_pathless j.modules top j.top o) tt

existing_unscoped : (ps : List Bytes) (o : Option Module) → Unscoped (existing ps o)
existing_unscoped ps None = omega arith
existing_unscoped ps (Some m) = tt

along_unscoped : (d : List Module) (top : Module) (p : Path) → Pathless p → Unscoped (scope_along d top p)
along_unscoped d top (Path.along ps) h = existing_unscoped ps (module_at d top ps)
along_unscoped d top (Path.refused n) h = h

scope_unscoped : (j : Job) (top : Module) (o : Option Bytes) → Unscoped (scope_of j top o)
unfolding scope_of
scope_unscoped j top o = along_unscoped j.modules top (scope_path_of j top o) (path_pathless j top o)

-- ---- the answer
abbrev pub Numbered : Answer → Type 0
Numbered (Answer.texts g p r o) = Unit {0}
Numbered (Answer.refused x k) = 0 < x

module _ (l : Lent) where
  in_numbered : (j : Job) (m : Model) (s : Scope) → Unscoped s → Numbered (in_scope l j m s)
  in_numbered j m (Scope.at path base) h =
      let s : Setting = record { top = j.top; scope = path; base = base; design = j.modules; records = m } in
      either Numbered (fits s) _ _ (either Numbered (all_fit l (glue_of s) (package_of s) (report_of s) m.log) _ _ tt (omega arith)) (omega arith)
  in_numbered j m (Scope.no_scope n) h = h

  top_numbered : (j : Job) (m : Model) (o : Option Module) → Numbered (below_top l j m o)
  top_numbered j m None = omega arith
  top_numbered j m (Some top) = in_numbered j m (scope_of j top m.design_top) (scope_unscoped j top m.design_top)

  reading_numbered : (j : Job) (r : Reading) → Unread r → Numbered (after_reading l j r)
  reading_numbered j (Reading.done n m) h = top_numbered j m (module_named j.modules j.top)
  reading_numbered j (Reading.refused x k) h = h

  parse_numbered : (p : Parsed) → Unparsed p → Numbered (after_parse l p)
  parse_numbered (Parsed.accepted j) h = reading_numbered j (reading j) (file_unread j.files most_depth j.start nothing_counted no_records)
  parse_numbered (Parsed.refused x n) h = h

  -- THEOREM: a refusal has a number of its own
  pub refusals_numbered : (t : Bytes) → Numbered (answer l t)
  unfolding answer
  refusals_numbered t = either Numbered (roomy l) _ _ (parse_numbered (parse t) (job_unparsed t)) (omega arith)

-- an answer that is four texts
pub record Texts (a : Answer) : Type 0 where
  pub glue : Bytes
  pub pkg : Bytes
  pub report : Bytes
  pub log : Bytes
  pub is : a ≡ Answer.texts glue pkg report log

zero_texts : (a : Answer) → Numbered a → number a ≡ 0 → Texts a
zero_texts (Answer.texts g p r o) h e = record { glue = g; pkg = p; report = r; log = o; is = refl }
zero_texts (Answer.refused x k) h e = absurd (omega arith)

-- THEOREM: the number 0 comes with four texts
pub zero_accepted : (l : Lent) (t : Bytes) → number (answer l t) ≡ 0 → Texts (answer l t)
zero_accepted l t e = zero_texts (answer l t) (refusals_numbered l t) e

-- and the job is an accepted one, of which Signals.antt speaks
pub zero_job : (l : Lent) (t : Bytes) (e : number (answer l t) ≡ 0) → Accepted l t (zero_accepted l t e).glue (zero_accepted l t e).pkg (zero_accepted l t e).report (zero_accepted l t e).log
zero_job l t e = let x = zero_accepted l t e in accepted_job l t x.glue x.pkg x.report x.log x.is
