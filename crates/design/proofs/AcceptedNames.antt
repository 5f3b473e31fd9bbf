-- The names in the module lines of an accepted job are NAMEs: of its ports, declarations and instances. So none of them has a dot or is empty.
-- Assumes nothing.
use Rattle.std.specs.Prelude.{ℕ, zero, suc, ◌+◌, ◌<◌, ◌≡◌, refl, Bool, cond, ◌&&◌, leb, ltb, length, drop, option_map, Option, None, Some}
use Rattle.std.proofs.Common.{sym, subst, ⊎_elim, arith}
use Rattle.std.proofs.Math.Bool.{true, false, not}
use mathlib.Core.List.{List, [], ◌∷◌, ◌++◌, map}
use mathlib.Core.List.Memᴰ.{cases_cons}
use mathlib.Core.List.Memᴰ.{head as here}
use mathlib.Core.List.Memᴰ.{not-nil}
use mathlib.Core.List.Memᴰ.{tail as there}
use mathlib.Core.List.{Memᴰ as Mem}
use mathlib.Core.List.Memᴰ.{append_cases}
use mathlib.Core.List.Memᴰ.{eq_of_singleton as eq-single}
use Rattle.std.proofs.Math.ListN.{take}
use Prim.Native.String.{String}
use Rattle.text.specs.Ascii.{Bytes, byte, ascii}
use Rattle.text.specs.Classes.{is_ascii, opens_name, in_name}
use Rattle.text.specs.Compare.{same, starts_with}
use Rattle.text.specs.Numbers.{is_decimal, value_from}
use Rattle.text.specs.Scan.{all, any}
use Rattle.text.specs.Sames.{both, no_true}
use Rattle.fields.specs.Limits.{most_name, most_bytes, most_files, most_modules, most_ports, most_decls, most_insts, most_conns}
use Rattle.fields.specs.Fields.{Dir, Kind, Style, is_name, is_path, dir_of, dims_of, kind_of, style_of}
use Rattle.joblines.specs.Job.{File, Port, Decl, Conn, Inst, Module, Job, no_job}
use Rattle.joblines.specs.Lines.{Due, due_top, due_override, due_start, due_file, due_bytes, due_more, due_style, due_ports, due_decls, due_insts, due_nothing, Read, refuse, on, Checked, bad, good, check, and_then, checks, unlimited, any_value, when, keyed, on_last, with_files, with_modules, add_port, add_decl, with_insts, add_inst, add_conn, or_else, is_body, this_module, this_inst, fields, may_have, as_port, as_decl, as_inst}
use Rattle.joblines.specs.Lines.{top_line, override_line, start_line, file_read, file_line, bytes_line, module_read, module_line, style_line, port_of, port_line, decl_of, decl_line, inst_of, inst_read, inst_line, conn_of, conn_line, end_line, read_line}
use Rattle.joblines.specs.Parse.{Parsed, accepted, refused, is_nothing, has_line, first_line, behind_line, carry_on, lines, listed, parse}
use Rattle.design.specs.Ports.{losable}
use Rattle.design.specs.Losables.{losable_name}
use Rattle.design.specs.AcceptedNames.{Named, AllNamed, Plain}

-- ---- what is claimed

-- ---- a module with one line more

-- what holds of what is there, and of one more
module _ {A : Type 0} (P : A → Type 0) where
  snoc : (l : List A) (x : A) → ((a : A) → Mem a l → P a) → P x → (a : A) → Mem a (l ++ (x ∷ [])) → P a
  snoc l x h p a at = ⊎_elim (h a) (λ n. subst P (sym (eq-single n)) p) (append_cases l at)

  -- the last one changed
  last : (f : A → A) (l : List A) → ((a : A) → P a → P (f a)) → ((a : A) → Mem a l → P a) → (a : A) → Mem a (on_last f l) → P a
  last f [] step h a at = absurd (not-nil at)
  last f (x ∷ []) step h a at = subst P (sym (eq-single at)) (step x (h x (here refl)))
  last f (x ∷ y ∷ ys) step h a at =
      ⊎_elim (λ e. subst P (sym e) (h x (here refl))) (λ n. last f (y ∷ ys) step (λ b n. h b (there n)) a n) (cases_cons at)

with_port : (p : Port) → is_name p.name ≡ true → (m : Module) → Named m → Named (add_port p m)
with_port p ok m n = record { ports = snoc (λ (q : Port). is_name q.name ≡ true) m.ports p n.ports ok; decls = n.decls; insts = n.insts }

with_decl : (d : Decl) → is_name d.name ≡ true → (m : Module) → Named m → Named (add_decl d m)
with_decl d ok m n = record { ports = n.ports; decls = snoc (λ (e : Decl). is_name e.name ≡ true) m.decls d n.decls ok; insts = n.insts }

with_inst : (i : Inst) → is_name i.name ≡ true → (m : Module) → Named m → Named (add_inst i m)
with_inst i ok m n = record { ports = n.ports; decls = n.decls; insts = snoc (λ (k : Inst). is_name k.name ≡ true) m.insts i n.insts ok }

with_conn : (c : Conn) (m : Module) → Named m → Named (with_insts m (on_last (add_conn c) m.insts))
with_conn c m n =
    record { ports = n.ports; decls = n.decls; insts = last (λ (k : Inst). is_name k.name ≡ true) (add_conn c) m.insts (λ i h. h) n.insts }

new_module : (name : Bytes) (s : Style) → Named (record { name = name; style = s; ports = []; decls = []; insts = [] })
new_module name s = record { ports = λ p at. absurd (not-nil at); decls = λ d at. absurd (not-nil at); insts = λ i at. absurd (not-nil at) }

-- ---- a value that was taken is named

when_true : {A : Type 0} (b : Bool) (x : A) {a : A} → when b x ≡ Some a → (b ≡ true) × (x ≡ a)
when_true true x e = (refl, cc)
when_true false x e = let z : ◌≡◌ {A = ℕ} 0 1 = cc in absurd (omega arith)

pub no_some : {A : Type 0} {a : A} → ◌≡◌ {A = Option A} None (Some a) → ⊥
no_some e = let z : ◌≡◌ {A = ℕ} 0 1 = cc in absurd (omega arith)

port_named : (s : Style) (fs : List Bytes) {p : Port} → port_of s fs ≡ Some p → is_name p.name ≡ true
unfolding port_of
port_named s [] e = absurd (no_some e)
port_named s (d ∷ []) e = absurd (no_some e)
port_named s (d ∷ n ∷ []) {p} e = go (dir_of d) e
  where
    go : (o : Option Dir) → as_port s o n ≡ Some p → is_name p.name ≡ true
    go None e = absurd (no_some e)
    go (Some k) e =
        let r = when_true (may_have s k && is_name n) (record { dir = k; name = n }) e in
        subst (λ (q : Port). is_name q.name ≡ true) r.1 (both (may_have s k) (is_name n) r.0).1
port_named s (d ∷ n ∷ x ∷ fs) e = absurd (no_some e)

decl_named : (fs : List Bytes) {d : Decl} → decl_of fs ≡ Some d → is_name d.name ≡ true
unfolding decl_of
decl_named [] e = absurd (no_some e)
decl_named (k ∷ []) e = absurd (no_some e)
decl_named (k ∷ b ∷ []) e = absurd (no_some e)
decl_named (k ∷ b ∷ n ∷ []) {d} e = go (kind_of k) (dims_of b) e
  where
    go : (o : Option Kind) (u : Option Bool) → as_decl o u n ≡ Some d → is_name d.name ≡ true
    go None u e = absurd (no_some e)
    go (Some x) None e = absurd (no_some e)
    go (Some x) (Some y) e =
        let r = when_true (is_name n) (record { kind = x; dims = y; name = n }) e in
        subst (λ (q : Decl). is_name q.name ≡ true) r.1 r.0
decl_named (k ∷ b ∷ n ∷ x ∷ fs) e = absurd (no_some e)

inst_named : (fs : List Bytes) {i : Inst} → inst_of fs ≡ Some i → is_name i.name ≡ true
unfolding inst_of
inst_named [] e = absurd (no_some e)
inst_named (b ∷ []) e = absurd (no_some e)
inst_named (b ∷ n ∷ []) e = absurd (no_some e)
inst_named (b ∷ n ∷ m ∷ []) {i} e = go (dims_of b) e
  where
    go : (o : Option Bool) → as_inst o n m ≡ Some i → is_name i.name ≡ true
    go None e = absurd (no_some e)
    go (Some x) e =
        let r = when_true (is_name n && is_name m) (record { dims = x; name = n; type = m; conns = [] }) e in
        subst (λ (q : Inst). is_name q.name ≡ true) r.1 (both (is_name n) (is_name m) r.0).0
inst_named (b ∷ n ∷ m ∷ x ∷ fs) e = absurd (no_some e)

-- ---- a line leaves the names NAMEs

abbrev Fine : Read → Type 0
Fine (refuse n) = Unit {0}
Fine (on due j rest) = AllNamed j.modules

abbrev FineIf : Option Read → Type 0
FineIf None = Unit {0}
FineIf (Some r) = Fine r

module _ {A : Type 0} (key : String) (line : Bytes) (value : Bytes → Option A) (within : Bool) (new : A → Bool) (go : A → Read) (h : (v : Bytes) (a : A) → value v ≡ Some a → Fine (go a)) where
  checked_fine : (o : Option A) → ((a : A) → o ≡ Some a → Fine (go a)) → Fine (checks o within new go)
  checked_fine None g = tt
  checked_fine (Some a) g = by within (new a)
    where
      by : (w b : Bool) → Fine (and_then (cond w (cond b (good a) (bad 6)) (bad 5)) go)
      by true true = g a refl
      by true false = tt
      by false b = tt

  -- a kind that checks its value and goes on
  value_fine : FineIf (keyed key line λ v. checks (value v) within new go)
  value_fine = by (starts_with (ascii key) line) (drop (length (ascii key)) line)
    where
      by : (b : Bool) (v : Bytes) → FineIf (when b (checks (value v) within new go))
      by true v = checked_fine (value v) (h v)
      by false v = tt

  -- a kind that is read beside the names so far
  read_fine : FineIf (option_map (λ (r : Checked A). and_then r go) (keyed key line λ v. check (value v) within new))
  read_fine = by (starts_with (ascii key) line) (drop (length (ascii key)) line)
    where
      by : (b : Bool) (v : Bytes) → FineIf (option_map (λ (r : Checked A). and_then r go) (when b (check (value v) within new)))
      by true v = checked_fine (value v) (h v)
      by false v = tt

module _ (j : Job) (line rest : Bytes) (h : AllNamed j.modules) where
  top_fine : FineIf (top_line j line rest)
  unfolding top_line
  top_fine =
      value_fine "top=" line (λ v. when (is_name v) v) unlimited any_value
      (λ n. on due_override (record { top = n; override = j.override; start = j.start; files = j.files; modules = j.modules }) rest) (λ v n e. h)

  override_fine : FineIf (override_line j line rest)
  unfolding override_line
  override_fine = by (starts_with (ascii "override=") line) (drop (length (ascii "override=")) line)
    where
      by : (b : Bool) (v : Bytes) → FineIf (when b (on due_start (record { top = j.top; override = v; start = j.start; files = j.files; modules = j.modules }) rest))
      by true v = h
      by false v = tt

  start_fine : FineIf (start_line j line rest)
  unfolding start_line
  start_fine =
      value_fine "start=" line (λ v. when (is_path v) v) unlimited any_value
      (λ p. on due_file (record { top = j.top; override = j.override; start = p; files = j.files; modules = j.modules }) rest) (λ v p e. h)

  file_fine : FineIf (file_line j line rest)
  unfolding file_line file_read
  file_fine =
      let paths = map (λ (f : File). f.path) j.files in
      read_fine "file=" line (λ v. when (is_path v) v) (ltb (length paths) most_files) (λ p. not (any (λ q. same q p) paths)) (λ p. on (due_bytes p) j rest) (λ v p e. h)

  bytes_fine : (path : Bytes) → FineIf (bytes_line path j line rest)
  unfolding bytes_line
  bytes_fine path =
      value_fine "bytes=" line (λ v. when (is_decimal v && is_body (value_from 0 v) rest) (value_from 0 v)) unlimited any_value
      (λ n. on due_more (with_files j (j.files ++ (record { path = path; body = take n rest } ∷ []))) (drop (n + 1) rest)) (λ v n e. h)

  module_fine : FineIf (module_line j line rest)
  unfolding module_line module_read
  module_fine =
      let names = map (λ (m : Module). m.name) j.modules in
      read_fine "module=" line (λ v. when (is_name v) v) (ltb (length names) most_modules) (λ n. not (any (λ m. same m n) names)) (λ n. on (due_style n) j rest) (λ v n e. h)

  style_fine : (name : Bytes) → FineIf (style_line name j line rest)
  unfolding style_line
  style_fine name =
      value_fine "style=" line style_of unlimited any_value
      (λ s. on due_ports (with_modules j (j.modules ++ (record { name = name; style = s; ports = []; decls = []; insts = [] } ∷ []))) rest)
      (λ v s e. snoc Named j.modules (record { name = name; style = s; ports = []; decls = []; insts = [] }) h (new_module name s))

  port_fine : FineIf (port_line j line rest)
  unfolding port_line
  port_fine =
      value_fine "port=" line (λ v. port_of (this_module j).style (fields v)) (ltb (length (this_module j).ports) most_ports) any_value
      (λ p. on due_ports (with_modules j (on_last (add_port p) j.modules)) rest)
      (λ v p e. last Named (add_port p) j.modules (with_port p (port_named (this_module j).style (fields v) e)) h)

  decl_fine : FineIf (decl_line j line rest)
  unfolding decl_line
  decl_fine =
      value_fine "decl=" line (λ v. decl_of (fields v)) (ltb (length (this_module j).decls) most_decls) any_value
      (λ d. on due_decls (with_modules j (on_last (add_decl d) j.modules)) rest)
      (λ v d e. last Named (add_decl d) j.modules (with_decl d (decl_named (fields v) e)) h)

  inst_fine : FineIf (inst_line j line rest)
  unfolding inst_line inst_read
  inst_fine =
      let names = map (λ (k : Inst). k.name) (this_module j).insts in
      read_fine "inst=" line (λ v. inst_of (fields v)) (ltb (length names) most_insts) (λ i. not (any (λ n. same n i.name) names))
      (λ i. on due_insts (with_modules j (on_last (add_inst i) j.modules)) rest)
      (λ v i e. last Named (add_inst i) j.modules (with_inst i (inst_named (fields v) e)) h)

  conn_fine : FineIf (conn_line j line rest)
  unfolding conn_line
  conn_fine =
      value_fine "conn=" line (λ v. conn_of (fields v)) (ltb (length (this_inst j).conns) most_conns) any_value
      (λ c. on due_insts (with_modules j (on_last (λ m. with_insts m (on_last (add_conn c) m.insts)) j.modules)) rest)
      (λ v c e. last Named (λ m. with_insts m (on_last (add_conn c) m.insts)) j.modules (with_conn c) h)

  end_fine : FineIf (end_line j line rest)
  unfolding end_line
  end_fine = by (same line (ascii "end="))
    where
      by : (b : Bool) → FineIf (when b (on due_nothing j rest))
      by true = h
      by false = tt

-- ---- all lines

else_fine : (o : Option Read) (r : Read) → FineIf o → Fine r → Fine (or_else o r)
else_fine None r h g = g
else_fine (Some x) r h g = h

line_fine : (due : Due) (j : Job) (line rest : Bytes) → AllNamed j.modules → Fine (read_line due j line rest)
unfolding read_line
line_fine Due.due_top j line rest h = else_fine (top_line j line rest) _ (top_fine j line rest h) tt
line_fine Due.due_override j line rest h = else_fine (override_line j line rest) _ (override_fine j line rest h) tt
line_fine Due.due_start j line rest h = else_fine (start_line j line rest) _ (start_fine j line rest h) tt
line_fine Due.due_file j line rest h = else_fine (file_line j line rest) _ (file_fine j line rest h) tt
line_fine (Due.due_bytes p) j line rest h = else_fine (bytes_line p j line rest) _ (bytes_fine j line rest h p) tt
line_fine Due.due_more j line rest h =
    else_fine (file_line j line rest) _ (file_fine j line rest h) (else_fine (module_line j line rest) _ (module_fine j line rest h) tt)
line_fine (Due.due_style n) j line rest h = else_fine (style_line n j line rest) _ (style_fine j line rest h n) tt
line_fine Due.due_ports j line rest h =
    else_fine (port_line j line rest) _ (port_fine j line rest h)
    (else_fine (decl_line j line rest) _ (decl_fine j line rest h)
    (else_fine (inst_line j line rest) _ (inst_fine j line rest h)
    (else_fine (module_line j line rest) _ (module_fine j line rest h) (else_fine (end_line j line rest) _ (end_fine j line rest h) tt))))
line_fine Due.due_decls j line rest h =
    else_fine (decl_line j line rest) _ (decl_fine j line rest h)
    (else_fine (inst_line j line rest) _ (inst_fine j line rest h)
    (else_fine (module_line j line rest) _ (module_fine j line rest h) (else_fine (end_line j line rest) _ (end_fine j line rest h) tt)))
line_fine Due.due_insts j line rest h =
    else_fine (conn_line j line rest) _ (conn_fine j line rest h)
    (else_fine (inst_line j line rest) _ (inst_fine j line rest h)
    (else_fine (module_line j line rest) _ (module_fine j line rest h) (else_fine (end_line j line rest) _ (end_fine j line rest h) tt)))
line_fine Due.due_nothing j line rest h = tt

abbrev AllFine : Parsed → Type 0
AllFine (accepted j) = AllNamed j.modules
AllFine (refused x n) = Unit {0}

on_fine : (n : ℕ) (r : Read) (go : Due → Job → Bytes → Parsed) → Fine r → ((due : Due) (j : Job) (rest : Bytes) → AllNamed j.modules → AllFine (go due j rest)) → AllFine (carry_on n r go)
on_fine n (refuse x) go h step = tt
on_fine n (on due j rest) go h step = step due j rest h

lines_fine : (k n : ℕ) (due : Due) (j : Job) (rest : Bytes) → AllNamed j.modules → AllFine (lines k n due j rest)
unfolding lines
lines_fine zero n due j rest h = tt
lines_fine (suc k) n due j rest h = by (is_nothing due) (same rest []) (has_line rest) (on_fine n (read_line due j (first_line rest) (behind_line rest)) (lines k (n + 1)) (line_fine due j (first_line rest) (behind_line rest) h) (lines_fine k (n + 1)))
  where
    by : (a b c : Bool) → AllFine (carry_on n (read_line due j (first_line rest) (behind_line rest)) (lines k (n + 1))) → AllFine (cond a (cond b (accepted j) (refused 4 (n + 1))) (cond c (carry_on n (read_line due j (first_line rest) (behind_line rest)) (lines k (n + 1))) (refused 4 (n + 1))))
    by true true c g = h
    by true false c g = tt
    by false b true g = g
    by false b false g = tt

listed_fine : (r : Parsed) → AllFine r → AllFine (listed r)
listed_fine (refused x n) h = tt
listed_fine (accepted j) h = by (any (λ (f : File). same f.path j.start) j.files && any (λ (m : Module). same m.name j.top) j.modules)
  where
    by : (b : Bool) → AllFine (cond b (accepted j) (refused 7 0))
    by true = h
    by false = tt

parse_fine : (t : Bytes) → AllFine (parse t)
unfolding parse
parse_fine t = by (leb (length t) most_bytes) (all is_ascii t)
  where
    by : (a b : Bool) → AllFine (cond a (cond b (listed (lines (length t + 1) 0 due_top no_job t)) (refused 3 0)) (refused 2 0))
    by true true = listed_fine (lines (length t + 1) 0 due_top no_job t) (lines_fine (length t + 1) 0 due_top no_job t (λ m at. absurd (not-nil at)))
    by true false = tt
    by false b = tt

-- the names in the module lines of an accepted job are NAMEs
pub accepted_names : (t : Bytes) (j : Job) → parse t ≡ accepted j → AllNamed j.modules
accepted_names t j e = subst AllFine e (parse_fine t)

-- ---- a NAME has no dot and is not empty

no_dots : (s : Bytes) → all in_name s ≡ true → Mem (byte ".") s → ⊥
unfolding all
no_dots [] e at = not-nil at
no_dots (b ∷ s) e at =
    let h = both (in_name b) (all in_name s) e in
    ⊎_elim (λ d. no_true (subst (λ (x : ℕ). in_name x ≡ true) (sym d) h.0)) (λ n. no_dots s h.1 n) (cases_cons at)

pub name_dotless : (s : Bytes) → is_name s ≡ true → Mem (byte ".") s → ⊥
unfolding is_name
name_dotless [] e at = not-nil at
name_dotless (b ∷ s) e at =
    let h = both (opens_name b) (all in_name s && leb (length (b ∷ s)) most_name) e in
    let r = both (all in_name s) (leb (length (b ∷ s)) most_name) h.1 in
    ⊎_elim (λ d. no_true (subst (λ (x : ℕ). opens_name x ≡ true) (sym d) h.0)) (λ n. no_dots s r.0 n) (cases_cons at)

pub name_filled : (s : Bytes) → is_name s ≡ true → 0 < length s
unfolding is_name
name_filled [] e = absurd (no_true e)
name_filled (b ∷ s) e = omega arith

pub accepted_plain : (t : Bytes) (j : Job) → parse t ≡ accepted j → Plain j.modules
accepted_plain t j e =
    record {
      inst_dotless = λ m at i has. name_dotless i.name ((named m at).insts i has);
      inst_filled = λ m at i has. name_filled i.name ((named m at).insts i has);
      name_dotless = λ m at n has. name_dotless n (lost m at n has);
    }
  where
    named : AllNamed j.modules
    named = accepted_names t j e

    lost : (m : Module) → Mem m j.modules → (n : Bytes) → Mem n (losable m) → is_name n ≡ true
    lost m at n has =
        ⊎_elim (λ r. subst (λ (s : Bytes). is_name s ≡ true) (sym r.2) ((named m at).ports r.0 r.1))
        (λ r. subst (λ (s : Bytes). is_name s ≡ true) (sym r.2) ((named m at).decls r.0 r.1))
        (losable_name m n has)
