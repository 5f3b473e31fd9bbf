-- Laws: what a line that was taken says of its parts, and line kinds by what the line comes to.
-- Assumes nothing.
use Rattle.std.specs.Prelude.{◌≡◌, refl, ℕ, ◌<◌, Bool, true, false, cond, ◌&&◌, List, [], ◌∷◌, ◌++◌, length, take, drop, ltb, Option, None, Some, option_map, Ok, Err}
use Rattle.std.proofs.Common.{ap, ◌∙◌, arith}
use Rattle.std.proofs.Math.Path.{sym}
use Rattle.std.proofs.Math.Bool.{not, and-false, and-true}
use borrow.Author.Tests.{ltb-true}
use Rattle.text.specs.Ascii.{Bytes, ascii}
use Rattle.text.specs.Compare.{same, starts_with}
use Rattle.text.specs.Scan.{any}
use Rattle.text.specs.Sames.{same_eq}
use Rattle.fields.specs.Fields.{Dir, Style, ansi, dir_of, dims_of, is_name, is_path}
use Rattle.joblines.specs.Job.{Port, Decl, Conn, Inst, Job}
use Rattle.joblines.specs.Lines.{Checked, bad, good, check, and_then, on, due_ports, due_decls, due_insts, when, fields, may_have, as_port, port_of, port_line, decl_of, decl_line, as_inst, inst_of, inst_read, conn_of, conn_line, file_read, module_read, this_module, this_inst, with_modules, with_insts, on_last, last_or, add_port, add_decl, add_conn}
use Rattle.joblines.specs.Forms.{port_read, decl_read, conn_read, verdict}
use Rattle.joblines.specs.Sections.{port_here, decl_here, inst_here, conn_here}

-- ---- a line that is good: its key, its form, its limit, its newness
pub record Goods {A : Type 0} (s : Bool) (o : Option A) (w n : Bool) (a : A) : Type 0 where
  pub key : s ≡ true
  pub form : o ≡ Some a
  pub few : w ≡ true
  pub fresh : n ≡ true

pub read_good : {A : Type 0} (s : Bool) (o : Option A) (w : Bool) (new : A → Bool) (a : A) → when s (check o w new) ≡ Some (good a) → Goods s o w (new a) a
read_good false o w new a h = absurd (let z : ◌≡◌ {A = ℕ} 0 1 = cc in omega arith)
read_good true None w new a h = absurd (let z : ◌≡◌ {A = ℕ} 0 1 = cc in omega arith)
read_good true (Some b) false new a h = absurd (let z : ◌≡◌ {A = ℕ} 0 1 = cc in omega arith)
read_good true (Some b) true new a h = go (new b) refl h
  where
    go : (q : Bool) → new b ≡ q → Some (cond q (good b) (bad 6)) ≡ Some (good a) → Goods true (Some b) true (new a) a
    go false e g = absurd (let z : ◌≡◌ {A = ℕ} 0 1 = cc in omega arith)
    go true e g = let z : b ≡ a = cc in record { key = refl; form = ap Some z; few = refl; fresh = ap new (sym z) ∙ e }

pub when_is : {A : Type 0} (b : Bool) (v a : A) → when b v ≡ Some a → (b ≡ true) × (v ≡ a)
when_is false v a h = absurd (let z : ◌≡◌ {A = ℕ} 0 1 = cc in omega arith)
when_is true v a h = (refl, cc)

-- ---- from what the code sees of a line to what it comes to
module _ {A : Type 0} (r : Option (Checked A)) where
  pub was_other : Ok false ≡ verdict r → r ≡ None
  was_other h = go r h
    where
      go : (r : Option (Checked A)) → Ok false ≡ verdict r → r ≡ None
      go None h = refl
      go (Some (bad n)) h = absurd (let z : ◌≡◌ {A = ℕ} 0 1 = cc in omega arith)
      go (Some (good a)) h = absurd (let z : ◌≡◌ {A = ℕ} 0 1 = cc in omega arith)

  pub was_refused : (x : ℕ) → Err x ≡ verdict r → r ≡ Some (bad x)
  was_refused x h = go r h
    where
      go : (r : Option (Checked A)) → Err x ≡ verdict r → r ≡ Some (bad x)
      go None h = absurd (let z : ◌≡◌ {A = ℕ} 0 1 = cc in omega arith)
      go (Some (bad n)) h = let z : x ≡ n = cc in ap (λ m. Some (bad m)) (sym z)
      go (Some (good a)) h = absurd (let z : ◌≡◌ {A = ℕ} 0 1 = cc in omega arith)

  pub was_good : Ok true ≡ verdict r → (a : A) × (r ≡ Some (good a))
  was_good h = go r h
    where
      go : (r : Option (Checked A)) → Ok true ≡ verdict r → (a : A) × (r ≡ Some (good a))
      go None h = absurd (let z : ◌≡◌ {A = ℕ} 0 1 = cc in omega arith)
      go (Some (bad n)) h = absurd (let z : ◌≡◌ {A = ℕ} 0 1 = cc in omega arith)
      go (Some (good a)) h = (a, refl)

-- ---- the kinds without newness, by what the line comes to
pub map_when : {A B : Type 0} (g : A → B) (b : Bool) (x : A) → option_map g (when b x) ≡ when b (g x)
map_when g true x = refl
map_when g false x = refl

module _ (j : Job) (line rest : Bytes) where
  pub port_line_is : port_line j line rest ≡ option_map (λ (r : Checked Port). and_then r λ p. on due_ports (with_modules j (on_last (add_port p) j.modules)) rest) (port_read (this_module j).style (length (this_module j).ports) line)
  unfolding port_line port_read
  port_line_is = sym (map_when _ (starts_with (ascii "port=") line) _)

  pub decl_line_is : decl_line j line rest ≡ option_map (λ (r : Checked Decl). and_then r λ d. on due_decls (with_modules j (on_last (add_decl d) j.modules)) rest) (decl_read (length (this_module j).decls) line)
  unfolding decl_line decl_read
  decl_line_is = sym (map_when _ (starts_with (ascii "decl=") line) _)

  pub conn_line_is : conn_line j line rest ≡ option_map (λ (r : Checked Conn). and_then r λ c. on due_insts (with_modules j (on_last (λ m. with_insts m (on_last (add_conn c) m.insts)) j.modules)) rest) (conn_read (length (this_inst j).conns) line)
  unfolding conn_line conn_read
  conn_line_is = sym (map_when _ (starts_with (ascii "conn=") line) _)

-- ---- a line that was taken, as a line of its section
abbrev pub restrict : Style → Option Port → Option Port
restrict s None = None
restrict s (Some p) = when (may_have s p.dir) p

pub port_style : (s : Style) (fs : List Bytes) → port_of s fs ≡ restrict s (port_of ansi fs)
unfolding port_of
port_style s [] = refl
port_style s (d ∷ []) = refl
port_style s (d ∷ n ∷ []) = go (dir_of d) (is_name n) refl
  where
    go : (o : Option Dir) (q : Bool) → is_name n ≡ q → as_port s o n ≡ restrict s (as_port ansi o n)
    go None q e = refl
    go (Some d) true e = rw (e, and-true (may_have s d))
    go (Some d) false e = rw (e, and-false)
port_style s (d ∷ n ∷ e ∷ fs) = refl

restricted : (s : Style) (o : Option Port) (p : Port) → restrict s o ≡ Some p → o ≡ Some p
restricted s None p h = absurd (let z : ◌≡◌ {A = ℕ} 0 1 = cc in omega arith)
restricted s (Some q) p h = ap Some (when_is (may_have s q.dir) q p h).1

-- an instance has no connections before its `conn=` lines
pub inst_fresh : (fs : List Bytes) (i : Inst) → inst_of fs ≡ Some i → i.conns ≡ []
unfolding inst_of
inst_fresh [] i h = absurd (let z : ◌≡◌ {A = ℕ} 0 1 = cc in omega arith)
inst_fresh (d ∷ []) i h = absurd (let z : ◌≡◌ {A = ℕ} 0 1 = cc in omega arith)
inst_fresh (d ∷ n ∷ []) i h = absurd (let z : ◌≡◌ {A = ℕ} 0 1 = cc in omega arith)
inst_fresh (d ∷ n ∷ m ∷ []) i h = go (dims_of d) h
  where
    go : (o : Option Bool) → as_inst o n m ≡ Some i → i.conns ≡ []
    go None h = absurd (let z : ◌≡◌ {A = ℕ} 0 1 = cc in omega arith)
    go (Some b) h = sym (ap (λ (k : Inst). k.conns) (when_is (is_name n && is_name m) (record { dims = b; name = n; type = m; conns = [] }) i h).1)
inst_fresh (d ∷ n ∷ m ∷ e ∷ fs) i h = absurd (let z : ◌≡◌ {A = ℕ} 0 1 = cc in omega arith)

module _ (line : Bytes) where
  pub port_taken : (s : Style) (n : ℕ) (p : Port) → port_read s n line ≡ Some (good p) → (port_here line ≡ Some p) × (n < 64)
  unfolding port_read port_here
  port_taken s n p h =
      let g = read_good (starts_with (ascii "port=") line) (port_of s (fields (drop 5 line))) (ltb n 64) (λ _. true) p h in
      (rw g.key (restricted s (port_of ansi (fields (drop 5 line))) p (sym (port_style s (fields (drop 5 line))) ∙ g.form)), ltb-true n 64 g.few)

  pub decl_taken : (n : ℕ) (d : Decl) → decl_read n line ≡ Some (good d) → (decl_here line ≡ Some d) × (n < 128)
  unfolding decl_read decl_here
  decl_taken n d h =
      let g = read_good (starts_with (ascii "decl=") line) (decl_of (fields (drop 5 line))) (ltb n 128) (λ _. true) d h in
      (rw g.key g.form, ltb-true n 128 g.few)

  -- no line is both
  conn_not_inst : starts_with (ascii "conn=") line ≡ true → inst_here line ≡ None
  unfolding inst_here same
  conn_not_inst h = rw (same_eq (take 5 line) (ascii "conn=") h)

  pub conn_taken : (n : ℕ) (c : Conn) → conn_read n line ≡ Some (good c) → (inst_here line ≡ None) × ((conn_here line ≡ Some c) × (n < 64))
  unfolding conn_read conn_here
  conn_taken n c h =
      let g = read_good (starts_with (ascii "conn=") line) (conn_of (fields (drop 5 line))) (ltb n 64) (λ _. true) c h in
      (conn_not_inst g.key, (rw g.key g.form, ltb-true n 64 g.few))

  pub inst_taken : (names : List Bytes) (i : Inst) → inst_read names line ≡ Some (good i) → (inst_here line ≡ Some i) × ((i.conns ≡ []) × (length names < 64))
  unfolding inst_read inst_here
  inst_taken names i h =
      let g = read_good (starts_with (ascii "inst=") line) (inst_of (fields (drop 5 line))) (ltb (length names) 64) (λ k. not (any (λ n. same n k.name) names)) i h in
      (rw g.key g.form, (inst_fresh (fields (drop 5 line)) i g.form, ltb-true (length names) 64 g.few))

  pub file_taken : (paths : List Bytes) (p : Bytes) → file_read paths line ≡ Some (good p) → (p ≡ drop 5 line) × (length paths < 32)
  unfolding file_read
  file_taken paths p h =
      let g = read_good (starts_with (ascii "file=") line) (when (is_path (drop 5 line)) (drop 5 line)) (ltb (length paths) 32) (λ q. not (any (λ r. same r q) paths)) p h in
      (sym (when_is (is_path (drop 5 line)) (drop 5 line) p g.form).1, ltb-true (length paths) 32 g.few)

  pub module_taken : (names : List Bytes) (n : Bytes) → module_read names line ≡ Some (good n) → (n ≡ drop 7 line) × (length names < 128)
  unfolding module_read
  module_taken names n h =
      let g = read_good (starts_with (ascii "module=") line) (when (is_name (drop 7 line)) (drop 7 line)) (ltb (length names) 128) (λ q. not (any (λ r. same r q) names)) n h in
      (sym (when_is (is_name (drop 7 line)) (drop 7 line) n g.form).1, ltb-true (length names) 128 g.few)

-- ---- the last of a list
pub last_is : {A : Type 0} (z : A) (xs : List A) (x : A) → last_or z (xs ++ (x ∷ [])) ≡ x
last_is z [] x = refl
last_is z (y ∷ xs) x = last_is y xs x

pub on_last_lem : {A : Type 0} (f : A → A) (xs : List A) (x : A) → on_last f (xs ++ (x ∷ [])) ≡ xs ++ (f x ∷ [])
on_last_lem f [] x = refl
on_last_lem f (y ∷ []) x = refl
on_last_lem f (y ∷ z ∷ xs) x = ap (λ l. y ∷ l) (on_last_lem f (z ∷ xs) x)
