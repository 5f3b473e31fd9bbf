-- Each line kind keeps a job good.
-- Assumes nothing.
use Rattle.std.specs.Prelude.{◌≡◌, ℕ, suc, ◌+◌, ◌<◌, Bool, false, cond, ◌&&◌, ◌||◌, ltb, option_map, Option, None, Some}
use Rattle.std.proofs.Math.Path.{refl, ap}
use Rattle.std.proofs.Common.{◌∙◌, sym, arith}
use Rattle.std.proofs.Math.Bool.{true, not}
use mathlib.Core.List.{List, [], ◌∷◌, ◌++◌, map, map-append}
use Rattle.std.proofs.Math.ListN.{length, take, drop, length-append, length-map}
use borrow.Author.Tests.{ltb-true, not-true}
use Rattle.text.specs.Ascii.{Bytes, ascii}
use Rattle.text.specs.Compare.{same, starts_with}
use Rattle.text.specs.Scan.{any}
use Rattle.text.specs.Numbers.{is_decimal, value_from}
use Rattle.text.specs.Sames.{both, no_true, same_eq, same_refl}
use Rattle.fields.specs.Fields.{Dir, Kind, Style, is_name, is_path, is_net, dir_of, kind_of, dims_of, style_of}
use Rattle.joblines.specs.Job.{File, Port, Decl, Conn, star, implicit, named, pos, Inst, Module, Job}
use Rattle.joblines.specs.Lines.{Checked, bad, good, check, and_then, Read, on, Due, due_top, due_override, due_start, due_file, due_bytes, due_more, due_style, due_ports, due_decls, due_insts, due_nothing, when, fields, may_have, as_port, port_of, as_decl, decl_of, as_inst, inst_of, conn_of, is_body, top_line, override_line, start_line, file_read, file_line, bytes_line, module_read, module_line, style_line, port_line, decl_line, inst_read, inst_line, conn_line, end_line, this_module, this_inst, with_files, with_modules, with_insts, on_last, last_or, no_module, no_inst, add_port, add_decl, add_inst, add_conn}
use Rattle.joblines.specs.Forms.{port_read, decl_read, conn_read}
use Rattle.joblines.specs.Reads.{read_good, when_is, map_when, port_line_is, decl_line_is, conn_line_is, inst_fresh}
use Rattle.jobfacts.specs.WellFormed.{All, distinct, GoodPort, GoodDecl, GoodConn, GoodInst, GoodModule, GoodFile, GoodLists}

-- ---- lists
all_more : {A : Type 0} (P : A → Type 0) (xs : List A) (x : A) → All P xs → P x → All P (xs ++ (x ∷ []))
all_more P [] x a p = (p, tt)
all_more P (y ∷ xs) x a p = (a.0, all_more P xs x a.1 p)

same_swap : (x y : Bytes) → same y x ≡ false → same x y ≡ false
same_swap x y h = go (same x y) refl
  where
    go : (q : Bool) → same x y ≡ q → q ≡ false
    go false e = refl
    go true e = absurd (no_true (sym h ∙ rw (same_eq x y e) (same_refl y)))

any_more : (t : Bytes → Bool) (xs : List Bytes) (x : Bytes) → any t xs ≡ false → t x ≡ false → any t (xs ++ (x ∷ [])) ≡ false
unfolding any
any_more t [] x a h = rw h
any_more t (y ∷ xs) x a h = go (t y) refl a (λ b. any_more t xs x b h)
  where
    go : (q : Bool) → t y ≡ q → (q || any t xs) ≡ false → (any t xs ≡ false → any t (xs ++ (x ∷ [])) ≡ false) → (q || any t (xs ++ (x ∷ []))) ≡ false
    go true e b f = absurd (no_true (sym b))
    go false e b f = f b

distinct_more : (xs : List Bytes) (x : Bytes) → distinct xs ≡ true → any (λ y. same y x) xs ≡ false → distinct (xs ++ (x ∷ [])) ≡ true
unfolding distinct any
distinct_more [] x d a = refl
distinct_more (y ∷ xs) x d a =
    let b = both (not (any (λ z. same z y) xs)) (distinct xs) d in
    let o = go (same y x) (any (λ z. same z x) xs) a in
    rw (any_more (λ z. same z y) xs x (not_not (any (λ z. same z y) xs) b.0) (same_swap x y o.0)) (distinct_more xs x b.1 o.1)
  where
    go : (p q : Bool) → (p || q) ≡ false → (p ≡ false) × (q ≡ false)
    go true q h = absurd (no_true (sym h))
    go false q h = (refl, h)

    not_not : (p : Bool) → not p ≡ true → p ≡ false
    not_not p h = not-true p h

-- the last is changed
on_last_all : {A : Type 0} (P : A → Type 0) (f : A → A) (z : A) (xs : List A) → All P xs → ((x : A) → x ≡ last_or z xs → P x → P (f x)) → All P (on_last f xs)
on_last_all P f z [] a h = tt
on_last_all P f z (x ∷ []) a h = (h x refl a.0, tt)
on_last_all P f z (x ∷ y ∷ xs) a h = (a.0, on_last_all P f x (y ∷ xs) a.1 h)

on_last_length : {A : Type 0} (f : A → A) (xs : List A) → length (on_last f xs) ≡ length xs
on_last_length f [] = refl
on_last_length f (x ∷ []) = refl
on_last_length f (x ∷ y ∷ xs) = ap suc (on_last_length f (y ∷ xs))

on_last_map : {A B : Type 0} (g : A → B) (f : A → A) → ((x : A) → g (f x) ≡ g x) → (xs : List A) → map g (on_last f xs) ≡ map g xs
on_last_map g f h [] = refl
on_last_map g f h (x ∷ []) = rw (h x)
on_last_map g f h (x ∷ y ∷ xs) = ap (λ l. g x ∷ l) (on_last_map g f h (y ∷ xs))

-- ---- what is due says what was read and is not in the job yet
abbrev pub Pending : Due → Job → Type 0
Pending due_top j = Unit {0}
Pending due_override j = Unit {0}
Pending due_start j = Unit {0}
Pending due_file j = Unit {0}
Pending (due_bytes p) j = (is_path p ≡ true) × ((length j.files < 32) × (any (λ q. same q p) (map (λ (f : File). f.path) j.files) ≡ false))
Pending due_more j = Unit {0}
Pending (due_style n) j = (is_name n ≡ true) × ((length j.modules < 128) × (any (λ q. same q n) (map (λ (m : Module). m.name) j.modules) ≡ false))
Pending due_ports j = Unit {0}
Pending due_decls j = Unit {0}
Pending due_insts j = Unit {0}
Pending due_nothing j = Unit {0}

-- a kind of line that goes on with a good job
abbrev pub Goes : Due → Job → Type 0
Goes d j = GoodLists j × Pending d j

-- ---- what a kind goes on with
module _ {A : Type 0} (go : A → Read) (d : Due) (j : Job) (rest : Bytes) where
  pub went_on : (R : Option (Checked A)) → option_map (λ (r : Checked A). and_then r go) R ≡ Some (on d j rest) → (a : A) × ((R ≡ Some (good a)) × (go a ≡ on d j rest))
  went_on None h = absurd (let z : ◌≡◌ {A = ℕ} 0 1 = cc in omega arith)
  went_on (Some (bad n)) h = absurd (let z : ◌≡◌ {A = ℕ} 0 1 = cc in omega arith)
  went_on (Some (good a)) h = (a, (refl, cc))

-- ---- names of forms
port_name : (s : Style) (fs : List Bytes) (p : Port) → port_of s fs ≡ Some p → is_name p.name ≡ true
unfolding port_of
port_name s [] p h = absurd (let z : ◌≡◌ {A = ℕ} 0 1 = cc in omega arith)
port_name s (d ∷ []) p h = absurd (let z : ◌≡◌ {A = ℕ} 0 1 = cc in omega arith)
port_name s (d ∷ n ∷ []) p h = go (dir_of d) h
  where
    go : (o : Option Dir) → as_port s o n ≡ Some p → is_name p.name ≡ true
    go None g = absurd (let z : ◌≡◌ {A = ℕ} 0 1 = cc in omega arith)
    go (Some d) g =
        let w = when_is (may_have s d && is_name n) (record { dir = d; name = n }) p g in
        ap (λ (q : Port). is_name q.name) (sym w.1) ∙ (both (may_have s d) (is_name n) w.0).1
port_name s (d ∷ n ∷ e ∷ fs) p h = absurd (let z : ◌≡◌ {A = ℕ} 0 1 = cc in omega arith)

decl_name : (fs : List Bytes) (d : Decl) → decl_of fs ≡ Some d → is_name d.name ≡ true
unfolding decl_of
decl_name [] d h = absurd (let z : ◌≡◌ {A = ℕ} 0 1 = cc in omega arith)
decl_name (k ∷ []) d h = absurd (let z : ◌≡◌ {A = ℕ} 0 1 = cc in omega arith)
decl_name (k ∷ a ∷ []) d h = absurd (let z : ◌≡◌ {A = ℕ} 0 1 = cc in omega arith)
decl_name (k ∷ a ∷ n ∷ []) d h = go (kind_of k) (dims_of a) h
  where
    go : (o : Option Kind) (p : Option Bool) → as_decl o p n ≡ Some d → is_name d.name ≡ true
    go None p g = absurd (let z : ◌≡◌ {A = ℕ} 0 1 = cc in omega arith)
    go (Some k) None g = absurd (let z : ◌≡◌ {A = ℕ} 0 1 = cc in omega arith)
    go (Some k) (Some b) g =
        let w = when_is (is_name n) (record { kind = k; dims = b; name = n }) d g in
        ap (λ (q : Decl). is_name q.name) (sym w.1) ∙ w.0
decl_name (k ∷ a ∷ n ∷ e ∷ fs) d h = absurd (let z : ◌≡◌ {A = ℕ} 0 1 = cc in omega arith)

inst_names : (fs : List Bytes) (i : Inst) → inst_of fs ≡ Some i → (is_name i.name ≡ true) × (is_name i.type ≡ true)
unfolding inst_of
inst_names [] i h = absurd (let z : ◌≡◌ {A = ℕ} 0 1 = cc in omega arith)
inst_names (d ∷ []) i h = absurd (let z : ◌≡◌ {A = ℕ} 0 1 = cc in omega arith)
inst_names (d ∷ n ∷ []) i h = absurd (let z : ◌≡◌ {A = ℕ} 0 1 = cc in omega arith)
inst_names (d ∷ n ∷ m ∷ []) i h = go (dims_of d) h
  where
    go : (o : Option Bool) → as_inst o n m ≡ Some i → (is_name i.name ≡ true) × (is_name i.type ≡ true)
    go None g = absurd (let z : ◌≡◌ {A = ℕ} 0 1 = cc in omega arith)
    go (Some b) g =
        let w = when_is (is_name n && is_name m) (record { dims = b; name = n; type = m; conns = [] }) i g in
        let t = both (is_name n) (is_name m) w.0 in
        (ap (λ (q : Inst). is_name q.name) (sym w.1) ∙ t.0, ap (λ (q : Inst). is_name q.type) (sym w.1) ∙ t.1)
inst_names (d ∷ n ∷ m ∷ e ∷ fs) i h = absurd (let z : ◌≡◌ {A = ℕ} 0 1 = cc in omega arith)

conn_names : (fs : List Bytes) (c : Conn) → conn_of fs ≡ Some c → GoodConn c
unfolding conn_of
conn_names [] c h = absurd (let z : ◌≡◌ {A = ℕ} 0 1 = cc in omega arith)
conn_names (k ∷ []) c h = rw (← (when_is (same k (ascii "star")) star c h).1) tt
conn_names (k ∷ a ∷ []) c h = go (same k (ascii "implicit")) (same k (ascii "pos")) h
  where
    go : (p q : Bool) → cond p (when (is_name a) (implicit a)) (cond q (when (is_net a) (pos a)) None) ≡ Some c → GoodConn c
    go true q g = let w = when_is (is_name a) (implicit a) c g in rw (← w.1) w.0
    go false true g = let w = when_is (is_net a) (pos a) c g in rw (← w.1) w.0
    go false false g = absurd (let z : ◌≡◌ {A = ℕ} 0 1 = cc in omega arith)
conn_names (k ∷ a ∷ b ∷ []) c h =
    let w = when_is (same k (ascii "named") && (is_name a && is_net b)) (named a b) c h in
    rw (← w.1) (both (is_name a) (is_net b) (both (same k (ascii "named")) (is_name a && is_net b) w.0).1)
conn_names (k ∷ a ∷ b ∷ e ∷ fs) c h = absurd (let z : ◌≡◌ {A = ℕ} 0 1 = cc in omega arith)

-- ---- the kinds
-- the lists are as they were
as_before : (j j' : Job) → j.files ≡ j'.files → j.modules ≡ j'.modules → GoodLists j → GoodLists j'
as_before j j' f m g =
    record {
      files = rw f at g.files;
      files_few = rw f at g.files_few;
      files_distinct = rw f at g.files_distinct;
      modules = rw m at g.modules;
      modules_few = rw m at g.modules_few;
      modules_distinct = rw m at g.modules_distinct;
    }

-- what a kind goes on with, from the equation of its answer
module _ (d d' : Due) (j j' : Job) (rest rest' : Bytes) where
  goes_as : on d j rest ≡ on d' j' rest' → Goes d j → Goes d' j'
  goes_as e g =
      let ed : d ≡ d' = cc in
      let ej : j ≡ j' = cc in
      (rw ej at g.0, rw (ed, ej) at g.1)

module _ (j j' : Job) (line rest rest' : Bytes) (d' : Due) (g : GoodLists j) where
  pub top_kept : top_line j line rest ≡ Some (on d' j' rest') → Goes d' j'
  unfolding top_line
  top_kept h =
      let w = went_on _ d' j' rest' (when (starts_with (ascii "top=") line) (check (when (is_name (drop 4 line)) (drop 4 line)) true (λ _. true))) (map_when _ (starts_with (ascii "top=") line) _ ∙ h) in
      goes_as due_override d' _ j' rest rest' w.1.1 (as_before j _ refl refl g, tt)

  pub override_kept : override_line j line rest ≡ Some (on d' j' rest') → Goes d' j'
  unfolding override_line
  override_kept h =
      let w = when_is (starts_with (ascii "override=") line) (on due_start (record { top = j.top; override = drop 9 line; start = j.start; files = j.files; modules = j.modules }) rest) (on d' j' rest') h in
      goes_as due_start d' _ j' rest rest' w.1 (as_before j _ refl refl g, tt)

  pub start_kept : start_line j line rest ≡ Some (on d' j' rest') → Goes d' j'
  unfolding start_line
  start_kept h =
      let w = went_on _ d' j' rest' (when (starts_with (ascii "start=") line) (check (when (is_path (drop 6 line)) (drop 6 line)) true (λ _. true))) (map_when _ (starts_with (ascii "start=") line) _ ∙ h) in
      goes_as due_file d' _ j' rest rest' w.1.1 (as_before j _ refl refl g, tt)

  pub file_kept : file_line j line rest ≡ Some (on d' j' rest') → Goes d' j'
  unfolding file_line file_read
  file_kept h =
      let paths = map (λ (f : File). f.path) j.files in
      let w = went_on (λ p. on (due_bytes p) j rest) d' j' rest' (file_read paths line) h in
      let t = read_good (starts_with (ascii "file=") line) (when (is_path (drop 5 line)) (drop 5 line)) (ltb (length paths) 32) (λ p. not (any (λ q. same q p) paths)) w.0 w.1.0 in
      let v = when_is (is_path (drop 5 line)) (drop 5 line) w.0 t.form in
      goes_as (due_bytes w.0) d' j j' rest rest' w.1.1
      (g, (ap is_path (sym v.1) ∙ v.0, (omega (arith, ltb-true (length paths) 32 t.few, length-map j.files (λ (f : File). f.path)), not-true (any (λ q. same q w.0) paths) t.fresh)))

  pub module_kept : module_line j line rest ≡ Some (on d' j' rest') → Goes d' j'
  unfolding module_line module_read
  module_kept h =
      let names = map (λ (m : Module). m.name) j.modules in
      let w = went_on (λ n. on (due_style n) j rest) d' j' rest' (module_read names line) h in
      let t = read_good (starts_with (ascii "module=") line) (when (is_name (drop 7 line)) (drop 7 line)) (ltb (length names) 128) (λ n. not (any (λ m. same m n) names)) w.0 w.1.0 in
      let v = when_is (is_name (drop 7 line)) (drop 7 line) w.0 t.form in
      goes_as (due_style w.0) d' j j' rest rest' w.1.1
      (g, (ap is_name (sym v.1) ∙ v.0, (omega (arith, ltb-true (length names) 128 t.few, length-map j.modules (λ (m : Module). m.name)), not-true (any (λ q. same q w.0) names) t.fresh)))

  pub end_kept : end_line j line rest ≡ Some (on d' j' rest') → Goes d' j'
  unfolding end_line
  end_kept h = let w = when_is (same line (ascii "end=")) (on due_nothing j rest) (on d' j' rest') h in goes_as due_nothing d' j j' rest rest' w.1 (g, tt)

  pub bytes_kept : (p : Bytes) → Pending (due_bytes p) j → bytes_line p j line rest ≡ Some (on d' j' rest') → Goes d' j'
  unfolding bytes_line
  bytes_kept p q h =
      let w = went_on _ d' j' rest' (when (starts_with (ascii "bytes=") line) (check (when (is_decimal (drop 6 line) && is_body (value_from 0 (drop 6 line)) rest) (value_from 0 (drop 6 line))) true (λ _. true))) (map_when _ (starts_with (ascii "bytes=") line) _ ∙ h) in
      let f : File = record { path = p; body = take w.0 rest } in
      goes_as due_more d' (with_files j (j.files ++ (f ∷ []))) j' (drop (w.0 + 1) rest) rest' w.1.1 (
        record {
          files = all_more GoodFile j.files f g.files q.0;
          files_few = omega (arith, length-append j.files (f ∷ []), q.1.0);
          files_distinct = rw (map-append (λ (f : File). f.path) j.files (f ∷ [])) (distinct_more (map (λ (f : File). f.path) j.files) p g.files_distinct q.1.1);
          modules = g.modules;
          modules_few = g.modules_few;
          modules_distinct = g.modules_distinct;
        },
        tt,
      )

  pub style_kept : (n : Bytes) → Pending (due_style n) j → style_line n j line rest ≡ Some (on d' j' rest') → Goes d' j'
  unfolding style_line distinct
  style_kept n q h =
      let w = went_on _ d' j' rest' (when (starts_with (ascii "style=") line) (check (style_of (drop 6 line)) true (λ _. true))) (map_when _ (starts_with (ascii "style=") line) _ ∙ h) in
      let m : Module = record { name = n; style = w.0; ports = []; decls = []; insts = [] } in
      goes_as due_ports d' (with_modules j (j.modules ++ (m ∷ []))) j' rest rest' w.1.1 (
        record {
          files = g.files;
          files_few = g.files_few;
          files_distinct = g.files_distinct;
          modules = all_more GoodModule j.modules m g.modules (record { name = q.0; ports = tt; ports_few = omega arith; decls = tt; decls_few = omega arith; insts = tt; insts_few = omega arith; insts_distinct = refl });
          modules_few = omega (arith, length-append j.modules (m ∷ []), q.1.0);
          modules_distinct = rw (map-append (λ (m : Module). m.name) j.modules (m ∷ [])) (distinct_more (map (λ (m : Module). m.name) j.modules) n g.modules_distinct q.1.1);
        },
        tt,
      )

  -- the last module is changed, its name kept
  last_kept : (f : Module → Module) → ((m : Module) → (f m).name ≡ m.name) → ((m : Module) → m ≡ this_module j → GoodModule m → GoodModule (f m)) → GoodLists (with_modules j (on_last f j.modules))
  last_kept f n h =
      record {
        files = g.files;
        files_few = g.files_few;
        files_distinct = g.files_distinct;
        modules = on_last_all GoodModule f no_module j.modules g.modules h;
        modules_few = omega (arith, on_last_length f j.modules, g.modules_few);
        modules_distinct = rw (on_last_map (λ (m : Module). m.name) f n j.modules) g.modules_distinct;
      }

  pub port_kept : port_line j line rest ≡ Some (on d' j' rest') → Goes d' j'
  unfolding port_read
  port_kept h =
      let w = went_on (λ p. on due_ports (with_modules j (on_last (add_port p) j.modules)) rest) d' j' rest' (port_read (this_module j).style (length (this_module j).ports) line) (sym (port_line_is j line rest) ∙ h) in
      let t = read_good (starts_with (ascii "port=") line) (port_of (this_module j).style (fields (drop 5 line))) (ltb (length (this_module j).ports) 64) (λ _. true) w.0 w.1.0 in
      goes_as due_ports d' (with_modules j (on_last (add_port w.0) j.modules)) j' rest rest' w.1.1 (
        last_kept (add_port w.0) (λ m. refl) (λ m e q. record {
          name = q.name;
          ports = all_more GoodPort m.ports w.0 q.ports (port_name (this_module j).style (fields (drop 5 line)) w.0 t.form);
          ports_few = omega (arith, length-append m.ports (w.0 ∷ []), ltb-true (length (this_module j).ports) 64 t.few, ap (λ (m : Module). length m.ports) e);
          decls = q.decls;
          decls_few = q.decls_few;
          insts = q.insts;
          insts_few = q.insts_few;
          insts_distinct = q.insts_distinct;
        }),
        tt,
      )

  pub decl_kept : decl_line j line rest ≡ Some (on d' j' rest') → Goes d' j'
  unfolding decl_read
  decl_kept h =
      let w = went_on (λ p. on due_decls (with_modules j (on_last (add_decl p) j.modules)) rest) d' j' rest' (decl_read (length (this_module j).decls) line) (sym (decl_line_is j line rest) ∙ h) in
      let t = read_good (starts_with (ascii "decl=") line) (decl_of (fields (drop 5 line))) (ltb (length (this_module j).decls) 128) (λ _. true) w.0 w.1.0 in
      goes_as due_decls d' (with_modules j (on_last (add_decl w.0) j.modules)) j' rest rest' w.1.1 (
        last_kept (add_decl w.0) (λ m. refl) (λ m e q. record {
          name = q.name;
          ports = q.ports;
          ports_few = q.ports_few;
          decls = all_more GoodDecl m.decls w.0 q.decls (decl_name (fields (drop 5 line)) w.0 t.form);
          decls_few = omega (arith, length-append m.decls (w.0 ∷ []), ltb-true (length (this_module j).decls) 128 t.few, ap (λ (m : Module). length m.decls) e);
          insts = q.insts;
          insts_few = q.insts_few;
          insts_distinct = q.insts_distinct;
        }),
        tt,
      )

  pub inst_kept : inst_line j line rest ≡ Some (on d' j' rest') → Goes d' j'
  unfolding inst_line inst_read
  inst_kept h =
      let names = map (λ (k : Inst). k.name) (this_module j).insts in
      let w = went_on (λ i. on due_insts (with_modules j (on_last (add_inst i) j.modules)) rest) d' j' rest' (inst_read names line) h in
      let t = read_good (starts_with (ascii "inst=") line) (inst_of (fields (drop 5 line))) (ltb (length names) 64) (λ i. not (any (λ n. same n i.name) names)) w.0 w.1.0 in
      let n = inst_names (fields (drop 5 line)) w.0 t.form in
      let c = inst_fresh (fields (drop 5 line)) w.0 t.form in
      goes_as due_insts d' (with_modules j (on_last (add_inst w.0) j.modules)) j' rest rest' w.1.1 (
        last_kept (add_inst w.0) (λ m. refl) (λ m e q. record {
          name = q.name;
          ports = q.ports;
          ports_few = q.ports_few;
          decls = q.decls;
          decls_few = q.decls_few;
          insts = all_more GoodInst m.insts w.0 q.insts (record { name = n.0; type = n.1; conns = rw c tt; conns_few = omega (arith, ap length c) });
          insts_few = omega (arith, length-append m.insts (w.0 ∷ []), ltb-true (length names) 64 t.few, length-map (this_module j).insts (λ (k : Inst). k.name), ap (λ (m : Module). length m.insts) e);
          insts_distinct = rw (map-append (λ (k : Inst). k.name) m.insts (w.0 ∷ [])) (distinct_more (map (λ (k : Inst). k.name) m.insts) w.0.name q.insts_distinct (rw e (not-true (any (λ n. same n w.0.name) names) t.fresh)));
        }),
        tt,
      )

  pub conn_kept : conn_line j line rest ≡ Some (on d' j' rest') → Goes d' j'
  unfolding conn_read
  conn_kept h =
      let w = went_on (λ c. on due_insts (with_modules j (on_last (λ m. with_insts m (on_last (add_conn c) m.insts)) j.modules)) rest) d' j' rest' (conn_read (length (this_inst j).conns) line) (sym (conn_line_is j line rest) ∙ h) in
      let t = read_good (starts_with (ascii "conn=") line) (conn_of (fields (drop 5 line))) (ltb (length (this_inst j).conns) 64) (λ _. true) w.0 w.1.0 in
      let gc = conn_names (fields (drop 5 line)) w.0 t.form in
      goes_as due_insts d' (with_modules j (on_last (λ m. with_insts m (on_last (add_conn w.0) m.insts)) j.modules)) j' rest rest' w.1.1 (
        last_kept (λ m. with_insts m (on_last (add_conn w.0) m.insts)) (λ m. refl) (λ m e q. record {
          name = q.name;
          ports = q.ports;
          ports_few = q.ports_few;
          decls = q.decls;
          decls_few = q.decls_few;
          insts = on_last_all GoodInst (add_conn w.0) no_inst m.insts q.insts (λ i ei gi. record {
            name = gi.name;
            type = gi.type;
            conns = all_more GoodConn i.conns w.0 gi.conns gc;
            conns_few = omega (arith, length-append i.conns (w.0 ∷ []), ltb-true (length (this_inst j).conns) 64 t.few, ap (λ (i : Inst). length i.conns) ei, ap (λ (m : Module). length (last_or no_inst m.insts).conns) e);
          });
          insts_few = omega (arith, on_last_length (add_conn w.0) m.insts, q.insts_few);
          insts_distinct = rw (on_last_map (λ (i : Inst). i.name) (add_conn w.0) (λ i. refl) m.insts) q.insts_distinct;
        }),
        tt,
      )
