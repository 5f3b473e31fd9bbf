-- Steps within a module: `port=`, `decl=`, `inst=`, `conn=`, and the module's end. l is the line that was lent, k what it was seen to be.
-- Assumes nothing.
use mathlib.Core.Path.{◌≡◌, refl, ap, ◌∙◌, sym}
use Prim.Native.Nat.{ℕ, ◌+◌, ◌-◌, ◌^◌, ◌<◌, ◌≤◌}
use native.Mathlib.Omega.{arith}
use mathlib.Core.List.{List, [], ◌∷◌, ◌++◌, map, map-append}
use Rattle.std.specs.Prelude.{Bool, true, false, option_map, Option, None, Some, Result, Ok, Err}
use lib.ListN.{length, take, drop, length-append, length-drop, length-map}
use lib.Seq.{take-take, drop-drop}
use Rattle.text.specs.Ascii.{Bytes}
use Rattle.text.specs.Lists.{drop_take}
use Rattle.fields.specs.Meant.{style_is, style_row}
use Rattle.joblines.specs.Job.{Port, Decl, Conn, Inst, Module, Job}
use Rattle.joblines.specs.Lines.{Checked, bad, good, and_then, Read, on, due_ports, due_decls, due_insts, first_of, port_line, decl_line, inst_read, inst_line, conn_line, module_line, end_line, with_modules, with_insts, add_port, add_decl, add_inst, add_conn, on_last, last_or, no_module, no_inst, this_inst}
use Rattle.joblines.specs.Forms.{verdict, port_read, decl_read, conn_read}
use Rattle.joblines.specs.Reads.{was_other, was_refused, was_good, port_line_is, decl_line_is, conn_line_is, port_taken, decl_taken, inst_taken, conn_taken, last_is, on_last_lem}
use Rattle.joblines.specs.Sections.{lines_in, gather, port_here, decl_here, inst_here, conn_here, ports_in, decls_in, insts_of, insts_in, with_conns}
use Rattle.joblines.specs.Scanned.{Whole, gather_more, insts_more, insts_conn}
use Rattle.jobindex.specs.declared.Header.{Header}
use Rattle.jobindex.specs.declared.Open.{Open}
use Rattle.jobindex.specs.declared.Span.{Span}
use Rattle.jobindex.specs.Index.{bytes_at, section, module_row, inst_at, rows, job_of}
use Rattle.jobindex.specs.Stores.{with_module, with_name, Fits}
use Rattle.jobindex.specs.Looks.{name_of, InstSeen}
use Rattle.jobindex.specs.Rows.{rows_length, names_put_lem, name_files, name_modules, name_long, name_kept, modules_put, module_files, module_long, module_kept}
use Rattle.jobsteps.specs.declared.Step.{Step}
use Rattle.joblines.specs.Forms.{number_of}
use Rattle.joblines.specs.declared.Refusal.{Refusal}
use Rattle.jobsteps.specs.State.{line_of, Outside, Inside, PortsDue, DeclsDue, InstsDue, Asked, Stepped, open_of, job_in, port_more, decl_more, inst_more, conn_more, port_on, decl_on, inst_on, conn_on}
use Rattle.std.specs.Prelude.{IsErrAnd}
use Rattle.std.proofs.lemmas.Result.{err_from_is_err_and}
use Rattle.jobsteps.proofs.Cutting.{from_end, line_length, section_none, section_whole, lines_grow, whole_grow}
use Rattle.jobsteps.proofs.Heads.{refused_is}
use Rattle.jobsteps.proofs.Between.{kind_other, kind_refused, kind_good, stepped_else}

-- a section from a place up to it lists nothing
no_decls : (job : Bytes) (n : ℕ) → decls_in (section job n n) ≡ []
unfolding gather lines_in
no_decls job n = rw (section_none job n)

no_insts : (job : Bytes) (n : ℕ) → insts_in (section job n n) ≡ []
unfolding insts_of lines_in
no_insts job n = rw (section_none job n)

module _ (job index : List ℕ) (from end : ℕ) (head : Header) (o : Open) (l : Bytes) (el : l ≡ take (end - from) (drop from job)) (ks : List (Job → Bytes → Bytes → Option Read)) where
  abbrev j : Job
  j = job_in job index head o

  abbrev rest : Bytes
  rest = drop (end + 1) job

  abbrev line : Bytes
  line = line_of job from end

  abbrev before : List Module
  before = rows (module_row job index) head.modules

  abbrev m : Module
  m = open_of job o

  -- ---- port=DIR NAME
  module _ (pre : Asked job index from end (PortsDue job index head o from)) where
    abbrev port_go : Port → Read
    port_go p = on due_ports (with_modules j (on_last (add_port p) j.modules)) rest

    port_is : port_line j line rest ≡ option_map (λ (r : Checked Port). and_then r port_go) (port_read (style_is o.style) o.nports l)
    port_is =
        port_line_is j line rest
        ∙ (rw (last_is no_module before m, ← pre.stands.within.ports_count, el) (ap (λ s. option_map (λ (r : Checked Port). and_then r port_go) (port_read s o.nports line)) (style_row o.style)))

    pub port_other : (k : Bool) → Ok k ≡ verdict (port_read (style_is o.style) o.nports l) → k ≡ false → (index' : List ℕ) (r : Result Step Refusal) → Stepped job index index' from (first_of ks j line rest) r → Stepped job index index' from (first_of (port_line ∷ ks) j line rest) r
    port_other k ek e index' r s = stepped_else job index index' from _ _ r (kind_other port_line ks j line rest port_go (port_read (style_is o.style) o.nports l) port_is (was_other (port_read (style_is o.style) o.nports l) (ap Ok (sym e) ∙ ek))) s

    pub port_refused : (x : Refusal) → Err (number_of x) ≡ verdict (port_read (style_is o.style) o.nports l) → (r : Result Step Refusal) → IsErrAnd r (λ y. y ≡ x) → Stepped job index index from (first_of (port_line ∷ ks) j line rest) r
    port_refused x ek r q =
        let p = err_from_is_err_and r q in
        rw (p.1, p.2) (refused_is job index from x _ (sym (kind_refused port_line ks j line rest port_go (port_read (style_is o.style) o.nports l) port_is (number_of x) (was_refused (port_read (style_is o.style) o.nports l) (number_of x) ek))))

    module _ (p : Port) (hp : port_here line ≡ Some p) where
      abbrev ported : Open
      ported = port_more (end + 1) o

      ports_to : Whole (section job o.ports from)
      ports_to = rw pre.stands.decls_here at pre.stands.within.ports_whole

      ports_le : o.ports ≤ from
      ports_le = omega (arith, pre.stands.within.ports_first, pre.stands.decls_here)

      ports_grow : ports_in (section job o.ports (end + 1)) ≡ ports_in (section job o.ports o.decls) ++ (p ∷ [])
      ports_grow =
          ap (gather port_here) (lines_grow job from end pre.line o.ports ports_le ports_to)
          ∙ (gather_more port_here (lines_in (section job o.ports from)) line p hp ∙ rw pre.stands.decls_here)

      decls_still : decls_in (section job (end + 1) (end + 1)) ≡ decls_in (section job o.decls o.insts)
      decls_still = rw (pre.stands.decls_here, pre.stands.insts_here, no_decls job (end + 1)) (sym (no_decls job from))

      insts_still : insts_in (section job (end + 1) (end + 1)) ≡ insts_in (section job o.insts from)
      insts_still = rw (pre.stands.insts_here, no_insts job (end + 1)) (sym (no_insts job from))

      port_module : open_of job ported ≡ add_port p m
      port_module = rw (ports_grow, decls_still, insts_still, pre.stands.within.ends)

      port_inside : Inside job index head ported (end + 1)
      port_inside =
          let w = pre.stands.within in
          record {
            here = omega (arith, pre.line.inside);
            files = w.files;
            modules = w.modules;
            name = w.name;
            ends = refl;
            ports_first = omega (arith, ports_le, from_end job from end pre.line);
            decls_next = omega arith;
            insts_last = omega arith;
            ports_whole = whole_grow job from end pre.line o.ports ports_le ports_to;
            decls_whole = section_whole job (end + 1);
            insts_whole = section_whole job (end + 1);
            ports_count = rw (ports_grow, length-append, ← w.ports_count);
            decls_count = w.decls_count ∙ ap length (sym decls_still);
            insts_few = w.insts_few;
            insts_names = w.insts_names ∙ ap (map (λ (i : Inst). i.name)) (sym insts_still);
            conns_count = w.conns_count ∙ ap (λ is. length (last_or no_inst is).conns) (sym insts_still);
          }

    pub port_good : (k : Bool) → Ok k ≡ verdict (port_read (style_is o.style) o.nports l) → k ≡ true → (r : Step) → r ≡ port_on end head o → Stepped job index index from (first_of (port_line ∷ ks) j line rest) (Ok r)
    port_good k ek e r er =
        let w = was_good (port_read (style_is o.style) o.nports l) (ap Ok (sym e) ∙ ek) in
        let t = port_taken l (style_is o.style) o.nports w.0 w.1 in
        let hp : port_here line ≡ Some w.0 = ap port_here (sym el) ∙ t.0 in
        let s : Stepped job index index from (first_of (port_line ∷ ks) j line rest) (Ok (port_on end head o)) = record {
          says = sym (kind_good port_line ks j line rest port_go (port_read (style_is o.style) o.nports l) port_is w.0 w.1 ∙ rw (on_last_lem (add_port w.0) before m, port_module w.0 hp));
          stands = (omega (arith, from_end job from end pre.line), record { within = port_inside w.0 hp; decls_here = refl; insts_here = refl });
          long = refl;
          kept = refl;
        } in
        rw er s

  -- ---- decl=KIND D NAME
  module _ (pre : Asked job index from end (DeclsDue job index head o from)) where
    abbrev decl_go : Decl → Read
    decl_go d = on due_decls (with_modules j (on_last (add_decl d) j.modules)) rest

    decl_is : decl_line j line rest ≡ option_map (λ (r : Checked Decl). and_then r decl_go) (decl_read o.ndecls l)
    decl_is = decl_line_is j line rest ∙ rw (last_is no_module before m, ← pre.stands.within.decls_count, el)

    pub decl_other : (k : Bool) → Ok k ≡ verdict (decl_read o.ndecls l) → k ≡ false → (index' : List ℕ) (r : Result Step Refusal) → Stepped job index index' from (first_of ks j line rest) r → Stepped job index index' from (first_of (decl_line ∷ ks) j line rest) r
    decl_other k ek e index' r s = stepped_else job index index' from _ _ r (kind_other decl_line ks j line rest decl_go (decl_read o.ndecls l) decl_is (was_other (decl_read o.ndecls l) (ap Ok (sym e) ∙ ek))) s

    pub decl_refused : (x : Refusal) → Err (number_of x) ≡ verdict (decl_read o.ndecls l) → (r : Result Step Refusal) → IsErrAnd r (λ y. y ≡ x) → Stepped job index index from (first_of (decl_line ∷ ks) j line rest) r
    decl_refused x ek r q =
        let p = err_from_is_err_and r q in
        rw (p.1, p.2) (refused_is job index from x _ (sym (kind_refused decl_line ks j line rest decl_go (decl_read o.ndecls l) decl_is (number_of x) (was_refused (decl_read o.ndecls l) (number_of x) ek))))

    module _ (d : Decl) (hd : decl_here line ≡ Some d) where
      abbrev decled : Open
      decled = decl_more (end + 1) o

      decls_to : Whole (section job o.decls from)
      decls_to = rw pre.stands.insts_here at pre.stands.within.decls_whole

      decls_le : o.decls ≤ from
      decls_le = omega (arith, pre.stands.within.decls_next, pre.stands.insts_here)

      decls_grow : decls_in (section job o.decls (end + 1)) ≡ decls_in (section job o.decls o.insts) ++ (d ∷ [])
      decls_grow =
          ap (gather decl_here) (lines_grow job from end pre.line o.decls decls_le decls_to)
          ∙ (gather_more decl_here (lines_in (section job o.decls from)) line d hd ∙ rw pre.stands.insts_here)

      insts_still' : insts_in (section job (end + 1) (end + 1)) ≡ insts_in (section job o.insts from)
      insts_still' = rw (pre.stands.insts_here, no_insts job (end + 1)) (sym (no_insts job from))

      decl_module : open_of job decled ≡ add_decl d m
      decl_module = rw (decls_grow, insts_still', pre.stands.within.ends)

      decl_inside : Inside job index head decled (end + 1)
      decl_inside =
          let w = pre.stands.within in
          record {
            here = omega (arith, pre.line.inside);
            files = w.files;
            modules = w.modules;
            name = w.name;
            ends = refl;
            ports_first = w.ports_first;
            decls_next = omega (arith, decls_le, from_end job from end pre.line);
            insts_last = omega arith;
            ports_whole = w.ports_whole;
            decls_whole = whole_grow job from end pre.line o.decls decls_le decls_to;
            insts_whole = section_whole job (end + 1);
            ports_count = w.ports_count;
            decls_count = rw (decls_grow, length-append, ← w.decls_count);
            insts_few = w.insts_few;
            insts_names = w.insts_names ∙ ap (map (λ (i : Inst). i.name)) (sym insts_still');
            conns_count = w.conns_count ∙ ap (λ is. length (last_or no_inst is).conns) (sym insts_still');
          }

    pub decl_good : (k : Bool) → Ok k ≡ verdict (decl_read o.ndecls l) → k ≡ true → (r : Step) → r ≡ decl_on end head o → Stepped job index index from (first_of (decl_line ∷ ks) j line rest) (Ok r)
    decl_good k ek e r er =
        let w = was_good (decl_read o.ndecls l) (ap Ok (sym e) ∙ ek) in
        let t = decl_taken l o.ndecls w.0 w.1 in
        let hd : decl_here line ≡ Some w.0 = ap decl_here (sym el) ∙ t.0 in
        let s : Stepped job index index from (first_of (decl_line ∷ ks) j line rest) (Ok (decl_on end head o)) = record {
          says = sym (kind_good decl_line ks j line rest decl_go (decl_read o.ndecls l) decl_is w.0 w.1 ∙ rw (on_last_lem (add_decl w.0) before m, decl_module w.0 hd));
          stands = (omega (arith, from_end job from end pre.line), record { within = decl_inside w.0 hd; insts_here = refl });
          long = refl;
          kept = refl;
        } in
        rw er s

  -- ---- conn=
  module _ (pre : Asked job index from end (InstsDue job index head o from)) where
    abbrev conn_go : Conn → Read
    conn_go c = on due_insts (with_modules j (on_last (λ m. with_insts m (on_last (add_conn c) m.insts)) j.modules)) rest

    conns_now : length (this_inst j).conns ≡ o.nconns
    conns_now = rw (last_is no_module before m, pre.stands.within.ends) (sym pre.stands.within.conns_count)

    conn_is_lem : conn_line j line rest ≡ option_map (λ (r : Checked Conn). and_then r conn_go) (conn_read o.nconns l)
    conn_is_lem = conn_line_is j line rest ∙ rw (conns_now, el)

    pub conn_other : (k : Bool) → Ok k ≡ verdict (conn_read o.nconns l) → k ≡ false → (index' : List ℕ) (r : Result Step Refusal) → Stepped job index index' from (first_of ks j line rest) r → Stepped job index index' from (first_of (conn_line ∷ ks) j line rest) r
    conn_other k ek e index' r s = stepped_else job index index' from _ _ r (kind_other conn_line ks j line rest conn_go (conn_read o.nconns l) conn_is_lem (was_other (conn_read o.nconns l) (ap Ok (sym e) ∙ ek))) s

    pub conn_refused : (x : Refusal) → Err (number_of x) ≡ verdict (conn_read o.nconns l) → (r : Result Step Refusal) → IsErrAnd r (λ y. y ≡ x) → Stepped job index index from (first_of (conn_line ∷ ks) j line rest) r
    conn_refused x ek r q =
        let p = err_from_is_err_and r q in
        rw (p.1, p.2) (refused_is job index from x _ (sym (kind_refused conn_line ks j line rest conn_go (conn_read o.nconns l) conn_is_lem (number_of x) (was_refused (conn_read o.nconns l) (number_of x) ek))))

    names_still : (c : Conn) (is : List Inst) → map (λ (i : Inst). i.name) (on_last (add_conn c) is) ≡ map (λ (i : Inst). i.name) is
    names_still c [] = refl
    names_still c (i ∷ []) = refl
    names_still c (i ∷ n ∷ is) = ap (λ ns. i.name ∷ ns) (names_still c (n ∷ is))

    last_more : (c : Conn) (z : Inst) (is : List Inst) → 1 ≤ length is → length (last_or z (on_last (add_conn c) is)).conns ≡ length (last_or z is).conns + 1
    last_more c z [] h = absurd (omega arith)
    last_more c z (i ∷ []) h = length-append i.conns (c ∷ [])
    last_more c z (i ∷ n ∷ is) h = last_more c i (n ∷ is) (omega arith)

    module _ (c : Conn) (hn : inst_here line ≡ None) (hc : conn_here line ≡ Some c) where
      abbrev conned : Open
      conned = conn_more (end + 1) o

      insts_grow : insts_in (section job o.insts (end + 1)) ≡ on_last (add_conn c) (insts_in (section job o.insts from))
      insts_grow =
          ap insts_of (lines_grow job from end pre.line o.insts pre.stands.within.insts_last pre.stands.within.insts_whole)
          ∙ insts_conn line c hn hc (lines_in (section job o.insts from))

      conn_module : open_of job conned ≡ with_insts m (on_last (add_conn c) m.insts)
      conn_module = rw (insts_grow, pre.stands.within.ends)

      some_insts : 1 ≤ length (insts_in (section job o.insts from))
      some_insts = omega (arith, pre.stands.some_inst, rows_length (inst_at job index) o.ninsts, ap length pre.stands.within.insts_names, length-map (insts_in (section job o.insts from)) (λ (i : Inst). i.name))

      conn_inside : Inside job index head conned (end + 1)
      conn_inside =
          let w = pre.stands.within in
          record {
            here = omega (arith, pre.line.inside);
            files = w.files;
            modules = w.modules;
            name = w.name;
            ends = refl;
            ports_first = w.ports_first;
            decls_next = w.decls_next;
            insts_last = omega (arith, w.insts_last, from_end job from end pre.line);
            ports_whole = w.ports_whole;
            decls_whole = w.decls_whole;
            insts_whole = whole_grow job from end pre.line o.insts w.insts_last w.insts_whole;
            ports_count = w.ports_count;
            decls_count = w.decls_count;
            insts_few = w.insts_few;
            insts_names = w.insts_names ∙ (sym (names_still c (insts_in (section job o.insts from))) ∙ ap (map (λ (i : Inst). i.name)) (sym insts_grow));
            conns_count = ap (λ n. n + 1) w.conns_count ∙ (sym (last_more c no_inst (insts_in (section job o.insts from)) some_insts) ∙ ap (λ is. length (last_or no_inst is).conns) (sym insts_grow));
          }

    pub conn_good : (k : Bool) → Ok k ≡ verdict (conn_read o.nconns l) → k ≡ true → (r : Step) → r ≡ conn_on end head o → Stepped job index index from (first_of (conn_line ∷ ks) j line rest) (Ok r)
    conn_good k ek e r er =
        let w = was_good (conn_read o.nconns l) (ap Ok (sym e) ∙ ek) in
        let t = conn_taken l o.nconns w.0 w.1 in
        let hn : inst_here line ≡ None = ap inst_here (sym el) ∙ t.0 in
        let hc : conn_here line ≡ Some w.0 = ap conn_here (sym el) ∙ t.1.0 in
        let s : Stepped job index index from (first_of (conn_line ∷ ks) j line rest) (Ok (conn_on end head o)) = record {
          says = sym (kind_good conn_line ks j line rest conn_go (conn_read o.nconns l) conn_is_lem w.0 w.1 ∙ rw (on_last_lem (λ m. with_insts m (on_last (add_conn w.0) m.insts)) before m, conn_module w.0 hn hc));
          stands = (omega (arith, from_end job from end pre.line), record { within = conn_inside w.0 hn hc; some_inst = pre.stands.some_inst });
          long = refl;
          kept = refl;
        } in
        rw er s

  -- ---- inst=D NAME MODULE
  module _ (pre : Asked job index from end (Inside job index head o from)) where
    abbrev inst_go : Inst → Read
    inst_go i = on due_insts (with_modules j (on_last (add_inst i) j.modules)) rest

    abbrev inst_read_lem : Option (Checked Inst)
    inst_read_lem = inst_read (rows (inst_at job index) o.ninsts) l

    inst_is_lem : inst_line j line rest ≡ option_map (λ (r : Checked Inst). and_then r inst_go) inst_read_lem
    unfolding inst_line
    inst_is_lem = rw (last_is no_module before m, pre.stands.ends, ← pre.stands.insts_names, el)

    pub inst_other : (k : Option Span) → InstSeen l (rows (inst_at job index) o.ninsts) (Ok k) → k ≡ None → (index' : List ℕ) (r : Result Step Refusal) → Stepped job index index' from (first_of ks j line rest) r → Stepped job index index' from (first_of (inst_line ∷ ks) j line rest) r
    inst_other k ek e index' r s = stepped_else job index index' from _ _ r (kind_other inst_line ks j line rest inst_go inst_read_lem inst_is_lem (go inst_read_lem (rw e at ek.says))) s
      where
        go : (x : Option (Checked Inst)) → None ≡ name_of x → x ≡ None
        go None h = refl
        go (Some (bad n)) h = absurd (let z : ◌≡◌ {A = ℕ} 0 1 = cc in omega arith)
        go (Some (good i)) h = absurd (let z : ◌≡◌ {A = ℕ} 0 1 = cc in omega arith)

    pub inst_refused : (x : Refusal) → InstSeen l (rows (inst_at job index) o.ninsts) (Err x) → (r : Result Step Refusal) → IsErrAnd r (λ y. y ≡ x) → Stepped job index index from (first_of (inst_line ∷ ks) j line rest) r
    inst_refused x ek r q =
        let p = err_from_is_err_and r q in
        rw (p.1, p.2) (refused_is job index from x _ (sym (kind_refused inst_line ks j line rest inst_go inst_read_lem inst_is_lem (number_of x) (go inst_read_lem (number_of x) ek.says))))
      where
        go : (y : Option (Checked Inst)) (n : ℕ) → Some (bad n) ≡ name_of y → y ≡ Some (bad n)
        go None n h = absurd (let z : ◌≡◌ {A = ℕ} 0 1 = cc in omega arith)
        go (Some (bad m)) n h = let z : n ≡ m = cc in ap (λ q. Some (bad q)) (sym z)
        go (Some (good i)) n h = absurd (let z : ◌≡◌ {A = ℕ} 0 1 = cc in omega arith)

    module _ (a : Span) (ek : InstSeen l (rows (inst_at job index) o.ninsts) (Ok (Some a))) where
      abbrev name : Bytes
      name = take a.len (drop a.at (drop 5 l))

      inst_good_is : (i : Inst) × ((inst_read_lem ≡ Some (good i)) × (i.name ≡ name))
      inst_good_is = go inst_read_lem refl (ek.says)
        where
          go : (y : Option (Checked Inst)) → inst_read_lem ≡ y → Some (good name) ≡ name_of y → (i : Inst) × ((inst_read_lem ≡ Some (good i)) × (i.name ≡ name))
          go None er h = absurd (let z : ◌≡◌ {A = ℕ} 0 1 = cc in omega arith)
          go (Some (bad n)) er h = absurd (let z : ◌≡◌ {A = ℕ} 0 1 = cc in omega arith)
          go (Some (good i)) er h = (i, (er, cc))

      inst_few : o.ninsts < 64
      inst_few =
          let g = inst_good_is in
          omega (arith, (inst_taken l (rows (inst_at job index) o.ninsts) g.0 g.1.0).1.1, rows_length (inst_at job index) o.ninsts)

      name_room : a.at + a.len ≤ length (drop 5 l)
      name_room = ek.within

      value_length : length (drop 5 l) ≡ end - from - 5
      value_length = rw (length-drop 5 l, el, line_length job from end pre.line)

      -- the name's place in the job
      name_at_lem : bytes_at job (from + 5 + a.at) a.len ≡ name
      name_at_lem =
          rw (
            el,
            drop_take 5 (end - from) (drop from job),
            drop-drop 5 from job,
            drop_take a.at (end - from - 5) (drop (from + 5) job),
            drop-drop a.at (from + 5) job,
            take-take a.len (end - from - 5 - a.at) (drop (from + 5 + a.at) job) (omega (arith, name_room, value_length)),
          )

      abbrev named : List ℕ
      named = with_name index o.ninsts (from + 5 + a.at) a.len

      abbrev insted : Open
      insted = inst_more (end + 1) o

      whole_insts : Whole (section job o.insts from)
      whole_insts = pre.stands.insts_whole

      module _ (i : Inst) (hi : inst_here line ≡ Some i) (hf : i.conns ≡ []) (hn : i.name ≡ name) where
        fresh : with_conns i [] ≡ i
        fresh = rw (← hf)

        insts_added : insts_in (section job o.insts (end + 1)) ≡ insts_in (section job o.insts from) ++ (i ∷ [])
        insts_added =
            ap insts_of (lines_grow job from end pre.line o.insts pre.stands.insts_last whole_insts)
            ∙ (insts_more (lines_in (section job o.insts from)) line i hi ∙ ap (λ x. insts_of (lines_in (section job o.insts from)) ++ (x ∷ [])) fresh)

        inst_module : open_of job insted ≡ add_inst i m
        inst_module = rw (insts_added, pre.stands.ends)

        inst_inside : Inside job named head insted (end + 1)
        inst_inside =
            let w = pre.stands in
            record {
              here = omega (arith, pre.line.inside);
              files = w.files;
              modules = w.modules;
              name = w.name;
              ends = refl;
              ports_first = w.ports_first;
              decls_next = w.decls_next;
              insts_last = omega (arith, w.insts_last, from_end job from end pre.line);
              ports_whole = w.ports_whole;
              decls_whole = w.decls_whole;
              insts_whole = whole_grow job from end pre.line o.insts w.insts_last whole_insts;
              ports_count = w.ports_count;
              decls_count = w.decls_count;
              insts_few = omega (arith, inst_few);
              insts_names =
                  names_put_lem job index o.ninsts (from + 5 + a.at) a.len inst_few pre.room
                  ∙ rw (w.insts_names, name_at_lem, ← hn, insts_added) (sym (map-append (λ (i : Inst). i.name) (insts_in (section job o.insts from)) (i ∷ [])));
              conns_count = rw (insts_added, last_is no_inst (insts_in (section job o.insts from)) i, hf);
            }

    pub inst_good : (k : Option Span) → InstSeen l (rows (inst_at job index) o.ninsts) (Ok k) → (a : Span) → k ≡ Some a → (index' : List ℕ) (r : Step) → (r ≡ inst_on end head o) × (index' ≡ with_name index o.ninsts (from + 5 + a.at) a.len) → Stepped job index index' from (first_of (inst_line ∷ ks) j line rest) (Ok r)
    inst_good k sk a e index' r er =
        let ek : InstSeen l (rows (inst_at job index) o.ninsts) (Ok (Some a)) = rw e at sk in
        let g = inst_good_is a ek in
        let t = inst_taken l (rows (inst_at job index) o.ninsts) g.0 g.1.0 in
        let hi : inst_here line ≡ Some g.0 = ap inst_here (sym el) ∙ t.0 in
        let few = inst_few a ek in
        let i = g.0 in
        let s : Stepped job index (named a ek) from (first_of (inst_line ∷ ks) j line rest) (Ok (inst_on end head o)) = record {
          says =
              sym (kind_good inst_line ks j line rest inst_go inst_read_lem inst_is_lem i g.1.0
              ∙ rw (
                on_last_lem (add_inst i) before m,
                inst_module a ek i hi t.1.0 g.1.1,
                name_files job index o.ninsts (from + 5 + a.at) a.len few pre.room head.files pre.stands.files,
                name_modules job index o.ninsts (from + 5 + a.at) a.len few pre.room head.modules (omega (arith, pre.stands.modules)),
              ));
          stands = (omega (arith, from_end job from end pre.line), record { within = inst_inside a ek i hi t.1.0 g.1.1; some_inst = omega arith });
          long = name_long job index o.ninsts (from + 5 + a.at) a.len few pre.room;
          kept = name_kept job index o.ninsts (from + 5 + a.at) a.len few pre.room;
        } in
        rw (er.0, er.1) s

-- ---- the module ends
module _ (job index : List ℕ) (from end : ℕ) (head : Header) (o : Open) (pre : Asked job index from end (Inside job index head o from)) where
  pub leave_fits : Fits o
  leave_fits =
      let w = pre.stands in
      record {
        name_at_lem = w.name.at_fits;
        name_len = w.name.len_fits;
        ports_at = omega (arith, pre.line.inside, pre.line.small);
        decls_at = omega (arith, pre.line.inside, pre.line.small);
        insts_at = omega (arith, pre.line.inside, pre.line.small);
        end_at = omega (arith, pre.line.inside, pre.line.small);
        insts_no = omega (arith, w.insts_few);
      }

  module _ (index' : List ℕ) (e : index' ≡ with_module index head.modules o) where
    abbrev left : Header
    left = record { top = head.top; over = head.over; start = head.start; files = head.files; modules = head.modules + 1; startfile = head.startfile; topmodule = head.topmodule }

    pub leave_asks : Asked job index' from end (Outside job left from)
    leave_asks =
        record {
          line = pre.line;
          stands = record { here = pre.stands.here; files = pre.stands.files; modules = omega (arith, pre.stands.modules) };
          room =
              let z : length index' ≡ length index = rw e (module_long job index head.modules o pre.stands.modules pre.room) in
              omega (arith, pre.room);
        }

    leave_job : job_of job index' left ≡ job_in job index head o
    leave_job =
        rw (e, modules_put job index head.modules o pre.stands.modules pre.room, module_files job index head.modules o pre.stands.modules pre.room head.files pre.stands.files)

    pub leave_is : (r : Result Step Refusal) → Stepped job index' index' from (first_of (module_line ∷ end_line ∷ []) (job_of job index' left) (line_of job from end) (drop (end + 1) job)) r
        → Stepped job index index' from (first_of (module_line ∷ end_line ∷ []) (job_in job index head o) (line_of job from end) (drop (end + 1) job)) r
    leave_is r s =
        record {
          says = s.says ∙ ap (λ j. first_of (module_line ∷ end_line ∷ []) j (line_of job from end) (drop (end + 1) job)) leave_job;
          stands = s.stands;
          long = rw e (module_long job index head.modules o pre.stands.modules pre.room);
          kept = rw e (module_kept job index head.modules o pre.stands.modules pre.room);
        }

-- ---- how far the counts and the places go, where a line is good
module _ (o : Open) (l : Bytes) (k : Bool) where
  pub port_small : Ok k ≡ verdict (port_read (style_is o.style) o.nports l) → k ≡ true → o.nports < 2 ^ 32
  port_small ek e =
      let w = was_good (port_read (style_is o.style) o.nports l) (ap Ok (sym e) ∙ ek) in
      omega (arith, (port_taken l (style_is o.style) o.nports w.0 w.1).1)

  pub decl_small : Ok k ≡ verdict (decl_read o.ndecls l) → k ≡ true → o.ndecls < 2 ^ 32
  decl_small ek e =
      let w = was_good (decl_read o.ndecls l) (ap Ok (sym e) ∙ ek) in
      omega (arith, (decl_taken l o.ndecls w.0 w.1).1)

  pub conn_small : Ok k ≡ verdict (conn_read o.nconns l) → k ≡ true → o.nconns < 2 ^ 32
  conn_small ek e =
      let w = was_good (conn_read o.nconns l) (ap Ok (sym e) ∙ ek) in
      omega (arith, (conn_taken l o.nconns w.0 w.1).1.1)

module _ (job index : List ℕ) (from end : ℕ) (head : Header) (o : Open) (l : Bytes) (el : l ≡ take (end - from) (drop from job)) (pre : Asked job index from end (Inside job index head o from)) (k : Option Span) (sk : InstSeen l (rows (inst_at job index) o.ninsts) (Ok k)) (a : Span) (e : k ≡ Some a) where
  known : InstSeen l (rows (inst_at job index) o.ninsts) (Ok (Some a))
  known = rw e at sk

  pub inst_room : o.ninsts < 64
  inst_room = inst_few job index from end head o l el [] pre a known

  inst_in : (a.at + a.len ≤ end - from - 5) × (end - from ≤ 65536)
  inst_in =
      let x = name_room job index from end head o l el [] pre a known in
      let y = value_length job index from end head o l el [] pre a known in
      (omega arith, omega (arith, pre.line.inside, pre.line.small))

  pub inst_at_small : from + 5 + a.at < 2 ^ 32
  inst_at_small = omega (arith, inst_in, pre.line.inside, pre.line.small)

  pub inst_at_fits : from + 5 + a.at < 2 ^ 64
  inst_at_fits = omega (arith, inst_at_small)

  pub inst_len_small : a.len < 2 ^ 32
  inst_len_small = omega (arith, inst_in)
