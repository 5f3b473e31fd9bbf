-- One turn along the lines: the line from i up to e is of the kind, or is passed over. t is whether it has the key, f its form.
-- Assumes nothing.
use mathlib.Core.Path.{◌≡◌, refl, ap, ◌∙◌, sym}
use Prim.Native.Nat.{ℕ, ◌+◌, ◌-◌, ◌<◌, ◌≤◌}
use native.Mathlib.Omega.{arith}
use mathlib.Core.Bool.{Bool, true, false, not}
use mathlib.Core.List.{[]}
use Rattle.std.specs.Prelude.{Option, None, Some, is_some as is_Some}
use lib.ListN.{length, take, drop, length-drop}
use lib.Seq.{take_all}
use borrow.Author.Rules.{rules}
use borrow.Author.Tests.{not-true, not-false}
use Rattle.text.specs.Ascii.{Bytes, ascii}
use Rattle.text.specs.Compare.{starts_with}
use Rattle.text.specs.Sames.{no_true}
use Rattle.fields.specs.Fields.{ansi}
use Rattle.fields.specs.Meant.{is_some}
use Rattle.joblines.specs.Job.{Inst}
use Rattle.joblines.specs.Lines.{fields, port_of, decl_of, inst_of, conn_of}
use Rattle.joblines.specs.Forms.{port_meant, decl_meant, inst_meant, conn_meant}
use Rattle.joblines.specs.declared.form.PortForm.{PortForm}
use Rattle.joblines.specs.declared.form.DeclForm.{DeclForm}
use Rattle.joblines.specs.declared.form.InstForm.{InstForm}
use Rattle.joblines.specs.declared.form.ConnForm.{ConnForm}
use Rattle.joblines.specs.declared.form.ConnForm.TheVariants as connf
use Rattle.joblines.specs.Sections.{lines_in, conns_step, port_here, decl_here, inst_here, conn_here, gather, insts_of, conns_of, ports_in, decls_in, insts_in, conns_in}
use Rattle.jobindex.specs.Index.{section}
use Rattle.jobindex.specs.declared.Span.{Span}
use Rattle.lines.specs.declared.ConnAt.{ConnAt}
use Rattle.lines.specs.declared.ConnAt.TheVariants as conn
use Rattle.lines.specs.Cursors.{LineAt, Stepped, spanned, span_in, conn_placed, PortSeen, DeclSeen, InstSeen, ConnSeen}
use Rattle.lines.specs.Steps.{Passed, passed_none, passed_on, span_is, value_short, cut_empty, cut_last, cut_room, cut_here}

pub ruleset cuts = (rules, cut_empty, cut_last, cut_room, cut_here)

-- ---- a line by its key
module _ (line : Bytes) (t : Bool) (et : t ≡ starts_with (ascii "port=") line) where
  pub port_other : not t ≡ true → None ≡ port_here line
  unfolding port_here
  port_other h = rw (← et, not-true t h)

  pub port_keyed : not t ≡ false → (v : Bytes) → v ≡ drop 5 line → (f : Option PortForm) → port_meant v f ≡ port_of ansi (fields v) → port_meant (drop 5 line) f ≡ port_here line
  unfolding port_here
  port_keyed h v ev f e = rw (← et, not-false t h, ← ev) e

pub ruleset port_heres = (rules, port_other, port_keyed)

module _ (line : Bytes) (t : Bool) (et : t ≡ starts_with (ascii "decl=") line) where
  pub decl_other : not t ≡ true → None ≡ decl_here line
  unfolding decl_here
  decl_other h = rw (← et, not-true t h)

  pub decl_keyed : not t ≡ false → (v : Bytes) → v ≡ drop 5 line → (f : Option DeclForm) → decl_meant v f ≡ decl_of (fields v) → decl_meant (drop 5 line) f ≡ decl_here line
  unfolding decl_here
  decl_keyed h v ev f e = rw (← et, not-false t h, ← ev) e

pub ruleset decl_heres = (rules, decl_other, decl_keyed)

module _ (line : Bytes) (t : Bool) (et : t ≡ starts_with (ascii "inst=") line) where
  pub inst_other : not t ≡ true → None ≡ inst_here line
  unfolding inst_here
  inst_other h = rw (← et, not-true t h)

  pub inst_keyed : not t ≡ false → (v : Bytes) → v ≡ drop 5 line → (f : Option InstForm) → inst_meant v f ≡ inst_of (fields v) → inst_meant (drop 5 line) f ≡ inst_here line
  unfolding inst_here
  inst_keyed h v ev f e = rw (← et, not-false t h, ← ev) e

pub ruleset inst_heres = (rules, inst_other, inst_keyed)

module _ (line : Bytes) (t : Bool) (et : t ≡ starts_with (ascii "conn=") line) where
  pub conn_other : not t ≡ true → None ≡ conn_here line
  unfolding conn_here
  conn_other h = rw (← et, not-true t h)

  pub conn_keyed : not t ≡ false → (v : Bytes) → v ≡ drop 5 line → (f : Option ConnForm) → conn_meant v f ≡ conn_of (fields v) → conn_meant (drop 5 line) f ≡ conn_here line
  unfolding conn_here
  conn_keyed h v ev f e = rw (← et, not-false t h, ← ev) e

pub ruleset conn_heres = (rules, conn_other, conn_keyed)

-- ---- places
module _ (job : Bytes) (i end e : ℕ) (found : LineAt job i end e) where
  pub turn_from : i ≤ e
  turn_from = found.cut.from found.before

  pub turn_less : end - (e + 1) < end - i
  turn_less = omega (arith, found.before, found.cut.from found.before)

  module _ (line : Bytes) (el : line ≡ take (e - i) (drop i job)) (v : Bytes) (ev : v ≡ drop 5 line) where
    value_is : v ≡ drop 5 (section job i e)
    value_is = ev ∙ ap (λ (l : Bytes). drop 5 l) el

    pub turn_value : length v ≤ e
    turn_value = value_short job i e v value_is (found.cut.from found.before) (omega (arith, found.cut.there found.before))

    part_is_lem : (n l : ℕ) (r : Span) → r ≡ span_in v e n l → spanned job r ≡ take l (drop n (drop 5 line))
    part_is_lem n l r er = rw (er, span_is job i e v value_is (found.cut.from found.before) (omega (arith, found.cut.there found.before)) n l, ev)

    rest_is : (n : ℕ) (r : Span) → r ≡ span_in v e n (length v) → spanned job r ≡ drop n (drop 5 line)
    rest_is n r er = part_is_lem n (length v) r er ∙ take_all (length v) (drop n (drop 5 line)) (omega (arith, length-drop n (drop 5 line), ap length ev))

  module _ (at : ℕ) (p : Passed job at i) where
    pub turn_passed : Passed job at (e + 1)
    turn_passed = passed_on job at i (e + 1) p (omega (arith, found.cut.from found.before)) (found.cut.whole found.before)

    turn_stepped : Stepped job at end (e + 1)
    turn_stepped =
        record {
          further = omega (arith, found.cut.from found.before, p.from);
          within = omega (arith, found.before);
          inside = omega (arith, found.cut.there found.before);
          whole = turn_passed.whole;
        }

pub passed_here : (job : Bytes) (at : ℕ) → Passed job at at
passed_here job at = passed_none job at

-- ---- port lines
module _ (job : Bytes) (at end i : ℕ) (inv : ports_in (section job at end) ≡ ports_in (section job i end)) where
  pub port_end : lines_in (section job i end) ≡ [] → PortSeen job at end None
  unfolding gather
  port_end h = record { says = sym (inv ∙ rw h); goes = tt }

module _ (job : Bytes) (at end i e : ℕ) (inv : ports_in (section job at end) ≡ ports_in (section job i end)) (found : LineAt job i end e) where
  module _ (line : Bytes) (el : line ≡ take (e - i) (drop i job)) where
    pub port_skip : port_meant (drop 5 line) None ≡ port_here line → ports_in (section job at end) ≡ ports_in (section job (e + 1) end)
    unfolding gather
    port_skip ef = inv ∙ rw (found.cut.line found.before, ← el, ← ef)

    module _ (f : PortForm) (ef : port_meant (drop 5 line) (Some f) ≡ port_here line) (p : Passed job at i) (v : Bytes) (ev : v ≡ drop 5 line) (r : Span) (er : r ≡ span_in v e f.name (length v)) where
      pub port_good : PortSeen job at end (Some (record { dir = f.dir; name = r; next = (e + 1) }))
      unfolding gather
      port_good =
          record {
            says = sym (inv ∙ rw (found.cut.line found.before, ← el, ← ef, rest_is job i end e found line el v ev f.name r er));
            goes = turn_stepped job i end e found at p;
          }

pub ruleset port_turns = (rules, turn_from, turn_less, turn_value, turn_passed, passed_here, port_end, port_skip, port_good)

-- ---- decl lines
module _ (job : Bytes) (at end i : ℕ) (inv : decls_in (section job at end) ≡ decls_in (section job i end)) where
  pub decl_end : lines_in (section job i end) ≡ [] → DeclSeen job at end None
  unfolding gather
  decl_end h = record { says = sym (inv ∙ rw h); goes = tt }

module _ (job : Bytes) (at end i e : ℕ) (inv : decls_in (section job at end) ≡ decls_in (section job i end)) (found : LineAt job i end e) where
  module _ (line : Bytes) (el : line ≡ take (e - i) (drop i job)) where
    pub decl_skip : decl_meant (drop 5 line) None ≡ decl_here line → decls_in (section job at end) ≡ decls_in (section job (e + 1) end)
    unfolding gather
    decl_skip ef = inv ∙ rw (found.cut.line found.before, ← el, ← ef)

    module _ (f : DeclForm) (ef : decl_meant (drop 5 line) (Some f) ≡ decl_here line) (p : Passed job at i) (v : Bytes) (ev : v ≡ drop 5 line) (r : Span) (er : r ≡ span_in v e f.name (length v)) where
      pub decl_good : DeclSeen job at end (Some (record { kind = f.kind; dims = f.dims; name = r; next = (e + 1) }))
      unfolding gather
      decl_good =
          record {
            says = sym (inv ∙ rw (found.cut.line found.before, ← el, ← ef, rest_is job i end e found line el v ev f.name r er));
            goes = turn_stepped job i end e found at p;
          }

pub ruleset decl_turns = (rules, turn_from, turn_less, turn_value, turn_passed, passed_here, decl_end, decl_skip, decl_good)

-- ---- inst lines
module _ (job : Bytes) (at end i : ℕ) (inv : insts_in (section job at end) ≡ insts_in (section job i end)) where
  pub inst_end : lines_in (section job i end) ≡ [] → InstSeen job at end None
  unfolding insts_of
  inst_end h = record { says = sym (inv ∙ rw h); goes = tt }

module _ (job : Bytes) (at end i e : ℕ) (inv : insts_in (section job at end) ≡ insts_in (section job i end)) (found : LineAt job i end e) where
  module _ (line : Bytes) (el : line ≡ take (e - i) (drop i job)) where
    pub inst_skip : inst_meant (drop 5 line) None ≡ inst_here line → insts_in (section job at end) ≡ insts_in (section job (e + 1) end)
    unfolding insts_of
    inst_skip ef = inv ∙ rw (found.cut.line found.before, ← el, ← ef)

    module _ (f : InstForm) (ef : inst_meant (drop 5 line) (Some f) ≡ inst_here line) (p : Passed job at i) (v : Bytes) (ev : v ≡ drop 5 line) (r : Span) (er : r ≡ span_in v e f.name f.len) (q : Span) (eq : q ≡ span_in v e f.kind (length v)) where
      pub inst_good : InstSeen job at end (Some (record { dims = f.dims; name = r; kind = q; next = (e + 1) }))
      unfolding insts_of
      inst_good =
          record {
            says = sym (inv ∙ rw (found.cut.line found.before, ← el, ← ef, part_is_lem job i end e found line el v ev f.name f.len r er, rest_is job i end e found line el v ev f.kind q eq));
            goes = turn_stepped job i end e found at p;
          }

pub ruleset inst_turns = (rules, turn_from, turn_less, turn_value, turn_passed, passed_here, inst_end, inst_skip, inst_good)

-- ---- connection lines
pub inst_asked : (line : Bytes) (f : Option InstForm) → inst_meant (drop 5 line) f ≡ inst_here line → is_Some f ≡ is_some (inst_here line)
inst_asked line None e = rw (← e)
inst_asked line (Some f) e = rw (← e)

pub ruleset inst_asks = (rules, inst_asked)

not_some : {A : Type 0} (o : Option A) → false ≡ is_some o → o ≡ None
not_some None e = refl
not_some (Some a) e = absurd (no_true e)

module _ (job : Bytes) (at end i : ℕ) (inv : conns_in (section job at end) ≡ conns_in (section job i end)) where
  pub conn_end : lines_in (section job i end) ≡ [] → ConnSeen job at end None
  unfolding conns_of
  conn_end h = record { says = sym (inv ∙ rw h); goes = tt }

module _ (job : Bytes) (at end i e : ℕ) (inv : conns_in (section job at end) ≡ conns_in (section job i end)) (found : LineAt job i end e) where
  module _ (line : Bytes) (el : line ≡ take (e - i) (drop i job)) (t : Bool) (et : t ≡ is_some (inst_here line)) where
    pub conn_stop : t ≡ true → ConnSeen job at end None
    unfolding conns_of
    conn_stop g = record { says = sym (inv ∙ rw (found.cut.line found.before, ← el) (go (inst_here line) (sym g ∙ et))); goes = tt }
      where
        go : (o : Option Inst) → true ≡ is_some o → conns_step o (conn_here line) (conns_in (section job (e + 1) end)) ≡ []
        go None q = absurd (no_true (sym q))
        go (Some a) q = refl

    module _ (g : t ≡ false) where
      none_here : inst_here line ≡ None
      none_here = not_some (inst_here line) (sym g ∙ et)

      pub conn_skip : conn_meant (drop 5 line) None ≡ conn_here line → conns_in (section job at end) ≡ conns_in (section job (e + 1) end)
      unfolding conns_of
      conn_skip ef = inv ∙ rw (found.cut.line found.before, ← el, none_here, ← ef)

      module _ (p : Passed job at i) (v : Bytes) (ev : v ≡ drop 5 line) (f : ConnForm) (ef : conn_meant (drop 5 line) (Some f) ≡ conn_here line) (r : ConnAt) (er : r ≡ conn_placed v e f (e + 1)) where
        pub conn_good : ConnSeen job at end (Some r)
        unfolding conns_of
        conn_good = rw er (go f ef)
          where
            go : (f : ConnForm) → conn_meant (drop 5 line) (Some f) ≡ conn_here line → ConnSeen job at end (Some (conn_placed v e f (e + 1)))
            go connf.Star ef =
                record { says = sym (inv ∙ rw (found.cut.line found.before, ← el, none_here, ← ef)); goes = turn_stepped job i end e found at p }
            go (connf.Implicit x) ef =
                record {
                  says = sym (inv ∙ rw (found.cut.line found.before, ← el, none_here, ← ef, rest_is job i end e found line el v ev x (span_in v e x (length v)) refl));
                  goes = turn_stepped job i end e found at p;
                }
            go (connf.Named x l y) ef =
                record {
                  says =
                      sym (inv ∙ rw (
                        found.cut.line found.before,
                        ← el,
                        none_here,
                        ← ef,
                        part_is_lem job i end e found line el v ev x l (span_in v e x l) refl,
                        rest_is job i end e found line el v ev y (span_in v e y (length v)) refl,
                      ));
                  goes = turn_stepped job i end e found at p;
                }
            go (connf.Pos y) ef =
                record {
                  says = sym (inv ∙ rw (found.cut.line found.before, ← el, none_here, ← ef, rest_is job i end e found line el v ev y (span_in v e y (length v)) refl));
                  goes = turn_stepped job i end e found at p;
                }

pub ruleset conn_turns = (rules, turn_from, turn_less, turn_value, turn_passed, passed_here, conn_end, conn_stop, conn_skip, conn_good)

-- ---- parts of a value
module _ (v : Bytes) (n len : ℕ) (w : Bytes) (ew : w ≡ drop n v) where
  pub part_fits : (e : ℕ) → length v ≤ e → length w ≤ e
  part_fits e h = omega (arith, ap length ew, length-drop n v)

  pub part_placed : (e : ℕ) (p : Bytes) → p ≡ take len (drop 0 w) → record { at = e - length w; len = length p } ≡ span_in v e n len
  part_placed e p ep = rw (ep, ew)

pub ruleset spans = (rules, part_fits, part_placed)

module _ (v : Bytes) (e : ℕ) (f : ConnForm) (next : ℕ) where
  pub star_placed : f ≡ connf.Star → conn.Star next ≡ conn_placed v e f next
  star_placed g = rw g

  pub implicit_placed : (p : ℕ) → f ≡ connf.Implicit p → (r : Span) → r ≡ span_in v e p (length v) → conn.Implicit r next ≡ conn_placed v e f next
  implicit_placed p g r er = rw (g, er)

  pub pos_placed : (n : ℕ) → f ≡ connf.Pos n → (r : Span) → r ≡ span_in v e n (length v) → conn.Pos r next ≡ conn_placed v e f next
  pos_placed n g r er = rw (g, er)

  pub named_placed : (p l n : ℕ) → f ≡ connf.Named p l n → (r : Span) → r ≡ span_in v e p l → (q : Span) → q ≡ span_in v e n (length v) → conn.Named r q next ≡ conn_placed v e f next
  named_placed p l n g r er q eq = rw (g, er, eq)

pub ruleset conn_ats = (rules, star_placed, implicit_placed, pos_placed, named_placed)
