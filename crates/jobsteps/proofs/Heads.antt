-- Steps at lines that stand alone: `top=`, `override=`, `start=`, `style=`, `end=`. l is the line that was lent, v its value.
-- Assumes nothing.
use mathlib.Core.Path.{◌≡◌, refl, ◌∙◌, sym}
use Prim.Native.Nat.{ℕ, ◌+◌, ◌-◌}
use native.Mathlib.Omega.{arith}
use mathlib.Core.Bool.{Bool, true, false, not, ◌&&◌}
use mathlib.Core.List.{List, [], ◌∷◌}
use Rattle.std.specs.Prelude.{Option, None, Some, Result, Ok, Err}
use lib.ListN.{length, take, drop}
use borrow.Author.Tests.{not-true, not-false}
use Rattle.text.specs.Ascii.{Bytes, ascii}
use Rattle.text.specs.Compare.{same, starts_with}
use Rattle.text.specs.Sames.{both, no_true}
use Rattle.fields.specs.Fields.{is_name, is_path, style_of}
use Rattle.fields.specs.Meant.{style_meant, style_row}
use Rattle.fields.specs.declared.Style.{Style}
use Rattle.joblines.specs.Lines.{Read, refuse, on, due_override, due_file, when, checks, first_of, top_line, override_line, start_line, style_line, end_line}
use Rattle.joblines.specs.Lines as Lines
use Rattle.joblines.specs.Sections.{lines_in, gather, insts_of}
use Rattle.jobindex.specs.declared.Header.{Header}
use Rattle.jobindex.specs.declared.Open.{Open}
use Rattle.jobindex.specs.Index.{bytes_at, rows, job_of}
use Rattle.jobsteps.specs.declared.Due.{Due}
use Rattle.jobsteps.specs.declared.Due.TheVariants as due
use Rattle.jobsteps.specs.declared.Step.{Step}
use Rattle.joblines.specs.Forms.{number_of}
use Rattle.joblines.specs.declared.Refusal.{Refusal}
use Rattle.joblines.specs.declared.Refusal.TheVariants.{Malformed}
use Rattle.jobsteps.specs.State.{line_of, IsLine, Outside, StyleDue, Inside, Alone, Stepped}
use Rattle.jobsteps.proofs.Cutting.{from_end, value_is, section_none, section_whole}

-- the reading goes on
abbrev pub on_to : ℕ → Due → Header → Open → Result Step Refusal
on_to at d head o = Ok (record { at = at; due = d; head = head; opened = o })

-- a line that is refused leaves all as it is
pub refused_is : (job index : List ℕ) (from : ℕ) (x : Refusal) (read : Read) → refuse (number_of x) ≡ read → Stepped job index index from read (Err x)
refused_is job index from x read e = record { says = e; stands = tt; long = refl; kept = refl }

pub outside_on : (job : Bytes) (head : Header) (from end : ℕ) → IsLine job from end → Outside job head from → Outside job head (end + 1)
outside_on job head from end L o = record { here = omega (arith, L.inside); files = o.files; modules = o.modules }

module _ (job index : List ℕ) (from end : ℕ) (head : Header) (o : Open) (l : Bytes) (el : l ≡ take (end - from) (drop from job)) where
  abbrev rest : Bytes
  rest = drop (end + 1) job

  module _ (pre : Alone job from end (Outside job head from)) where
    -- ---- top=NAME
    module _ (t : Bool) (et : t ≡ (starts_with (ascii "top=") l && is_name (drop 4 l))) where
      pub top_not : not t ≡ true → Stepped job index index from (first_of (top_line ∷ []) (job_of job index head) (line_of job from end) rest) (Err Malformed)
      unfolding top_line
      top_not h = refused_is job index from Malformed _ (rw (← el) (go (starts_with (ascii "top=") l) (is_name (drop 4 l)) (sym et ∙ not-true t h)))
        where
          go : (a b : Bool) → (a && b) ≡ false → refuse 4 ≡ Lines.or_else (when a (checks (when b (drop 4 l)) true (λ _. true) (λ n. on due_override (record { top = n; override = (job_of job index head).override; start = (job_of job index head).start; files = (job_of job index head).files; modules = (job_of job index head).modules }) rest))) (refuse 4)
          go true true e = absurd (no_true (sym e))
          go true false e = refl
          go false b e = refl

      pub top_on : not t ≡ false → (v : Bytes) → v ≡ drop 4 l → Stepped job index index from (first_of (top_line ∷ []) (job_of job index head) (line_of job from end) rest)
          (on_to (end + 1) due.Override (record { top = record { at = from + 4; len = length v }; over = head.over; start = head.start; files = head.files; modules = head.modules; startfile = head.startfile; topmodule = head.topmodule }) o)
      unfolding top_line
      top_on h v ev =
          let b = both (starts_with (ascii "top=") l) (is_name (drop 4 l)) (sym et ∙ not-false t h) in
          record {
            says = rw (← el, b.0, b.1, ev, el, value_is job from end pre.line 4);
            stands = (omega (arith, from_end job from end pre.line), record { here = omega (arith, pre.line.inside); files = pre.stands.files; modules = pre.stands.modules });
            long = refl;
            kept = refl;
          }

    -- ---- override=PATH
    module _ (t : Bool) (et : t ≡ starts_with (ascii "override=") l) where
      pub override_not : not t ≡ true → Stepped job index index from (first_of (override_line ∷ []) (job_of job index head) (line_of job from end) rest) (Err Malformed)
      unfolding override_line
      override_not h = refused_is job index from Malformed _ (rw (← el, ← et, not-true t h))

      pub override_on : not t ≡ false → (v : Bytes) → v ≡ drop 9 l → Stepped job index index from (first_of (override_line ∷ []) (job_of job index head) (line_of job from end) rest)
          (on_to (end + 1) due.Start (record { top = head.top; over = record { at = from + 9; len = length v }; start = head.start; files = head.files; modules = head.modules; startfile = head.startfile; topmodule = head.topmodule }) o)
      unfolding override_line
      override_on h v ev =
          record {
            says = rw (← el, ← et, not-false t h, ev, el, value_is job from end pre.line 9);
            stands = (omega (arith, from_end job from end pre.line), record { here = omega (arith, pre.line.inside); files = pre.stands.files; modules = pre.stands.modules });
            long = refl;
            kept = refl;
          }

    -- ---- start=PATH
    module _ (t : Bool) (et : t ≡ (starts_with (ascii "start=") l && is_path (drop 6 l))) where
      pub start_not : not t ≡ true → Stepped job index index from (first_of (start_line ∷ []) (job_of job index head) (line_of job from end) rest) (Err Malformed)
      unfolding start_line
      start_not h = refused_is job index from Malformed _ (rw (← el) (go (starts_with (ascii "start=") l) (is_path (drop 6 l)) (sym et ∙ not-true t h)))
        where
          go : (a b : Bool) → (a && b) ≡ false → refuse 4 ≡ Lines.or_else (when a (checks (when b (drop 6 l)) true (λ _. true) (λ n. on due_file (record { top = (job_of job index head).top; override = (job_of job index head).override; start = n; files = (job_of job index head).files; modules = (job_of job index head).modules }) rest))) (refuse 4)
          go true true e = absurd (no_true (sym e))
          go true false e = refl
          go false b e = refl

      pub start_on : not t ≡ false → (v : Bytes) → v ≡ drop 6 l → Stepped job index index from (first_of (start_line ∷ []) (job_of job index head) (line_of job from end) rest)
          (on_to (end + 1) due.File (record { top = head.top; over = head.over; start = record { at = from + 6; len = length v }; files = head.files; modules = head.modules; startfile = head.startfile; topmodule = head.topmodule }) o)
      unfolding start_line
      start_on h v ev =
          let b = both (starts_with (ascii "start=") l) (is_path (drop 6 l)) (sym et ∙ not-false t h) in
          record {
            says = rw (← el, b.0, b.1, ev, el, value_is job from end pre.line 6);
            stands = (omega (arith, from_end job from end pre.line), record { here = omega (arith, pre.line.inside); files = pre.stands.files; modules = pre.stands.modules });
            long = refl;
            kept = refl;
          }

    -- ---- end=
    module _ (t : Bool) (et : t ≡ same l (ascii "end=")) where
      pub end_not : not t ≡ true → Stepped job index index from (first_of (end_line ∷ []) (job_of job index head) (line_of job from end) rest) (Err Malformed)
      unfolding end_line
      end_not h = refused_is job index from Malformed _ (rw (← el, ← et, not-true t h))

      pub end_on : not t ≡ false → Stepped job index index from (first_of (end_line ∷ []) (job_of job index head) (line_of job from end) rest) (on_to (end + 1) due.Nothing head o)
      unfolding end_line
      end_on h =
          record {
            says = rw (← el, ← et, not-false t h);
            stands = (omega (arith, from_end job from end pre.line), outside_on job head from end pre.line pre.stands);
            long = refl;
            kept = refl;
          }

-- ---- style=, for the module with the name at `at`
module _ (job index : List ℕ) (from end : ℕ) (head : Header) (l : Bytes) (el : l ≡ take (end - from) (drop from job)) where
  module _ (at len : ℕ) (pre : Alone job from end (StyleDue job head at len from)) (t : Bool) (et : t ≡ starts_with (ascii "style=") l) where
    abbrev name : Bytes
    name = bytes_at job at len

    pub style_other : not t ≡ true → Stepped job index index from (first_of (style_line name ∷ []) (job_of job index head) (line_of job from end) (drop (end + 1) job)) (Err Malformed)
    unfolding style_line
    style_other h = refused_is job index from Malformed _ (rw (← el, ← et, not-true t h))

    module _ (h : not t ≡ false) (v : Bytes) (ev : v ≡ drop 6 l) (s : Option Style) (es : style_meant s ≡ style_of v) where
      pub style_not : s ≡ None → Stepped job index index from (first_of (style_line name ∷ []) (job_of job index head) (line_of job from end) (drop (end + 1) job)) (Err Malformed)
      unfolding style_line
      style_not g = refused_is job index from Malformed _ (rw (← el, ← et, not-false t h, ← ev, ← es, g))

      module _ (k : Style) (ek : s ≡ Some k) where
        abbrev opened : Open
        opened =
            record {
              name = record { at = at; len = len };
              style = k;
              ports = end + 1;
              decls = end + 1;
              insts = end + 1;
              end = end + 1;
              nports = 0;
              ndecls = 0;
              ninsts = 0;
              nconns = 0;
            }

        style_inside : Inside job index head opened (end + 1)
        unfolding rows lines_in gather insts_of
        style_inside =
            record {
              here = omega (arith, pre.line.inside);
              files = pre.stands.out.files;
              modules = pre.stands.room;
              name = pre.stands.span;
              ends = refl;
              ports_first = omega arith;
              decls_next = omega arith;
              insts_last = omega arith;
              ports_whole = section_whole job (end + 1);
              decls_whole = section_whole job (end + 1);
              insts_whole = section_whole job (end + 1);
              ports_count = rw (section_none job (end + 1));
              decls_count = rw (section_none job (end + 1));
              insts_few = omega arith;
              insts_names = rw (section_none job (end + 1));
              conns_count = rw (section_none job (end + 1));
            }

        pub style_on : Stepped job index index from (first_of (style_line name ∷ []) (job_of job index head) (line_of job from end) (drop (end + 1) job)) (on_to (end + 1) due.Ports head opened)
        unfolding style_line lines_in gather insts_of
        style_on =
            record {
              says = rw (← el, ← et, not-false t h, ← ev, ← es, ek, style_row k, section_none job (end + 1));
              stands = (omega (arith, from_end job from end pre.line), record { within = style_inside; decls_here = refl; insts_here = refl });
              long = refl;
              kept = refl;
            }
