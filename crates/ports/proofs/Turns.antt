-- One turn along the names of a module.
-- Assumes nothing.
use mathlib.Core.Path.{◌≡◌, refl, ap, ◌∙◌, sym}
use Prim.Native.Nat.{ℕ, ◌+◌, ◌-◌, ◌<◌, ◌≤◌}
use native.Mathlib.Omega.{arith}
use mathlib.Core.Bool.{Bool, true, false, not}
use mathlib.Core.List.{List, [], ◌∷◌, ◌++◌, append_assoc}
use Rattle.std.specs.Prelude.{Option, None, Some}
use borrow.Author.Rules.{rules}
use borrow.Author.Tests.{eq-eqb, ne_eqb, not-true, not-false}
use Rattle.text.specs.Ascii.{Bytes}
use Rattle.text.specs.Compare.{same}
use Rattle.text.specs.Scan.{any}
use Rattle.fields.specs.Meant.{dims_is, dir_is, kind_is}
use Rattle.fields.specs.declared.Dims.{Dims}
use Rattle.fields.specs.declared.Kind.{Kind as Kind·code}
use Rattle.joblines.specs.Job.{Decl}
use Rattle.joblines.specs.Sections.{with_some, lines_in, gather, decl_here, ports_in, decls_in}
use Rattle.jobindex.specs.Index.{num, row_at, section}
use Rattle.design.specs.Lists.{is_in}
use Rattle.design.specs.Ports.{is_signal}
use Rattle.lines.specs.Cursors.{spanned, Stepped, PortSeen, DeclSeen}
use Rattle.lines.specs.Steps.{Passed, passed_none, stepped_on, section_two}
use Rattle.lines.specs.declared.PortAt.{PortAt}
use Rattle.lines.specs.declared.DeclAt.{DeclAt}
use Rattle.ports.specs.declared.NameAt.{NameAt}
use Rattle.ports.specs.declared.Cursor.{Cursor}
use Rattle.ports.specs.declared.Cursor.TheVariants as cursor
use Rattle.ports.specs.declared.Step.{Step}
use Rattle.ports.specs.declared.body.Pick.{Pick}
use Rattle.ports.specs.declared.body.Pick.TheVariants as pick
use Rattle.ports.specs.Headers.{out_by, outputs_by, others_by, HeaderSeen, OtherSeen}
use Rattle.ports.specs.Bodies.{pick_is, picked, picked_append, BodySeen}
use Rattle.ports.specs.Fresh.{fresh, fresh_old, fresh_new, in_append, one_front}
use Rattle.ports.specs.Cursors.{ports_from, decls_from, decls_end, header_end, headed, bodied, fresh_from, BodyAt, FreshSeen, CursorAt, AmongPorts, outputs_from, signals_from, OutputSeen, CandidateSeen, InputSeen}

-- ---- places
module _ (job : Bytes) (at i end next : ℕ) (p : Passed job at i) (s : Stepped job i end next) where
  stepped_from : Stepped job at end next
  stepped_from = record { further = omega (arith, p.from, s.further); within = s.within; inside = s.inside; whole = (stepped_on job at i next end p s).whole }

-- a list, one name further
one_in : (name n : Bytes) (l : List Bytes) (b : Bool) → b ≡ same name n → b ≡ true → true ≡ is_in name (n ∷ l)
unfolding any
one_in name n l b e h = rw (← e, h)

one_out : (name n : Bytes) (l : List Bytes) (b : Bool) → b ≡ same name n → b ≡ false → is_in name (n ∷ l) ≡ is_in name l
unfolding any
one_out name n l b e h = rw (← e, h)

-- ---- the next output port of a header
module _ (job : Bytes) (at end : ℕ) (out : Bool) (i : ℕ) (o : Bool) (inv : outputs_by out (ports_in (section job at end)) ≡ outputs_by o (ports_in (section job i end))) where
  pub header_none : PortSeen job i end None → HeaderSeen job at end out None
  unfolding outputs_by
  header_none seen = record { says = sym (inv ∙ rw (← seen.says)); goes = tt }

  module _ (r : PortAt) (seen : PortSeen job i end (Some r)) where
    on_port : Stepped job i end r.next
    on_port = seen.goes

    pub header_less : end - r.next < end - i
    header_less = omega (arith, on_port.further, on_port.within)

    pub header_passed : Passed job at i → Passed job at r.next
    header_passed p = stepped_on job at i r.next end p on_port

    module _ (b : Bool) (eb : b ≡ out_by o (dir_is r.dir)) where
      pub header_here : Passed job at i → b ≡ true → HeaderSeen job at end out (Some (record { name = r.name; next = r.next }))
      unfolding outputs_by
      header_here p h = record { says = sym (inv ∙ rw (← seen.says, ← eb, h)); goes = stepped_from job at i end r.next p on_port }

      pub header_on : b ≡ false → outputs_by out (ports_in (section job at end)) ≡ outputs_by false (ports_in (section job r.next end))
      unfolding outputs_by
      header_on h = inv ∙ rw (← seen.says, ← eb, h)

pub passed_start : (job : Bytes) (at : ℕ) → Passed job at at
passed_start job at = passed_none job at

pub ruleset header_turns = (rules, passed_start, header_none, header_less, header_passed, header_here, header_on)

-- ---- the next other port of a header
module _ (job : Bytes) (at end i : ℕ) (o : Bool) (inv : others_by false (ports_in (section job at end)) ≡ others_by o (ports_in (section job i end))) where
  pub next_none : PortSeen job i end None → OtherSeen job at end None
  unfolding others_by
  next_none seen = record { says = sym (inv ∙ rw (← seen.says)) }

  module _ (r : PortAt) (seen : PortSeen job i end (Some r)) where
    on_next : Stepped job i end r.next
    on_next = seen.goes

    pub next_less : end - r.next < end - i
    next_less = omega (arith, on_next.further, on_next.within)

    module _ (b : Bool) (eb : b ≡ out_by o (dir_is r.dir)) where
      pub next_here : b ≡ false → OtherSeen job at end (Some (record { name = r.name; next = r.next }))
      unfolding others_by
      next_here h = record { says = sym (inv ∙ rw (← seen.says, ← eb, h)) }

      pub next_on : b ≡ true → others_by false (ports_in (section job at end)) ≡ others_by true (ports_in (section job r.next end))
      unfolding others_by
      next_on h = inv ∙ rw (← seen.says, ← eb, h)

pub ruleset next_turns = (rules, next_none, next_less, next_here, next_on)

-- ---- whether a name is an output port of a header
module _ (job : Bytes) (at end : ℕ) (name : Bytes) (i : ℕ) (o : Bool) (inv : is_in name (outputs_by false (ports_in (section job at end))) ≡ is_in name (outputs_by o (ports_in (section job i end)))) where
  pub output_none : HeaderSeen job i end o None → false ≡ is_in name (outputs_by false (ports_in (section job at end)))
  unfolding any
  output_none seen = sym (inv ∙ rw (← seen.says))

  module _ (r : NameAt) (seen : HeaderSeen job i end o (Some r)) where
    on_output : Stepped job i end r.next
    on_output = seen.goes

    pub output_less : end - r.next < end - i
    output_less = omega (arith, on_output.further, on_output.within)

    module _ (p : Bytes) (ep : p ≡ spanned job r.name) (b : Bool) (eb : b ≡ same name p) where
      pub output_here : b ≡ true → true ≡ is_in name (outputs_by false (ports_in (section job at end)))
      output_here h = sym (inv ∙ rw (← seen.says) (sym (one_in name (spanned job r.name) (outputs_by true (ports_in (section job r.next end))) b (eb ∙ ap (same name) ep) h)))

      pub output_on : b ≡ false → is_in name (outputs_by false (ports_in (section job at end))) ≡ is_in name (outputs_by true (ports_in (section job r.next end)))
      output_on h = inv ∙ rw (← seen.says) (one_out name (spanned job r.name) (outputs_by true (ports_in (section job r.next end))) b (eb ∙ ap (same name) ep) h)

pub ruleset output_turns = (rules, output_none, output_less, output_here, output_on)

-- ---- the next declaration of a kind
module _ (s : Bool) (k : Kind·code) (es : s ≡ is_signal (kind_is k)) (d : Dims) where
  pub signal_not : not s ≡ true → (p : Pick) → p ≡ pick.Signal → false ≡ pick_is p (kind_is k) (dims_is d)
  signal_not h p e = rw (e, ← es, not-true s h)

  pub signal_is : not s ≡ false → (q : Bool) → q ≡ not (dims_is d) → (p : Pick) → p ≡ pick.Signal → q ≡ pick_is p (kind_is k) (dims_is d)
  signal_is h q eq p e = rw (e, ← es, not-false s h) eq

pub ruleset pick_cases = (rules, signal_not, signal_is)

module _ (job : Bytes) (at end : ℕ) (p : Pick) (i : ℕ) (inv : picked p (decls_in (section job at end)) ≡ picked p (decls_in (section job i end))) where
  pub body_none : DeclSeen job i end None → BodySeen job at end p None
  unfolding picked
  body_none seen = record { says = sym (inv ∙ rw (← seen.says)); goes = tt }

  module _ (r : DeclAt) (seen : DeclSeen job i end (Some r)) where
    on_decl : Stepped job i end r.next
    on_decl = seen.goes

    pub body_less : end - r.next < end - i
    body_less = omega (arith, on_decl.further, on_decl.within)

    pub body_passed : Passed job at i → Passed job at r.next
    body_passed q = stepped_on job at i r.next end q on_decl

    module _ (b : Bool) (eb : b ≡ pick_is p (kind_is r.kind) (dims_is r.dims)) where
      pub body_here : Passed job at i → b ≡ true → BodySeen job at end p (Some (record { name = r.name; next = r.next }))
      unfolding picked
      body_here q h = record { says = sym (inv ∙ rw (← seen.says, ← eb, h)); goes = stepped_from job at i end r.next q on_decl }

      pub body_on : b ≡ false → picked p (decls_in (section job at end)) ≡ picked p (decls_in (section job r.next end))
      unfolding picked
      body_on h = inv ∙ rw (← seen.says, ← eb, h)

pub ruleset body_turns = (rules, passed_start, body_none, body_less, body_passed, body_here, body_on)

-- ---- whether a name is one of a kind
module _ (job : Bytes) (at end : ℕ) (p : Pick) (name : Bytes) (i : ℕ) (inv : is_in name (picked p (decls_in (section job at end))) ≡ is_in name (picked p (decls_in (section job i end)))) where
  pub of_none : BodySeen job i end p None → false ≡ is_in name (picked p (decls_in (section job at end)))
  unfolding any
  of_none seen = sym (inv ∙ rw (← seen.says))

  module _ (r : NameAt) (seen : BodySeen job i end p (Some r)) where
    on_of_lem : Stepped job i end r.next
    on_of_lem = seen.goes

    pub of_less : end - r.next < end - i
    of_less = omega (arith, on_of_lem.further, on_of_lem.within)

    module _ (q : Bytes) (eq : q ≡ spanned job r.name) (b : Bool) (eb : b ≡ same name q) where
      pub of_here : b ≡ true → true ≡ is_in name (picked p (decls_in (section job at end)))
      of_here h = sym (inv ∙ rw (← seen.says) (sym (one_in name (spanned job r.name) (picked p (decls_in (section job r.next end))) b (eb ∙ ap (same name) eq) h)))

      pub of_on : b ≡ false → is_in name (picked p (decls_in (section job at end))) ≡ is_in name (picked p (decls_in (section job r.next end)))
      of_on h = inv ∙ rw (← seen.says) (one_out name (spanned job r.name) (picked p (decls_in (section job r.next end))) b (eb ∙ ap (same name) eq) h)

pub ruleset of_turns = (rules, of_none, of_less, of_here, of_on)

-- ---- the next new output port of a body
gather_append : (ls ms : List Bytes) → gather decl_here (ls ++ ms) ≡ gather decl_here ls ++ gather decl_here ms
unfolding gather
gather_append [] ms = refl
gather_append (l ∷ ls) ms = go (decl_here l) (gather_append ls ms)
  where
    go : (o : Option Decl) → gather decl_here (ls ++ ms) ≡ gather decl_here ls ++ gather decl_here ms → with_some o (gather decl_here (ls ++ ms)) ≡ with_some o (gather decl_here ls) ++ gather decl_here ms
    go None e = e
    go (Some d) e = ap (λ (l : List Decl). d ∷ l) e

module _ (job : Bytes) (a b c : ℕ) (p : Passed job a b) (h : b ≤ c) where
  bodied_two : bodied job a c ≡ bodied job a b ++ bodied job b c
  bodied_two =
      rw (section_two job a b c p.from h, p.whole (section job b c), gather_append (lines_in (section job a b)) (lines_in (section job b c)))
      (picked_append pick.Output (decls_in (section job a b)) (decls_in (section job b c)))

-- from `at` to i all were old
pub record Going (job : Bytes) (index : List ℕ) (k at p h d e i : ℕ) : Type 0 where
  pub p_is : p ≡ ports_from index k
  pub h_is : h ≡ header_end index k
  pub d_is : d ≡ decls_from index k
  pub e_is : e ≡ decls_end index k
  pub body : BodyAt job index k i
  pub left : fresh_from job index k at ≡ fresh_from job index k i

module _ (job : Bytes) (index : List ℕ) (k at p h d e : ℕ) where
  pub going_start : p ≡ ports_from index k → h ≡ header_end index k → d ≡ decls_from index k → e ≡ decls_end index k → BodyAt job index k at → Going job index k at p h d e at
  going_start ep eh ed ee b = record { p_is = ep; h_is = eh; d_is = ed; e_is = ee; body = b; left = refl }

module _ (job : Bytes) (index : List ℕ) (k at p h d e i : ℕ) (inv : Going job index k at p h d e i) where
  pub fresh_none : BodySeen job i e pick.Output None → FreshSeen job index k at None
  unfolding fresh
  fresh_none seen =
      let l : bodied job i (decls_end index k) ≡ [] = rw (← inv.e_is, ← seen.says) in
      record { says = sym (inv.left ∙ rw l); goes = tt }

  module _ (r : NameAt) (seen : BodySeen job i e pick.Output (Some r)) where
    on_fresh : Stepped job i e r.next
    on_fresh = seen.goes

    pub fresh_less : e - r.next < e - i
    fresh_less = omega (arith, on_fresh.further, on_fresh.within)

    fresh_at : BodyAt job index k r.next
    fresh_at = stepped_on job (decls_from index k) i r.next e inv.body on_fresh

    abbrev before : List Bytes
    before = headed job index k ++ bodied job (decls_from index k) i

    list_from : bodied job i (decls_end index k) ≡ spanned job r.name ∷ bodied job r.next (decls_end index k)
    list_from = rw (← inv.e_is, ← seen.says)

    only : bodied job i r.next ≡ spanned job r.name ∷ []
    only =
        let w : Passed job i r.next = record { from = omega (arith, on_fresh.further); whole = on_fresh.whole } in
        let v : r.next ≤ decls_end index k = omega (arith, on_fresh.within, inv.e_is) in
        one_front (bodied job i r.next) (bodied job r.next (decls_end index k)) (spanned job r.name) (sym (bodied_two job i r.next (decls_end index k) w v) ∙ list_from)

    before_next : before ++ (spanned job r.name ∷ []) ≡ headed job index k ++ bodied job (decls_from index k) r.next
    before_next =
        append_assoc (headed job index k) (bodied job (decls_from index k) i) (spanned job r.name ∷ [])
        ∙ ap (λ (l : List Bytes). headed job index k ++ l) (rw (← only) (sym (bodied_two job (decls_from index k) i r.next inv.body (omega (arith, on_fresh.further)))))

    old : is_in (spanned job r.name) before ≡ true → Going job index k at p h d e r.next
    old t = record { p_is = inv.p_is; h_is = inv.h_is; d_is = inv.d_is; e_is = inv.e_is; body = fresh_at; left = inv.left ∙ rw list_from (fresh_old before (spanned job r.name) (bodied job r.next (decls_end index k)) t ∙ ap (λ (l : List Bytes). fresh l (bodied job r.next (decls_end index k))) before_next) }

    module _ (x : Bytes) (ex : x ≡ spanned job r.name) (b : Bool) (eb : b ≡ is_in x (outputs_by false (ports_in (section job p h)))) where
      in_head : is_in (spanned job r.name) (headed job index k) ≡ b
      in_head = sym (eb ∙ rw (ex, inv.p_is, inv.h_is))

      pub fresh_headed : b ≡ true → Going job index k at p h d e r.next
      fresh_headed f = old (in_append (spanned job r.name) (headed job index k) (bodied job (decls_from index k) i) ∙ rw (in_head, f))

      module _ (f : b ≡ false) (c : Bool) (ec : c ≡ is_in x (picked pick.Output (decls_in (section job d i)))) where
        in_before : is_in (spanned job r.name) before ≡ c
        in_before = in_append (spanned job r.name) (headed job index k) (bodied job (decls_from index k) i) ∙ rw (in_head, f) (sym (ec ∙ rw (ex, inv.d_is)))

        pub fresh_bodied : c ≡ true → Going job index k at p h d e r.next
        fresh_bodied t = old (in_before ∙ t)

        pub fresh_here : c ≡ false → FreshSeen job index k at (Some r)
        fresh_here t =
            let s : fresh_from job index k i ≡ spanned job r.name ∷ fresh_from job index k r.next =
            rw list_from (fresh_new before (spanned job r.name) (bodied job r.next (decls_end index k)) (in_before ∙ t) ∙ ap (λ (l : List Bytes). spanned job r.name ∷ fresh l (bodied job r.next (decls_end index k))) before_next) in
            record { says = sym (inv.left ∙ s); goes = fresh_at }

pub ruleset fresh_turns = (rules, going_start, fresh_none, fresh_less, fresh_here)

pub ruleset fresh_heads = (rules, fresh_headed)

pub ruleset fresh_bodies = (rules, fresh_bodied)

-- ---- the next output port
module _ (job : Bytes) (index : List ℕ) (k at : ℕ) where
  pub fresh_end : FreshSeen job index k at None → OutputSeen job index k (cursor.Body at) None
  fresh_end seen = record { says = seen.says; goes = tt; ports = tt }

  pub fresh_step : (r : NameAt) → FreshSeen job index k at (Some r) → OutputSeen job index k (cursor.Body at) (Some (record { name = r.name; next = (cursor.Body r.next) }))
  fresh_step r seen = record { says = seen.says; goes = seen.goes; ports = tt }

pub ruleset fresh_steps = (rules, fresh_end, fresh_step)

module _ (job : Bytes) (index : List ℕ) (k : ℕ) (c : Cursor) where
  pub body_first : (d : ℕ) → d ≡ decls_from index k → BodyAt job index k d
  body_first d e = rw e (passed_none job (decls_from index k))

  pub body_cursor : (at : ℕ) → c ≡ cursor.Body at → CursorAt job index k c → BodyAt job index k at
  body_cursor at g p = rw g at p

  module _ (at : ℕ) (out : Bool) (g : c ≡ cursor.Header at out) (h : ℕ) (eh : h ≡ header_end index k) where
    pub output_first : HeaderSeen job at h out None → (d : ℕ) → d ≡ decls_from index k → (q : Option Step) → OutputSeen job index k (cursor.Body d) q → OutputSeen job index k c q
    output_first seen d ed q s =
        let l : outputs_by out (ports_in (section job at (header_end index k))) ≡ [] = rw (← eh, ← seen.says) in
        rw g (record { says = s.says ∙ rw (ed, l); goes = s.goes; ports = s.ports })

    pub output_header : (r : NameAt) → HeaderSeen job at h out (Some r) → OutputSeen job index k c (Some (record { name = r.name; next = (cursor.Header r.next true) }))
    output_header r seen =
        let l : outputs_by out (ports_in (section job at (header_end index k))) ≡ spanned job r.name ∷ outputs_by true (ports_in (section job r.next (header_end index k))) = rw (← eh, ← seen.says) in
        rw g (record { says = rw l; goes = tt; ports = tt })

  pub output_body : (at : ℕ) → c ≡ cursor.Body at → (q : Option Step) → OutputSeen job index k (cursor.Body at) q → OutputSeen job index k c q
  output_body at g q s = rw g s

  pub output_signals : (at : ℕ) → c ≡ cursor.Signals at → OutputSeen job index k c None
  output_signals at g = rw g (record { says = refl; goes = tt; ports = tt })

pub ruleset output_steps = (rules, body_first, body_cursor, output_first, output_header, output_body, output_signals)

-- ---- the next non-output port
module _ (job : Bytes) (index : List ℕ) (k at e : ℕ) (ee : e ≡ decls_end index k) where
  pub input_end : BodySeen job at e pick.Other None → InputSeen job index k (cursor.Body at) None
  input_end seen = record { says = rw (← ee, ← seen.says) }

  pub input_step : (r : NameAt) → BodySeen job at e pick.Other (Some r) → InputSeen job index k (cursor.Body at) (Some (record { name = r.name; next = (cursor.Body r.next) }))
  input_step r seen = record { says = rw (← ee, ← seen.says) }

pub ruleset input_bodies = (rules, input_end, input_step)

module _ (job : Bytes) (index : List ℕ) (k : ℕ) (c : Cursor) where
  module _ (at : ℕ) (out : Bool) (g : c ≡ cursor.Header at out) (h : ℕ) (eh : h ≡ header_end index k) where
    pub input_first : OtherSeen job at h None → (d : ℕ) → d ≡ decls_from index k → (q : Option Step) → InputSeen job index k (cursor.Body d) q → InputSeen job index k c q
    input_first seen d ed q s =
        let l : others_by false (ports_in (section job at (header_end index k))) ≡ [] = rw (← eh, ← seen.says) in
        rw g (record { says = s.says ∙ rw (ed, l) })

    pub input_next : (r : NameAt) → OtherSeen job at h (Some r) → InputSeen job index k c (Some (record { name = r.name; next = (cursor.Header r.next false) }))
    input_next r seen =
        let l : others_by false (ports_in (section job at (header_end index k))) ≡ spanned job r.name ∷ others_by false (ports_in (section job r.next (header_end index k))) = rw (← eh, ← seen.says) in
        rw g (record { says = rw l })

  pub input_behind : (at : ℕ) → c ≡ cursor.Body at → (q : Option Step) → InputSeen job index k (cursor.Body at) q → InputSeen job index k c q
  input_behind at g q s = rw g s

  pub input_signals : (at : ℕ) → c ≡ cursor.Signals at → InputSeen job index k c None
  input_signals at g = rw g (record { says = refl })

pub ruleset input_steps = (rules, input_first, input_next, input_behind, input_signals)

-- ---- the next candidate
module _ (job : Bytes) (index : List ℕ) (k at e : ℕ) (ee : e ≡ decls_end index k) where
  pub signal_end : BodySeen job at e pick.Signal None → CandidateSeen job index k (cursor.Signals at) None
  signal_end seen = record { says = rw (← ee, ← seen.says); goes = tt }

  pub signal_step : (r : NameAt) → BodySeen job at e pick.Signal (Some r) → CandidateSeen job index k (cursor.Signals at) (Some (record { name = r.name; next = (cursor.Signals r.next) }))
  signal_step r seen = record { says = rw (← ee, ← seen.says); goes = tt }

pub ruleset signal_steps = (rules, signal_end, signal_step)

signals_among : (job : Bytes) (index : List ℕ) (k : ℕ) (c : Cursor) → AmongPorts c → signals_from job index k c ≡ picked pick.Signal (decls_in (section job (decls_from index k) (decls_end index k)))
signals_among job index k (cursor.Header at out) a = refl
signals_among job index k (cursor.Body at) a = refl
signals_among job index k (cursor.Signals at) a = absurd a

module _ (job : Bytes) (index : List ℕ) (k : ℕ) (c : Cursor) (a : AmongPorts c) where
  pub candidate_signal : OutputSeen job index k c None → (d : ℕ) → d ≡ decls_from index k → (q : Option Step) → CandidateSeen job index k (cursor.Signals d) q → CandidateSeen job index k c q
  candidate_signal seen d ed q s =
      let l : outputs_from job index k c ≡ [] = rw (← seen.says) in
      record { says = s.says ∙ rw (l, signals_among job index k c a, ed); goes = s.goes }

  pub candidate_port : (r : Step) → OutputSeen job index k c (Some r) → CandidateSeen job index k c (Some r)
  candidate_port r seen =
      let l : outputs_from job index k c ≡ spanned job r.name ∷ outputs_from job index k r.next = rw (← seen.says) in
      record { says = rw (l, signals_among job index k c a, signals_among job index k r.next seen.ports); goes = seen.goes }

pub ruleset port_steps = (rules, candidate_signal, candidate_port)

module _ (job : Bytes) (index : List ℕ) (k : ℕ) (c : Cursor) where
  pub among_header : (at : ℕ) (out : Bool) → c ≡ cursor.Header at out → AmongPorts c
  among_header at out g = rw g tt

  pub among_body : (at : ℕ) → c ≡ cursor.Body at → AmongPorts c
  among_body at g = rw g tt

  pub candidate_signals : (at : ℕ) → c ≡ cursor.Signals at → (q : Option Step) → CandidateSeen job index k (cursor.Signals at) q → CandidateSeen job index k c q
  candidate_signals at g q s = rw g s

pub ruleset candidate_steps = (rules, among_header, among_body, candidate_signals)

-- ---- where the header ports end
module _ (index : List ℕ) (k s : ℕ) (es : s ≡ num index (row_at k + 2)) where
  pub head_ansi : s ≡ 0 → (r : ℕ) → r ≡ num index (row_at k + 4) → r ≡ header_end index k
  head_ansi h r e = rw (eq-eqb (num index (row_at k + 2)) 0 (sym es ∙ h)) e

  pub head_other : (s ≡ 0 → ⊥) → (r : ℕ) → r ≡ num index (row_at k + 3) → r ≡ header_end index k
  head_other h r e = rw (ne_eqb (num index (row_at k + 2)) 0 (λ z. h (es ∙ z))) e

pub ruleset head_cases = (rules, head_ansi, head_other)
