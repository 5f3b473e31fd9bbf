-- The ports of an element: each law is stated as a need asks it. Assumes nothing.
use Rattle.std.specs.Prelude.{Option}
use Prim.Native.Nat.{ℕ, ◌+◌, ◌-◌, ◌≤◌, ◌<◌, ◌^◌}
use native.Mathlib.Omega.{arith}
use mathlib.Core.Path.{◌≡◌, refl, sym, ap, ◌∙◌}
use mathlib.Core.Bool.{Bool, true, false}
use mathlib.Core.List.{List, [], ◌∷◌, ◌++◌, append-nil}
use Rattle.std.specs.Prelude.{None, Some}
use lib.ListN.{length, take, length-append, length-take}
use lib.Seq.{take-take}
use borrow.Author.Rules.{rules}
use Rattle.text.specs.Ascii.{Bytes, ascii}
use Rattle.names.specs.Name.{name_of}
use Rattle.names.specs.declared.name.Name.{Name}
use Rattle.nametable.specs.Table.{Stores}
use Rattle.paths.specs.Sizes.{name_short}
use Rattle.joblines.specs.Job.{Module}
use Rattle.joblines.specs.Sections.{conns_in}
use Rattle.jobindex.specs.Index.{section, module_row}
use Rattle.jobindex.specs.declared.Span.{Span as Part}
use Rattle.design.specs.Paths.{parts}
use Rattle.design.specs.Ports.{output_ports}
use Rattle.lines.specs.Cursors.{spanned}
use Rattle.lookup.specs.Rows.{modules, insts_end}
use Rattle.ports.specs.Cursors.{ports_from, outputs_from, CursorAt, OutputSeen}
use Rattle.ports.specs.Starts.{outputs_start}
use Rattle.ports.specs.declared.Cursor.{Cursor}
use Rattle.ports.specs.declared.Cursor.TheVariants as cursor
use Rattle.ports.specs.declared.Step.{Step}
use Rattle.refs.specs.Text.{no_name, text_of, whole_ref, front_ref, job_ref}
use Rattle.refs.specs.Laws.{none_is, whole_is, front_is, job_is}
use Rattle.refs.specs.declared.Ref.{Ref}
use Rattle.actual.specs.Nets.{net_is, actual_of}
use Rattle.actual.specs.declared.Net.{Net}
use Rattle.actual.specs.declared.Net.TheVariants as net
use Rattle.model.specs.Scope.{up}
use Rattle.texts.specs.Isolation.{last_part, front_parts, below_parent}
use Rattle.targets.specs.Instance.{Instance, instance_at}
use Rattle.targets.specs.Seen.{SlashSeen, PlaceSeen}
use Rattle.targets.specs.Textual.{up_front}
use Rattle.targets.specs.declared.Place.{Place}
use Rattle.targets.specs.declared.Slash.{Slash}
use Rattle.isolated.specs.Table.{Fits, port_ref, net_ref, Kept, kept_in}
use Rattle.isolated.specs.declared.Isolated.{Isolated}
use Rattle.keep.specs.Gains.{Aim, Gain, behind, gain_of, gains, gains_none, gains_one, gains_more, gains_grow}
use Rattle.keep.specs.Held.{held_name, held_part, part_held, held_is, held_stores}
use Rattle.keep.specs.Covered.{Ready, with_net, net_for, aim_of, Answer}
use Rattle.keep.specs.Turns.{Turn, turn_start, answer_stay, turn_end, turn_stop, turn_next}
use Rattle.keep.specs.declared.Cover.{Cover}
use Rattle.cover.specs.Aims.{net_below, port_aim, output_aim, part_aim, port_aims, output_aims, slash_aims, element_aims}
use Rattle.cover.specs.Found.{output_port, slash_port, Asks, Placed, Slashed}

-- ---- ports that are made

pub output_made : (job mem : Bytes) (number : ℕ) (e : Name) (n : Part) (upto : ℕ) (q : Part) (h l : Name) → q ≡ held_part job n → h ≡ held_name mem e → l ≡ no_name
    → ◌≡◌ {A = Isolated} (record { strategy = number; element = h; sep = true; at = q.at; len = q.len; upto = upto; last = l; net = q.at; size = q.len }) (output_port job mem number e n upto)
output_made job mem number e n upto q h l a b c = rw (a, b, c)

pub slash_made : (mem : Bytes) (number : ℕ) (e rest : Name) (upto : ℕ) (h l : Name) → h ≡ held_name mem e → l ≡ held_name mem rest
    → ◌≡◌ {A = Isolated} (record { strategy = number; element = h; sep = false; at = 0; len = 0; upto = upto; last = l; net = 0; size = 0 }) (slash_port mem number e rest upto)
slash_made mem number e rest upto h l a b = rw (a, b)

pub ruleset made = (rules, output_made, slash_made)

no_stores : Stores no_name
no_stores = record { scope_at = omega arith; scope_len = omega arith; word_at = omega arith; word_len = omega arith }

mem_small : (files area : Bytes) → length files + length area < 2 ^ 31 → length (files ++ area) < 2 ^ 31
mem_small files area h = rw (length-append files area) h

module _ (job files area : Bytes) (small : length files + length area < 2 ^ 31) (job_small : length job < 2 ^ 32) (number : ℕ) (number_small : number < 2 ^ 32) (e : Name) (upto : ℕ) (upto_small : upto < 2 ^ 32) where
  pub output_fits : (n : Part) → Fits (output_port job (files ++ area) number e n upto)
  output_fits n =
      record {
        element = held_stores (files ++ area) e (omega (arith, mem_small files area small));
        last = no_stores;
        strategy = number_small;
        at = omega (arith, job_small);
        len = omega (arith, job_small);
        upto = upto_small;
        net = omega (arith, job_small);
        size = omega (arith, job_small);
      }

  pub slash_fits : (rest : Name) → Fits (slash_port (files ++ area) number e rest upto)
  slash_fits rest =
      record {
        element = held_stores (files ++ area) e (omega (arith, mem_small files area small));
        last = held_stores (files ++ area) rest (omega (arith, mem_small files area small));
        strategy = number_small;
        at = omega arith;
        len = omega arith;
        upto = upto_small;
        net = omega arith;
        size = omega arith;
      }

-- ---- what they stand for

module _ (job mem : Bytes) (number : ℕ) (e : Name) (upto : ℕ) where
  -- a net behind the first bytes of the element
  net_of_lem : (x : Isolated) → name_of mem x.element ≡ name_of mem e → x.upto ≡ upto → (n : Part) → text_of job mem (net_ref (with_net x n)) ≡ take upto (name_of mem e) ++ spanned job n
  unfolding text_of
  net_of_lem x h u n = rw (h, u, none_is mem)

  output_key : (n : Part) → text_of job mem (port_ref (output_port job mem number e n upto)) ≡ name_of mem e ++ (ascii "/" ++ spanned job n)
  unfolding text_of
  output_key n = rw (held_is mem e, none_is mem, part_held job n.at n.len)

  output_own : (n : Part) → text_of job mem (net_ref (output_port job mem number e n upto)) ≡ take upto (name_of mem e) ++ spanned job n
  unfolding text_of
  output_own n = rw (held_is mem e, none_is mem, part_held job n.at n.len)

  slash_key : (rest : Name) → text_of job mem (port_ref (slash_port mem number e rest upto)) ≡ name_of mem e
  unfolding text_of
  slash_key rest = rw (held_is mem e, none_is mem) (append-nil (name_of mem e))

  slash_own : (rest : Name) → text_of job mem (net_ref (slash_port mem number e rest upto)) ≡ take upto (name_of mem e) ++ name_of mem rest
  unfolding text_of
  slash_own rest = rw (held_is mem e, held_is mem rest) (ap (λ (l : Bytes). take upto (name_of mem e) ++ l) (append-nil (name_of mem rest)))

  -- the net, by what the connections say
  net_for_lem : (x : Isolated) → name_of mem x.element ≡ name_of mem e → x.upto ≡ upto → (p : Bytes) → text_of job mem (net_ref x) ≡ take upto (name_of mem e) ++ p
      → (ps : List Bytes) → ((n : Bytes) → below_parent (front_parts ps) n ≡ take upto (name_of mem e) ++ n) → (r : Net) → net_for job mem x r ≡ net_below ps (net_is job p r)
  net_for_lem x h u p own ps front net.None = refl
  net_for_lem x h u p own ps front net.Own = ap (λ (w : Bytes). Some w) (own ∙ sym (front p))
  net_for_lem x h u p own ps front (net.Of n) = ap (λ (w : Bytes). Some w) (net_of_lem x h u n ∙ sym (front (spanned job n)))

-- ---- one port of an instance

module _ (job : Bytes) (files area : Bytes) (number : ℕ) (e : Name) (p : Place) (placed : Placed job files area number (name_of (files ++ area) e) p) (n : Part) where
  pub output_parent : p.parent ≤ 128
  output_parent = placed.parent_row

  pub output_sub : p.sub ≤ 128
  output_sub = placed.sub_row

  pub output_small : length files + length area < 2 ^ 31
  output_small = placed.small

  pub output_ready : (y : Isolated) → y ≡ output_port job (files ++ area) number e n p.upto → Fits y × (length job < 2 ^ 32)
  output_ready y h = rw h (output_fits job files area placed.small placed.job_small number placed.number_small e p.upto placed.upto_small n, placed.job_small)

module _ (job : Bytes) (index : List ℕ) (files area : Bytes) (number : ℕ) (e : Name) (p : Place) (placed : Placed job files area number (name_of (files ++ area) e) p) (n : Part) where
  module _ (y : Isolated) (ey : y ≡ output_port job (files ++ area) number e n p.upto) (end : ℕ) (ee : end ≡ insts_end index p.parent) (own : Ref) (eo : own ≡ job_ref n.at n.len) (r : Net)
      (says : net_is job (text_of job (files ++ area) own) r ≡ actual_of (conns_in (section job p.conns end)) (module_row job index p.sub) (text_of job (files ++ area) own)) where
    own_is : text_of job (files ++ area) own ≡ spanned job n
    own_is = ap (text_of job (files ++ area)) eo ∙ job_is job (files ++ area) n.at n.len

    said : net_is job (spanned job n) r ≡ actual_of (conns_in (section job p.conns (insts_end index p.parent))) (module_row job index p.sub) (spanned job n)
    said = rw (own_is, ee) at says

    aim_is : aim_of job (files ++ area) y r ≡ output_aim (name_of (files ++ area) e) (conns_in (section job p.conns (insts_end index p.parent))) (module_row job index p.sub) (spanned job n)
    aim_is =
        let z = output_port job (files ++ area) number e n p.upto in
        let k : net_for job (files ++ area) z r ≡ net_below (parts (name_of (files ++ area) e)) (net_is job (spanned job n) r) = net_for_lem job (files ++ area) number e p.upto z (held_is (files ++ area) e) refl (spanned job n) (output_own job (files ++ area) number e p.upto n) (parts (name_of (files ++ area) e)) placed.front r in
        rw (ey, k, said, output_key job (files ++ area) number e p.upto n)

    pub output_answer : (warn : Bool) (c : Cover) (out : Bytes) (name : Bytes) (l : List Kept) (q : Cover) (out' : Bytes) (t' : List ℕ) → Answer job (files ++ area) warn c out (gain_of y.strategy name (aim_of job (files ++ area) y r) l) q out' t'
        → Answer job (files ++ area) warn c out (gain_of number name (part_aim job (name_of (files ++ area) e) (conns_in (section job p.conns (insts_end index p.parent))) (module_row job index p.sub) n) l) q out' t'
    unfolding part_aim
    output_answer warn c out name l q out' t' a = rw (aim_is, ey) at a

pub ruleset outputs = (rules, output_parent, output_sub, output_small, output_ready, output_answer)

-- ---- the output ports of an instance, one after the other

abbrev pub left_aims : Bytes → List ℕ → Bytes → Place → List Bytes → List Aim
left_aims job index e p ps = port_aims e (conns_in (section job p.conns (insts_end index p.parent))) (module_row job index p.sub) ps

abbrev pub all_gain : Bytes → List ℕ → Bytes → List ℕ → ℕ → Bytes → Bytes → Place → Cover → Gain
all_gain job index mem t number name e p c = gains number name (left_aims job index e p (output_ports (module_row job index p.sub))) (kept_in job mem t c.ports)

pub record Goes (job : Bytes) (index : List ℕ) (mem : Bytes) (warn : Bool) (c₀ : Cover) (out₀ : Bytes) (t₀ : List ℕ) (number : ℕ) (name e : Bytes) (p : Place) (x : Cover) (out : Bytes) (t : List ℕ) (cu : Cursor) : Type 0 where
  pub here : CursorAt job index p.sub cu
  pub turn : Turn job mem warn c₀ out₀ (all_gain job index mem t₀ number name e p c₀) x out t (gains number name (left_aims job index e p (outputs_from job index p.sub cu)))

module _ (job : Bytes) (index : List ℕ) (mem : Bytes) (warn : Bool) (c₀ : Cover) (out₀ : Bytes) (t₀ : List ℕ) (number : ℕ) (name e : Bytes) (p : Place) where
  pub goes_start : (cu : Cursor) → Ready c₀ t₀ → cu ≡ cursor.Header (ports_from index p.sub) false → Goes job index mem warn c₀ out₀ t₀ number name e p c₀ out₀ t₀ cu
  goes_start cu r h =
      rw h
      (record {
        here = tt;
        turn = rw (outputs_start job index p.sub) (turn_start job mem warn c₀ out₀ t₀ (gains number name (left_aims job index e p (output_ports (module_row job index p.sub)))) r);
      })

  module _ (x : Cover) (out : Bytes) (t : List ℕ) (cu : Cursor) (inv : Goes job index mem warn c₀ out₀ t₀ number name e p x out t cu) where
    pub goes_ready : Ready x t
    goes_ready = inv.turn.ready

    pub goes_here : CursorAt job index p.sub cu
    goes_here = inv.here

    module _ (r : Option Step) (seen : OutputSeen job index p.sub cu r) where
      pub goes_end : r ≡ None → Answer job mem warn c₀ out₀ (all_gain job index mem t₀ number name e p c₀) x out t
      goes_end h =
          let n : outputs_from job index p.sub cu ≡ [] = sym (rw h at seen.says) in
          turn_end job mem warn c₀ out₀ (all_gain job index mem t₀ number name e p c₀) x out t (gains number name (left_aims job index e p (outputs_from job index p.sub cu))) inv.turn (λ l. rw n (gains_none number name l))

      module _ (n : Part) (next : Cursor) (h : r ≡ Some (record { name = n; next = next })) where
        names_are : outputs_from job index p.sub cu ≡ spanned job n ∷ outputs_from job index p.sub next
        names_are = sym (rw h at seen.says)

        pub goes_less : length (outputs_from job index p.sub next) < length (outputs_from job index p.sub cu)
        goes_less = rw names_are (omega arith)

        module _ (q : Cover) (out' : Bytes) (t' : List ℕ)
            (a : Answer job mem warn x out (gain_of number name (part_aim job e (conns_in (section job p.conns (insts_end index p.parent))) (module_row job index p.sub) n) (kept_in job mem t x.ports)) q out' t') where
          abbrev first_gain : List Kept → Gain
          first_gain = gain_of number name (part_aim job e (conns_in (section job p.conns (insts_end index p.parent))) (module_row job index p.sub) n)

          abbrev rest_gain : List Kept → Gain
          rest_gain = gains number name (left_aims job index e p (outputs_from job index p.sub next))

          split : (l : List Kept) → gains number name (left_aims job index e p (outputs_from job index p.sub cu)) l ≡ behind (first_gain l) (rest_gain (first_gain l).rows)
          unfolding part_aim
          split l = rw names_are (gains_more number name (part_aim job e (conns_in (section job p.conns (insts_end index p.parent))) (module_row job index p.sub) n) (left_aims job index e p (outputs_from job index p.sub next)) l)

          pub goes_stop : q.over ≡ true → Answer job mem warn c₀ out₀ (all_gain job index mem t₀ number name e p c₀) q out' t'
          goes_stop o =
              turn_stop job mem warn c₀ out₀ (all_gain job index mem t₀ number name e p c₀) x out t (gains number name (left_aims job index e p (outputs_from job index p.sub cu))) inv.turn
              first_gain rest_gain split q out' t' a (λ l. gains_grow number name (left_aims job index e p (outputs_from job index p.sub next)) l) o

          pub goes_next : q.over ≡ false → Goes job index mem warn c₀ out₀ t₀ number name e p q out' t' next
          goes_next o =
              record {
                here = rw h at seen.goes;
                turn =
                    turn_next job mem warn c₀ out₀ (all_gain job index mem t₀ number name e p c₀) x out t (gains number name (left_aims job index e p (outputs_from job index p.sub cu))) inv.turn
                    first_gain rest_gain split q out' t' a o;
              }

      pub goes_on : (n : Part) (next : Cursor) (q : Cover) (out' : Bytes) (t' : List ℕ)
          → Answer job mem warn x out (gain_of number name (part_aim job e (conns_in (section job p.conns (insts_end index p.parent))) (module_row job index p.sub) n) (kept_in job mem t x.ports)) q out' t'
          → q.over ≡ false → r ≡ Some (record { name = n; next = next }) → Goes job index mem warn c₀ out₀ t₀ number name e p q out' t' next
      goes_on n next q out' t' a o h = goes_next n next h q out' t' a o

pub ruleset goings = (rules, output_sub, goes_start, goes_ready, goes_here, goes_end, goes_less, goes_stop, goes_next)

-- ---- the instance that an element is

module _ (job : Bytes) (index : List ℕ) (count k : ℕ) (files area : Bytes) (number : ℕ) (asks : Asks job files area count k number) where
  name_small : (n : Name) → length (name_of (files ++ area) n) < 2 ^ 32
  name_small n = omega (arith, name_short (files ++ area) n, mem_small files area asks.small)

  pub whole_asked : (e : Name) (r : Ref) → r ≡ whole_ref e → length (text_of job (files ++ area) r) < 2 ^ 63
  whole_asked e r h =
      let g : text_of job (files ++ area) r ≡ name_of (files ++ area) e = ap (text_of job (files ++ area)) h ∙ whole_is job (files ++ area) e in
      rw g (omega (arith, name_small e))

  pub front_asked : (e : Name) (n : ℕ) (r : Ref) → r ≡ front_ref e n → length (text_of job (files ++ area) r) < 2 ^ 63
  front_asked e n r h =
      let g : text_of job (files ++ area) r ≡ take n (name_of (files ++ area) e) = ap (text_of job (files ++ area)) h ∙ front_is job (files ++ area) e n in
      rw g (omega (arith, length-take n (name_of (files ++ area) e), name_small e))

  -- nothing, or an instance
  none_there : (t : Bytes) → PlaceSeen job index count k t None → instance_at (modules job index count) (module_row job index k) (parts t) ≡ None
  none_there t seen = sym seen.is

  module _ (t : Bytes) (p : Place) (seen : PlaceSeen job index count k t (Some p)) where
    abbrev there : Instance
    there = record { parent = module_row job index p.parent; conns = conns_in (section job p.conns (insts_end index p.parent)); sub = module_row job index p.sub }

    one_there : instance_at (modules job index count) (module_row job index k) (parts t) ≡ Some there
    one_there = sym seen.is

    parent_few : p.parent ≤ 128
    parent_few = omega (arith, seen.place.parent_row, asks.few)

    sub_few : p.sub ≤ 128
    sub_few = omega (arith, seen.place.sub_row, asks.few)

    upto_in_text : p.upto ≤ length t
    upto_in_text = seen.place.inside

    front_text_is : (n : Bytes) → below_parent (front_parts (parts t)) n ≡ take p.upto t ++ n
    front_text_is = seen.place.front

  module _ (e : Name) (r : Ref) (er : r ≡ whole_ref e) where
    abbrev elem : Bytes
    elem = name_of (files ++ area) e

    text_is : text_of job (files ++ area) r ≡ elem
    text_is = ap (text_of job (files ++ area)) er ∙ whole_is job (files ++ area) e

    pub outputs_none : PlaceSeen job index count k (text_of job (files ++ area) r) None → (warn : Bool) (c : Cover) (out : Bytes) (t : List ℕ) (name : Bytes) → Ready c t
        → Answer job (files ++ area) warn c out (gains number name (output_aims (modules job index count) (module_row job index k) elem) (kept_in job (files ++ area) t c.ports)) c out t
    outputs_none seen warn c out t name ready = rw (none_there elem (rw text_is at seen), gains_none number name (kept_in job (files ++ area) t c.ports)) (answer_stay job (files ++ area) warn c out t ready)

    module _ (p : Place) (seen : PlaceSeen job index count k (text_of job (files ++ area) r) (Some p)) where
      seen_there : PlaceSeen job index count k elem (Some p)
      seen_there = rw text_is at seen

      pub outputs_placed : Placed job files area number elem p
      outputs_placed =
          record {
            parent_row = parent_few elem p seen_there;
            sub_row = sub_few elem p seen_there;
            number_small = asks.number_small;
            job_small = asks.job_small;
            small = asks.small;
            upto_small = omega (arith, upto_in_text elem p seen_there, name_small e);
            front = front_text_is elem p seen_there;
          }

      pub outputs_some : (warn : Bool) (c : Cover) (out : Bytes) (t : List ℕ) (name : Bytes) (q : Cover) (out' : Bytes) (t' : List ℕ)
          → Answer job (files ++ area) warn c out (all_gain job index (files ++ area) t number name elem p c) q out' t'
          → Answer job (files ++ area) warn c out (gains number name (output_aims (modules job index count) (module_row job index k) elem) (kept_in job (files ++ area) t c.ports)) q out' t'
      outputs_some warn c out t name q out' t' a = rw (one_there elem p seen_there) a

pub ruleset finds = (rules, whole_asked, outputs_none, outputs_placed, outputs_some)

-- ---- the port behind the last slash

module _ (job : Bytes) (index : List ℕ) (count k : ℕ) (files area : Bytes) (number : ℕ) (asks : Asks job files area count k number) (e : Name) (upto : ℕ) (rest : Name) (slashed : Slashed (name_of (files ++ area) e) upto (name_of (files ++ area) rest)) where
  abbrev whole : Bytes
  whole = name_of (files ++ area) e

  up_now : (take (upto - 1) (name_of (files ++ area) e) ≡ up (name_of (files ++ area) e)) × (0 < upto)
  up_now = up_front (name_of (files ++ area) e) slashed.there upto (name_of (files ++ area) rest) slashed.size slashed.last

  pub slash_some : 1 ≤ upto
  slash_some = omega (arith, up_now.1)

  module _ (r : Ref) (er : r ≡ front_ref e (upto - 1)) where
    front_text : text_of job (files ++ area) r ≡ take (upto - 1) whole
    front_text = ap (text_of job (files ++ area)) er ∙ front_is job (files ++ area) e (upto - 1)

    up_text_lem : text_of job (files ++ area) r ≡ up whole
    up_text_lem = front_text ∙ up_now.0

    pub slash_none : PlaceSeen job index count k (text_of job (files ++ area) r) None → (warn : Bool) (c : Cover) (out : Bytes) (t : List ℕ) (name : Bytes) → Ready c t
        → Answer job (files ++ area) warn c out (gains number name (slash_aims (modules job index count) (module_row job index k) whole) (kept_in job (files ++ area) t c.ports)) c out t
    slash_none seen warn c out t name ready =
        rw (none_there job index count k files area number asks (up whole) (rw up_text_lem at seen), gains_none number name (kept_in job (files ++ area) t c.ports)) (answer_stay job (files ++ area) warn c out t ready)

    module _ (p : Place) (seen : PlaceSeen job index count k (text_of job (files ++ area) r) (Some p)) where
      seen_up : PlaceSeen job index count k (up whole) (Some p)
      seen_up = rw up_text_lem at seen

      pub slash_parent : p.parent ≤ 128
      slash_parent = parent_few job index count k files area number asks (up whole) p seen_up

      pub slash_sub : p.sub ≤ 128
      slash_sub = sub_few job index count k files area number asks (up whole) p seen_up

      upto_in : p.upto ≤ upto - 1
      upto_in =
          let l : p.upto ≤ length (take (upto - 1) whole) = rw front_text at (upto_in_text job index count k files area number asks (text_of job (files ++ area) r) p seen) in
          omega (arith, l, length-take (upto - 1) whole)

      upto_held : p.upto < 2 ^ 32
      upto_held =
          let l : p.upto ≤ length (take (upto - 1) whole) = rw front_text at (upto_in_text job index count k files area number asks (text_of job (files ++ area) r) p seen) in
          omega (arith, l, length-take (upto - 1) whole, name_small job index count k files area number asks e)

      pub slash_ready : (y : Isolated) → y ≡ slash_port (files ++ area) number e rest p.upto → Fits y × (length job < 2 ^ 32)
      slash_ready y h = rw h (slash_fits job files area asks.small asks.job_small number asks.number_small e p.upto upto_held rest, asks.job_small)

      module _ (y : Isolated) (ey : y ≡ slash_port (files ++ area) number e rest p.upto) (end : ℕ) (ee : end ≡ insts_end index p.parent) (own : Ref) (eo : own ≡ whole_ref rest) (n : Net)
          (says : net_is job (text_of job (files ++ area) own) n ≡ actual_of (conns_in (section job p.conns end)) (module_row job index p.sub) (text_of job (files ++ area) own)) where
        own_text : text_of job (files ++ area) own ≡ last_part (parts whole)
        own_text = ap (text_of job (files ++ area)) eo ∙ whole_is job (files ++ area) rest ∙ slashed.last

        said_of : net_is job (last_part (parts whole)) n ≡ actual_of (conns_in (section job p.conns (insts_end index p.parent))) (module_row job index p.sub) (last_part (parts whole))
        said_of = rw (own_text, ee) at says

        front_of_lem : (w : Bytes) → below_parent (front_parts (parts (up whole))) w ≡ take p.upto whole ++ w
        front_of_lem w = front_text_is job index count k files area number asks (up whole) p seen_up w ∙ ap (λ (l : Bytes). l ++ w) (ap (take p.upto) (sym up_now.0) ∙ take-take p.upto (upto - 1) whole upto_in)

        own_net : text_of job (files ++ area) (net_ref (slash_port (files ++ area) number e rest p.upto)) ≡ take p.upto whole ++ last_part (parts whole)
        own_net = slash_own job (files ++ area) number e p.upto rest ∙ ap (λ (l : Bytes). take p.upto whole ++ l) slashed.last

        aim_slash : aim_of job (files ++ area) y n ≡ port_aim (parts (up whole)) whole (conns_in (section job p.conns (insts_end index p.parent))) (module_row job index p.sub) (last_part (parts whole))
        aim_slash =
            let z = slash_port (files ++ area) number e rest p.upto in
            let q : net_for job (files ++ area) z n ≡ net_below (parts (up whole)) (net_is job (last_part (parts whole)) n) = net_for_lem job (files ++ area) number e p.upto z (held_is (files ++ area) e) refl (last_part (parts whole)) own_net (parts (up whole)) front_of_lem n in
            rw (ey, q, said_of, slash_key job (files ++ area) number e p.upto rest)

        pub slash_answer : (warn : Bool) (c : Cover) (out : Bytes) (name : Bytes) (l : List Kept) (q : Cover) (out' : Bytes) (t' : List ℕ) → Answer job (files ++ area) warn c out (gain_of y.strategy name (aim_of job (files ++ area) y n) l) q out' t'
            → Answer job (files ++ area) warn c out (gains number name (slash_aims (modules job index count) (module_row job index k) whole) l) q out' t'
        slash_answer warn c out name l q out' t' a =
            rw (one_there job index count k files area number asks (up whole) p seen_up, gains_one number name (port_aim (parts (up whole)) whole (conns_in (section job p.conns (insts_end index p.parent))) (module_row job index p.sub) (last_part (parts whole))) l)
            (rw (aim_slash, ey) at a)

pub ruleset slashes = (rules, front_asked, slash_some, slash_none, slash_parent, slash_sub, slash_ready, slash_answer)

-- ---- an element

module _ (mem : Bytes) (e : Name) where
  pub element_slashed : (l : Slash) → SlashSeen mem e (Some l) → Slashed (name_of mem e) l.upto (name_of mem l.rest)
  element_slashed l seen =
      let s : length (take l.upto (name_of mem e) ++ name_of mem l.rest) ≡ length (name_of mem e) = ap length seen.whole in
      let t : length (take l.upto (name_of mem e) ++ name_of mem l.rest) ≡ length (take l.upto (name_of mem e)) + length (name_of mem l.rest) = length-append (take l.upto (name_of mem e)) (name_of mem l.rest) in
      record {
        there = seen.there;
        size = omega (arith, s, t, length-take l.upto (name_of mem e), seen.inside);
        last = seen.last;
      }

  module _ (d : List Module) (m : Module) (number : ℕ) (name : Bytes) (job : Bytes) (warn : Bool) (c : Cover) (out : Bytes) (rows : List Kept) (q : Cover) (out' : Bytes) (t' : List ℕ) where
    pub element_port : (l : Slash) → SlashSeen mem e (Some l) → Answer job mem warn c out (gains number name (slash_aims d m (name_of mem e)) rows) q out' t' → Answer job mem warn c out (gains number name (element_aims d m (name_of mem e)) rows) q out' t'
    element_port l seen a = rw seen.there a

    pub element_instance : SlashSeen mem e None → Answer job mem warn c out (gains number name (output_aims d m (name_of mem e)) rows) q out' t' → Answer job mem warn c out (gains number name (element_aims d m (name_of mem e)) rows) q out' t'
    element_instance seen a = rw seen a

pub asked_small : (job files area : Bytes) (count k number : ℕ) → Asks job files area count k number → length files + length area < 2 ^ 32
asked_small job files area count k number a = omega (arith, a.small)

pub ruleset elements = (rules, asked_small, element_slashed, element_port, element_instance)
