-- An instance by the parts of a text, turn by turn: the answer is that of what is left. Assumes nothing.
use Rattle.std.specs.Prelude.{Option}
use Prim.Native.Nat.{ℕ, suc, ◌+◌, ◌-◌, ◌*◌, ◌≤◌, ◌<◌, ◌^◌}
use native.Mathlib.Omega.{arith}
use mathlib.Core.Path.{◌≡◌, refl, sym, ap, ◌∙◌}
use mathlib.Core.Bool.{Bool, true, false, cond}
use mathlib.Core.List.{List, [], ◌∷◌, ◌++◌, append_assoc, append-nil}
use Rattle.std.specs.Prelude.{None, Some}
use lib.Dec.{eqb}
use lib.ListN.{length, take, set, length-append}
use lib.Seq.{take_at, length-take-le}
use borrow.Author.Rules.{rules}
use Rattle.text.specs.Ascii.{Bytes, ascii, byte}
use Rattle.text.specs.Compare.{same}
use Rattle.text.specs.Sames.{same_of, same_turned}
use Rattle.text.specs.Scan.{onto, split_at}
use Rattle.out.specs.Items.{joined, behind as Items·behind}
use Rattle.joblines.specs.Job.{Inst, Module}
use Rattle.joblines.specs.Sections.{conns_in}
use Rattle.jobindex.specs.Index.{section, module_row}
use Rattle.jobindex.specs.declared.Span.{Span}
use Rattle.design.specs.Lists.{first, on_some}
use Rattle.design.specs.Lookup.{module_named, instance_named}
use Rattle.lines.specs.Cursors.{spanned, inst_is, InstSeen}
use Rattle.lines.specs.declared.InstAt.{InstAt}
use Rattle.lookup.specs.Rows.{modules, row_is, ModuleSeen, insts_from, insts_end}
use Rattle.memo.specs.Known.{slots, Begins, Leads, Known, Recalls, Asked, asked_row, asked_slot, asked_leads, place_in, recalls_row, recalls_asks, recalls_room, begins_row, begins_first, begins_here, leads_here, known_put}
use Rattle.names.specs.Parts.{parts, first_part, others, behind, part_same, part_other, parts_some}
use Rattle.refs.specs.Text.{text_of, step_of}
use Rattle.refs.specs.declared.Ref.{Ref}
use Rattle.texts.specs.Isolation.{front_parts, below_parent}
use Rattle.targets.specs.Instance.{instance_at}
use Rattle.targets.specs.Textual.{textual, textual_is}
use Rattle.targets.specs.Seen.{part_is, DownIs, DownSeen, StepSeen, Sought, PlaceSeen}
use Rattle.targets.specs.declared.Part.{Part}
use Rattle.targets.specs.declared.Part.TheVariants as part
use Rattle.targets.specs.declared.Down.{Down}
use Rattle.targets.specs.declared.Down.TheVariants as down

-- ---- the slot of the first part

pub slot_less : (job mem : Bytes) (x : Ref) (b : ℕ) (u : Ref) → text_of job mem x ≡ step_of job mem (Some (b, u)) → length (text_of job mem u) < length (text_of job mem x)
slot_less job mem x b u e = rw e (omega arith)

pub ruleset slotted = (rules, slot_less)

-- ---- where the lookup of the first part begins

pub begin_first : (job : Bytes) (index memo : List ℕ) (k h : ℕ) → Asked job index memo k h → (t : Bytes) (p : ℕ) → p ≡ insts_from index k → Begins job index k (first_part (parts t)) p
begin_first job index memo k h a t p e = begins_first job index k (first_part (parts t)) p a.row e

-- the part looked for is the first
first_same : (t w : Bytes) (qs : List Bytes) → Some qs ≡ behind w (parts t) → w ≡ first_part (parts t)
first_same t w qs e = sym (ap first_part (part_same t w qs e))

module _ (job : Bytes) (index memo : List ℕ) (k h : ℕ) (asked : Asked job index memo k h) (p : ℕ) (ep : Some p ≡ place_in memo h k)
    (end : ℕ) (ee : end ≡ insts_end index k) (i : InstAt) (seen : InstSeen job p end (Some i)) (w : Bytes) (ew : w ≡ spanned job i.name) (mem t : Bytes) (q : Part) (eq : part_is job mem q ≡ behind w (parts t)) where
  begin_by : (qs : List Bytes) → Some qs ≡ behind w (parts t) → Begins job index k (first_part (parts t)) p
  begin_by qs e =
      begins_here job index k p (Some i) (rw ee at seen) i.dims i.name i.kind i.next refl (first_part (parts t)) (sym ew ∙ first_same t w qs e) asked.row (asked_leads job index memo k h asked p ep)

  pub begin_last : q ≡ part.Last → Begins job index k (first_part (parts t)) p
  begin_last f = begin_by [] (rw f at eq)

  pub begin_more : (x : Ref) → q ≡ part.More x → Begins job index k (first_part (parts t)) p
  begin_more x f = begin_by (parts (text_of job mem x)) (rw f at eq)

pub ruleset lookups = (rules, asked_row, asked_slot, begin_first, begin_last, begin_more)

-- ---- one instance down by the first part of t

module _ (job : Bytes) (index : List ℕ) (k : ℕ) (mem t : Bytes) (end : ℕ) (ee : end ≡ insts_end index k) where
  module _ (at : ℕ) (inv : Begins job index k (first_part (parts t)) at) where
    pub down_none : InstSeen job at end None → DownSeen job index k mem t None
    unfolding first
    down_none seen = record { is = inv.keeps ∙ rw (← ee, ← seen.says); place = tt }

    module _ (i : InstAt) (seen : InstSeen job at end (Some i)) where
      pub down_less : end - i.next < end - at
      down_less = omega (arith, seen.goes.further, seen.goes.within)

      module _ (w : Bytes) (ew : w ≡ spanned job i.name) (q : Part) (eq : part_is job mem q ≡ behind w (parts t)) where
        here : (qs : List Bytes) → Some qs ≡ behind w (parts t) → parts t ≡ w ∷ qs
        here qs e = part_same t w qs e

        named : (qs : List Bytes) → Some qs ≡ behind w (parts t) → spanned job i.name ≡ first_part (parts t)
        named qs e = sym ew ∙ first_same t w qs e

        found : (qs : List Bytes) → Some qs ≡ behind w (parts t) → instance_named (module_row job index k) (first_part (parts t)) ≡ Some (inst_is job end i.dims i.name i.kind i.next)
        unfolding first
        found qs e = inv.keeps ∙ rw (← ee, ← seen.says, same_of (spanned job i.name) (first_part (parts t)) (named qs e))

        leads : (qs : List Bytes) → Some qs ≡ behind w (parts t) → Leads job index k at
        leads qs e = leads_here job index k at (Some i) (rw ee at seen) i.dims i.name i.kind i.next refl (first_part (parts t)) (named qs e) inv

        pub down_last : q ≡ part.Last → DownSeen job index k mem t (Some (down.Last at i.kind i.next))
        down_last h =
            let e : Some [] ≡ behind w (parts t) = rw h at eq in
            let p : parts t ≡ w ∷ [] = here [] e in
            record { is = (p ∙ ap (λ (x : Bytes). x ∷ []) (sym (ap first_part p)), (inst_is job end i.dims i.name i.kind i.next, (found [] e, (refl, rw ee)))); place = leads [] e }

        pub down_more : (x : Ref) (size : ℕ) → size ≡ length w → q ≡ part.More x → DownSeen job index k mem t (Some (down.More at i.kind size x))
        down_more x size es h =
            let e : Some (parts (text_of job mem x)) ≡ behind w (parts t) = rw h at eq in
            let p : parts t ≡ w ∷ parts (text_of job mem x) = here (parts (text_of job mem x)) e in
            record {
              is = (p ∙ ap (λ (y : Bytes). y ∷ parts (text_of job mem x)) (sym (ap first_part p)), (es ∙ ap length (sym (ap first_part p)), (inst_is job end i.dims i.name i.kind i.next, (found (parts (text_of job mem x)) e, refl))));
              place = leads (parts (text_of job mem x)) e;
            }

        pub down_other : q ≡ part.Other → Begins job index k (first_part (parts t)) i.next
        unfolding first
        down_other h =
            let o : same (first_part (parts t)) w ≡ false = part_other t w (rw h at eq) in
            let f : same (spanned job i.name) (first_part (parts t)) ≡ false = same_turned (spanned job i.name) (first_part (parts t)) ∙ rw (← ew) o in
            record { row = inv.row; keeps = inv.keeps ∙ rw (← ee, ← seen.says, f) }

pub ruleset downs = (rules, begins_row, down_none, down_less, down_last, down_more, down_other)

-- ---- the same with a memo

module _ (job : Bytes) (index memo : List ℕ) (k : ℕ) (r : Recalls job index memo k) (mem t : Bytes) where
  pub step_kept : (d : Option Down) → DownSeen job index k mem t d → StepSeen job index k mem t d memo
  step_kept d seen = record { down = seen; known = r.known }

  pub step_put : (d : Down) → DownSeen job index k mem t (Some d) → (at : ℕ) (kind : Span) (size : ℕ) (x : Ref) → d ≡ down.More at kind size x → (h : ℕ) → h < slots → (memo' : List ℕ) → memo' ≡ set (set memo (2 * h) (k + 1)) (2 * h + 1) at → StepSeen job index k mem t (Some (down.More at kind size x)) memo'
  step_put d seen at kind size x g h few memo' e =
      let l : Leads job index k at = rw g at seen.place in
      record { down = rw g at seen; known = rw e (known_put job index memo r.known h k at few l) }

pub ruleset steps = (rules, recalls_row, recalls_asks, recalls_room, begins_first, step_kept, step_put)

-- ---- a text and its parts

-- a text is its first part, or its first part, a slash and the text of the others
first_all : (t : Bytes) (w : Bytes) → parts t ≡ w ∷ [] → t ≡ w
unfolding split_at
first_all [] w e = ap first_part e
first_all (x ∷ t) w e = go (eqb x (byte "/")) (parts_some (byte "/") t) e (λ v f. first_all t v f)
  where
    go : (b : Bool) → parts t ≡ first_part (parts t) ∷ others (parts t) → cond b ([] ∷ parts t) (onto x (parts t)) ≡ w ∷ [] → ((v : Bytes) → parts t ≡ v ∷ [] → t ≡ v) → x ∷ t ≡ w
    go true p f r = absurd (let z : ◌≡◌ {A = ℕ} (suc (suc (length (others (parts t))))) 1 = rw p at (ap (λ (l : List Bytes). length l) f) in omega arith)
    go false p f r =
        let g : onto x (first_part (parts t) ∷ others (parts t)) ≡ w ∷ [] = rw p at f in
        let o : others (parts t) ≡ [] = ap others g in
        let h : x ∷ first_part (parts t) ≡ w = ap first_part g in
        ap (λ (l : Bytes). x ∷ l) (r (first_part (parts t)) (p ∙ ap (λ (l : List Bytes). first_part (parts t) ∷ l) o)) ∙ h

first_more : (t w u : Bytes) → parts t ≡ w ∷ parts u → t ≡ w ++ byte "/" ∷ u
first_more t w u e =
    let p : parts u ≡ first_part (parts u) ∷ others (parts u) = parts_some (byte "/") u in
    let a : textual (w ∷ parts u) ≡ w ++ byte "/" ∷ textual (parts u) = rw p in
    sym (textual_is t) ∙ ap textual e ∙ a ∙ ap (λ (l : Bytes). w ++ byte "/" ∷ l) (textual_is u)

-- what is left is shorter
pub more_less : (job : Bytes) (index : List ℕ) (m : ℕ) (mem left : Bytes) (d : Down) (memo : List ℕ) → StepSeen job index m mem left (Some d) memo → (at : ℕ) (kind : Span) (size : ℕ) (x : Ref) → d ≡ down.More at kind size x → length (text_of job mem x) < length left
more_less job index m mem left d memo step at kind size x g =
    let s : DownIs job index m mem left (Some (down.More at kind size x)) = rw g at step.down.is in
    let a : length left ≡ length (first_part (parts left)) + suc (length (text_of job mem x)) = ap length (first_more left (first_part (parts left)) (text_of job mem x) s.0) ∙ length-append (first_part (parts left)) (byte "/" ∷ text_of job mem x) in
    omega arith

-- ---- what stands before the last part, with a net behind it
front_last : (w n : Bytes) → below_parent (front_parts (w ∷ [])) n ≡ n
front_last w n = refl

front_more : (w u n : Bytes) → below_parent (front_parts (w ∷ parts u)) n ≡ w ++ byte "/" ∷ below_parent (front_parts (parts u)) n
unfolding joined Items·behind
front_more w u n = go (parts u) (parts_some (byte "/") u)
  where
    two : (p : Bytes) (qs : List Bytes) → below_parent (w ∷ front_parts (p ∷ qs)) n ≡ w ++ byte "/" ∷ below_parent (front_parts (p ∷ qs)) n
    two p [] = rw append-nil
    two p (q ∷ qs) = rw (append_assoc, append_assoc)

    go : (ps : List Bytes) → ps ≡ first_part ps ∷ others ps → below_parent (front_parts (w ∷ ps)) n ≡ w ++ byte "/" ∷ below_parent (front_parts ps) n
    go [] e = absurd (let z : ◌≡◌ {A = ℕ} 0 1 = ap (λ (l : List Bytes). length l) e in omega arith)
    go (p ∷ qs) e = two p qs

-- ---- the way down, part by part: T is the whole text, of which X is left, from module m on
pub record Seeks (job : Bytes) (index : List ℕ) (count k : ℕ) (whole : Bytes) (m : ℕ) (left : Bytes) (upto : ℕ) (memo : List ℕ) : Type 0 where
  pub few : count ≤ 128
  pub row : m < count
  pub small : length whole < 2 ^ 63
  pub keeps : instance_at (modules job index count) (module_row job index m) (parts left) ≡ instance_at (modules job index count) (module_row job index k) (parts whole)
  pub text : take upto whole ++ left ≡ whole
  pub inside : upto ≤ length whole
  pub front : (n : Bytes) → below_parent (front_parts (parts whole)) n ≡ take upto whole ++ below_parent (front_parts (parts left)) n
  pub known : Known job index memo

pub seek_start : (job : Bytes) (index : List ℕ) (count k : ℕ) (t : Bytes) (memo : List ℕ) → Sought job index count k t memo → Seeks job index count k t k t 0 memo
seek_start job index count k t memo s = record { few = s.few; row = s.row; small = s.small; keeps = refl; text = refl; inside = omega arith; front = λ n. refl; known = s.known }

module _ (job : Bytes) (index : List ℕ) (count k : ℕ) (whole : Bytes) (m : ℕ) (left : Bytes) (upto : ℕ) (memo : List ℕ) (inv : Seeks job index count k whole m left upto memo) where
  pub seek_recalls : Recalls job index memo m
  seek_recalls = record { row = omega (arith, inv.few, inv.row); known = inv.known }

  d : List Module
  d = modules job index count

  -- nothing is found
  unseen : instance_at (modules job index count) (module_row job index m) (parts left) ≡ None → PlaceSeen job index count k whole None
  unseen e = record { is = sym (sym inv.keeps ∙ e); place = tt }

  -- one instance down
  last_is : (w : Bytes) → instance_at (modules job index count) (module_row job index m) (w ∷ []) ≡ on_some (instance_named (module_row job index m) w) None λ i. on_some (module_named (modules job index count) i.type) None λ s. Some (record { parent = module_row job index m; conns = i.conns; sub = s })
  unfolding instance_at
  last_is w = refl

  more_is : (w u : Bytes) → instance_at (modules job index count) (module_row job index m) (w ∷ parts u) ≡ on_some (instance_named (module_row job index m) w) None λ i. on_some (module_named (modules job index count) i.type) None λ m'. instance_at (modules job index count) m' (parts u)
  unfolding instance_at
  more_is w u = rw (parts_some (byte "/") u)

  first_none : instance_named (module_row job index m) (first_part (parts left)) ≡ None → instance_at (modules job index count) (module_row job index m) (parts left) ≡ None
  unfolding instance_at
  first_none e = ap (λ (l : List Bytes). instance_at (modules job index count) (module_row job index m) l) (parts_some (byte "/") left) ∙ go (others (parts left))
    where
      go : (ps : List Bytes) → instance_at (modules job index count) (module_row job index m) (first_part (parts left) ∷ ps) ≡ None
      go [] = rw e
      go (p ∷ ps) = rw e

  pub seek_none : (mem : Bytes) (memo' : List ℕ) → StepSeen job index m mem left None memo' → PlaceSeen job index count k whole None
  seek_none mem memo' step = unseen (first_none step.down.is)

  module _ (mem : Bytes) (d : Down) (memo' : List ℕ) (step : StepSeen job index m mem left (Some d) memo') where
    seen : DownSeen job index m mem left (Some d)
    seen = step.down

    module _ (at : ℕ) (kind : Span) (conns : ℕ) (g : d ≡ down.Last at kind conns) (p : Bytes) (ep : p ≡ spanned job kind) where
      abbrev at_last : DownIs job index m mem left (Some (down.Last at kind conns))
      at_last = rw g at seen.is

      whole_last : (q : Option ℕ) → ModuleSeen job index count (module_named (modules job index count) p) q → instance_at (modules job index count) (module_row job index m) (parts left) ≡ on_some (row_is job index q) None λ s. Some (record { parent = module_row job index m; conns = conns_in (section job conns (insts_end index m)); sub = s })
      whole_last q rs =
          let l = at_last in
          let i : Inst = l.1.0 in
          ap (λ (x : List Bytes). instance_at (modules job index count) (module_row job index m) x) l.0
          ∙ last_is (first_part (parts left)) ∙ rw (l.1.1.0, l.1.1.1.0, l.1.1.1.1, ← ep, ← rs.says)

      pub seek_lost : ModuleSeen job index count (module_named (modules job index count) p) None → PlaceSeen job index count k whole None
      seek_lost rs = unseen (whole_last None rs)

      pub seek_found : (row : ℕ) → ModuleSeen job index count (module_named (modules job index count) p) (Some row) → PlaceSeen job index count k whole (Some (record { parent = m; conns = conns; sub = row; upto = upto }))
      seek_found row rs =
          record {
            is = sym (sym inv.keeps ∙ whole_last (Some row) rs);
            place = record {
              parent_row = inv.row;
              sub_row = rs.within;
              inside = inv.inside;
              front = λ n. inv.front n ∙ ap (λ (l : List Bytes). take upto whole ++ below_parent (front_parts l) n) at_last.0;
            };
          }

    module _ (at : ℕ) (kind : Span) (size : ℕ) (x : Ref) (g : d ≡ down.More at kind size x) (p : Bytes) (ep : p ≡ spanned job kind) where
      abbrev at_more : DownIs job index m mem left (Some (down.More at kind size x))
      at_more = rw g at seen.is

      whole_more : (q : Option ℕ) → ModuleSeen job index count (module_named (modules job index count) p) q → instance_at (modules job index count) (module_row job index m) (parts left) ≡ on_some (row_is job index q) None λ m'. instance_at (modules job index count) m' (parts (text_of job mem x))
      whole_more q rs =
          let l = at_more in
          ap (λ (y : List Bytes). instance_at (modules job index count) (module_row job index m) y) l.0
          ∙ more_is (first_part (parts left)) (text_of job mem x) ∙ rw (l.1.1.1.0, l.1.1.1.1, ← ep, ← rs.says)

      left_is : left ≡ first_part (parts left) ++ byte "/" ∷ text_of job mem x
      left_is = first_more left (first_part (parts left)) (text_of job mem x) at_more.0

      up_long : length (take upto whole) ≡ upto
      up_long = length-take-le upto whole inv.inside

      -- the whole, by what stands before the next part
      parted : whole ≡ (take upto whole ++ (first_part (parts left) ++ ascii "/")) ++ text_of job mem x
      parted = sym inv.text ∙ (ap (λ (l : Bytes). take upto whole ++ l) left_is ∙ rw (append_assoc, append_assoc))

      long : length (take upto whole ++ (first_part (parts left) ++ ascii "/")) ≡ upto + size + 1
      long = rw (length-append, length-append, up_long) (omega (arith, at_more.1.0))

      fits_in : upto + size + 1 ≤ length whole
      fits_in =
          let a : length whole ≡ length (take upto whole ++ (first_part (parts left) ++ ascii "/")) + length (text_of job mem x) = ap length parted ∙ length-append (take upto whole ++ (first_part (parts left) ++ ascii "/")) (text_of job mem x) in
          omega (arith, long)

      next_take : take (upto + size + 1) whole ≡ take upto whole ++ (first_part (parts left) ++ ascii "/")
      next_take = ap (take (upto + size + 1)) parted ∙ take_at (take upto whole ++ (first_part (parts left) ++ ascii "/")) (text_of job mem x) (upto + size + 1) long

      pub seek_fits : upto + size < 2 ^ 64
      seek_fits = omega (arith, fits_in, inv.small)

      pub seek_fits_on : upto + size + 1 < 2 ^ 64
      seek_fits_on = omega (arith, fits_in, inv.small)

      pub seek_stop : ModuleSeen job index count (module_named (modules job index count) p) None → PlaceSeen job index count k whole None
      seek_stop rs = unseen (whole_more None rs)

      pub seek_on : (row : ℕ) → ModuleSeen job index count (module_named (modules job index count) p) (Some row) → Seeks job index count k whole row (text_of job mem x) (upto + size + 1) memo'
      seek_on row rs =
          record {
            few = inv.few;
            row = rs.within;
            small = inv.small;
            keeps = sym (whole_more (Some row) rs) ∙ inv.keeps;
            text = rw next_take (sym parted);
            inside = fits_in;
            front = λ n. inv.front n ∙ (ap (λ (l : List Bytes). take upto whole ++ below_parent (front_parts l) n) at_more.0 ∙ (ap (λ (l : Bytes). take upto whole ++ l) (front_more (first_part (parts left)) (text_of job mem x) n) ∙ rw (next_take, append_assoc, append_assoc)));
            known = step.known;
          }

pub ruleset seeks = (rules, seek_start, seek_recalls, seek_none, seek_lost, seek_found, seek_fits, seek_fits_on, seek_stop, seek_on)
