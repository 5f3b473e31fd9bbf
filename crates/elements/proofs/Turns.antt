-- One turn of a lookup by the parts of an element: the answer is that of what is left.
-- Assumes nothing.
use mathlib.Core.Path.{◌≡◌, refl, ap, ◌∙◌, sym}
use Prim.Native.Nat.{ℕ, suc, ◌+◌, ◌-◌, ◌*◌, ◌<◌, ◌≤◌}
use native.Mathlib.Omega.{arith}
use mathlib.Core.Bool.{Bool, true, false, cond}
use mathlib.Core.List.{List, [], ◌∷◌}
use Rattle.std.specs.Prelude.{Option, None, Some, option_map}
use lib.ListN.{length, set}
use lib.Dec.{eqb}
use borrow.Author.Rules.{rules}
use Rattle.text.specs.Ascii.{Bytes, byte}
use Rattle.text.specs.Compare.{same}
use Rattle.text.specs.Sames.{same_of, same_turned}
use Rattle.text.specs.Scan.{split_at, onto}
use Rattle.joblines.specs.Job.{Inst, Module}
use Rattle.jobindex.specs.Index.{module_row}
use Rattle.design.specs.Lists.{first, on_some, those}
use Rattle.design.specs.Lookup.{module_named, instance_named, module_at}
use Rattle.design.specs.Paths.{filled_parts}
use Rattle.lines.specs.Cursors.{spanned, inst_is, InstSeen}
use Rattle.lines.specs.declared.InstAt.{InstAt}
use Rattle.memo.specs.Known.{slots, Begins, Leads, Known, Recalls, Asked, asked_row, asked_slot, asked_leads, place_in, recalls_row, recalls_asks, recalls_room, begins_row, begins_first, begins_here, leads_here, known_put}
use Rattle.lookup.specs.Rows.{modules, row_is, ModuleSeen, insts_from, insts_end, at_none, at_more, below}
use Rattle.spans.specs.Span.{◌⋯◌, bytes}
use Rattle.names.specs.Name.{named, name_of, step_of}
use Rattle.names.specs.Parts.{parts, first_part, others, behind, unslashed, part_of, part_same, part_other, first_on, unslashed_parts, unslashed_first}
use Rattle.names.specs.Frame.{alone_is}
use Rattle.names.specs.declared.name.Form.TheVariants.{Word}
use Rattle.names.specs.declared.name.Name.{Name}
use Rattle.names.specs.declared.part.Part.{Part}
use Rattle.names.specs.declared.part.Part.TheVariants as part
use Rattle.elements.specs.Down.{filled, type_below, DownIs, DownSeen, StepSeen}
use Rattle.elements.specs.declared.Down.{Down}

-- ---- how long the parts are

abbrev weight : List Bytes → ℕ
weight [] = 0
weight (p ∷ ps) = suc (length p) + weight ps

onto_weight : (x : ℕ) (ps : List Bytes) → 0 < weight ps → weight (onto x ps) ≡ suc (weight ps)
onto_weight x [] h = absurd (omega arith)
onto_weight x (p ∷ ps) h = omega arith

parts_weight : (s : Bytes) → weight (parts s) ≡ suc (length s)
unfolding split_at
parts_weight [] = refl
parts_weight (x ∷ s) = go (eqb x (byte "/")) (parts_weight s)
  where
    go : (t : Bool) → weight (parts s) ≡ suc (length s) → weight (cond t ([] ∷ parts s) (onto x (parts s))) ≡ suc (suc (length s))
    go true e = omega arith
    go false e = onto_weight x (parts s) (omega arith) ∙ ap suc e

parts_shorter : (s t w : Bytes) → parts s ≡ w ∷ parts t → length t < length s
parts_shorter s t w e =
    let z : weight (parts s) ≡ suc (length w) + weight (parts t) = ap weight e in
    omega (arith, parts_weight s, parts_weight t)

-- ---- the slot of the first part

pub slot_less : (mem : Bytes) (x : Name) (b : ℕ) (u : Name) → name_of mem x ≡ step_of mem (Some (b, u)) → length (name_of mem u) < length (name_of mem x)
slot_less mem x b u e = rw e (omega arith)

pub ruleset slotted = (rules, slot_less)

-- ---- where the lookup of the first part begins

pub begin_first : (job : Bytes) (index memo : List ℕ) (k h : ℕ) → Asked job index memo k h → (s : Bytes) (p : ℕ) → p ≡ insts_from index k → Begins job index k (first_part (parts s)) p
begin_first job index memo k h a s p e = begins_first job index k (first_part (parts s)) p a.row e

first_same : (s w : Bytes) (qs : List Bytes) → Some qs ≡ behind w (parts s) → w ≡ first_part (parts s)
first_same s w qs e = sym (ap first_part (part_same s w qs e))

module _ (job : Bytes) (index memo : List ℕ) (k h : ℕ) (asked : Asked job index memo k h) (p : ℕ) (ep : Some p ≡ place_in memo h k)
    (end : ℕ) (ee : end ≡ insts_end index k) (i : InstAt) (seen : InstSeen job p end (Some i)) (w : Bytes) (ew : w ≡ spanned job i.name) (mem s : Bytes) (q : Part) (eq : part_of mem q ≡ behind w (parts s)) where
  begin_by : (qs : List Bytes) → Some qs ≡ behind w (parts s) → Begins job index k (first_part (parts s)) p
  begin_by qs e =
      begins_here job index k p (Some i) (rw ee at seen) i.dims i.name i.kind i.next refl (first_part (parts s)) (sym ew ∙ first_same s w qs e) asked.row (asked_leads job index memo k h asked p ep)

  pub begin_same : (x : Name) → q ≡ part.Same x → Begins job index k (first_part (parts s)) p
  begin_same x f = begin_by (parts (name_of mem x)) (rw f at eq)

  pub begin_last : q ≡ part.Last → Begins job index k (first_part (parts s)) p
  begin_last f = begin_by [] (rw f at eq)

pub ruleset lookups = (rules, asked_row, asked_slot, begin_first, begin_same, begin_last)

-- ---- one instance down by the first part of s

module _ (job : Bytes) (index : List ℕ) (k : ℕ) (mem s : Bytes) (end : ℕ) (ee : end ≡ insts_end index k) where
  module _ (at : ℕ) (inv : Begins job index k (first_part (parts s)) at) where
    pub down_none : InstSeen job at end None → DownSeen job mem index k s None
    unfolding first
    down_none seen =
        let e : instance_named (module_row job index k) (first_part (parts s)) ≡ None = inv.keeps ∙ rw (← ee, ← seen.says) in
        record { is = rw e; place = tt }

    module _ (i : InstAt) (seen : InstSeen job at end (Some i)) where
      pub down_less : end - i.next < end - at
      down_less = omega (arith, seen.goes.further, seen.goes.within)

      module _ (w : Bytes) (ew : w ≡ spanned job i.name) (q : Part) (eq : part_of mem q ≡ behind w (parts s)) where
        found : (qs : List Bytes) → Some qs ≡ behind w (parts s) → (parts s ≡ w ∷ qs) × ((type_below (module_row job index k) s ≡ Some (spanned job i.kind)) × Leads job index k at)
        unfolding first
        found qs e =
            let p : parts s ≡ w ∷ qs = part_same s w qs e in
            let f : spanned job i.name ≡ first_part (parts s) = sym (ap first_part p ∙ ew) in
            let o : instance_named (module_row job index k) (first_part (parts s)) ≡ Some (inst_is job end i.dims i.name i.kind i.next) = inv.keeps ∙ rw (← ee, ← seen.says, same_of (spanned job i.name) (first_part (parts s)) f) in
            (p, (rw o, leads_here job index k at (Some i) (rw ee at seen) i.dims i.name i.kind i.next refl (first_part (parts s)) f inv))

        pub down_same : (x : Name) → q ≡ part.Same x → DownSeen job mem index k s (Some (record { at = at; kind = i.kind; rest = x }))
        down_same x h =
            let f = found (parts (name_of mem x)) (rw h at eq) in
            record { is = (f.1.0, record { says = ap (λ (ps : List Bytes). filled (others ps)) (sym f.0); shorter = λ z. parts_shorter s (name_of mem x) w f.0 }); place = f.1.1 }

        pub down_last : (x : Name) → x ≡ named (0 ⋯ 0) false (0 ⋯ 0) Word → q ≡ part.Last → DownSeen job mem index k s (Some (record { at = at; kind = i.kind; rest = x }))
        unfolding bytes those split_at same
        down_last x ex h =
            let f = found [] (rw h at eq) in
            let z : name_of mem x ≡ [] = rw (ex, alone_is mem (0 ⋯ 0) Word) in
            record { is = (f.1.0, record { says = rw z (ap (λ (ps : List Bytes). filled (others ps)) (sym f.0)); shorter = λ y. rw z y }); place = f.1.1 }

        pub down_other : q ≡ part.Other → Begins job index k (first_part (parts s)) i.next
        unfolding first
        down_other h =
            let o : same (first_part (parts s)) w ≡ false = part_other s w (rw h at eq) in
            let f : same (spanned job i.name) (first_part (parts s)) ≡ false = same_turned (spanned job i.name) (first_part (parts s)) ∙ rw (← ew) o in
            record { row = inv.row; keeps = inv.keeps ∙ rw (← ee, ← seen.says, f) }

pub ruleset downs = (rules, begins_row, down_none, down_less, down_same, down_last, down_other)

-- ---- the same with a memo

module _ (job : Bytes) (index memo : List ℕ) (k : ℕ) (r : Recalls job index memo k) (mem s : Bytes) where
  pub step_kept : (d : Option Down) → DownSeen job mem index k s d → StepSeen job mem index k s d memo
  step_kept d seen = record { down = seen; known = r.known }

  pub step_put : (d : Down) → DownSeen job mem index k s (Some d) → (h : ℕ) → h < slots → (memo' : List ℕ) → memo' ≡ set (set memo (2 * h) (k + 1)) (2 * h + 1) d.at → StepSeen job mem index k s (Some d) memo'
  step_put d seen h few memo' e = record { down = seen; known = rw e (known_put job index memo r.known h k d.at few seen.place) }

pub ruleset steps = (rules, recalls_row, recalls_asks, recalls_room, begins_first, step_kept, step_put)

-- ---- the element, part by part

unslashed_le : (s : Bytes) → length (unslashed s) ≤ length s
unfolding unslashed
unslashed_le [] = omega arith
unslashed_le (x ∷ s) = go (eqb x (byte "/")) (unslashed_le s)
  where
    go : (t : Bool) → length (unslashed s) ≤ length s → length (cond t (unslashed s) (x ∷ s)) ≤ suc (length s)
    go true e = omega arith
    go false e = omega arith

filled_unslashed : (s : Bytes) → filled (parts (unslashed s)) ≡ filled (parts s)
unfolding those same
filled_unslashed s = unslashed_parts filled (λ ps. refl) s

filled_first : (s : Bytes) (b : ℕ) (u : Bytes) → s ≡ b ∷ u → (b ≡ byte "/" → ⊥) → filled (parts s) ≡ first_part (parts s) ∷ filled (others (parts s))
unfolding those same
filled_first s b u e h = rw (e, first_on b u h)

unslashed_twice : (s : Bytes) → unslashed (unslashed s) ≡ unslashed s
unfolding unslashed
unslashed_twice [] = refl
unslashed_twice (x ∷ s) = go (eqb x (byte "/")) refl (unslashed_twice s)
  where
    go : (q : Bool) → eqb x (byte "/") ≡ q → unslashed (unslashed s) ≡ unslashed s → unslashed (cond q (unslashed s) (x ∷ s)) ≡ cond q (unslashed s) (x ∷ s)
    go true e h = h
    go false e h = rw e

-- the lookup of the whole is that of t, which begins with no slash, from module m on
pub record Going (job : Bytes) (index : List ℕ) (count : ℕ) (target : Option Module) (m : ℕ) (t : Bytes) (memo : List ℕ) : Type 0 where
  pub keeps : target ≡ module_at (modules job index count) (module_row job index m) (filled (parts t))
  pub bare : unslashed t ≡ t
  pub few : count ≤ 128
  pub within : m < count
  pub known : Known job index memo

module _ (job : Bytes) (index : List ℕ) (count : ℕ) where
  pub going_start : (k : ℕ) (s t : Bytes) (memo : List ℕ) → t ≡ unslashed s → count ≤ 128 → k < count → Known job index memo → Going job index count (module_at (modules job index count) (module_row job index k) (filled_parts s)) k t memo
  going_start k s t memo et l h n = record { keeps = rw (et, filled_unslashed s); bare = rw et (unslashed_twice s); few = l; within = h; known = n }

  pub going_recalls : (target : Option Module) (m : ℕ) (t : Bytes) (memo : List ℕ) → Going job index count target m t memo → Recalls job index memo m
  going_recalls target m t memo inv = record { row = omega (arith, inv.few, inv.within); known = inv.known }

  module _ (target : Option Module) (m : ℕ) (mem t : Bytes) (memo : List ℕ) (inv : Going job index count target m t memo) where
    pub going_end : t ≡ step_of mem None → ModuleSeen job index count target (Some m)
    unfolding those split_at same
    going_end z =
        let e : target ≡ Some (module_row job index m) = inv.keeps ∙ rw z (at_none (modules job index count) (module_row job index m)) in
        record { says = sym e; within = inv.within }

    module _ (b : ℕ) (u : Name) (begins : t ≡ step_of mem (Some (b, u))) (memo' : List ℕ) where
      abbrev after : Module → Option Module
      after m' = module_at (modules job index count) m' (filled (others (parts t)))

      one_down : target ≡ on_some (type_below (module_row job index m) t) None (λ n. on_some (module_named (modules job index count) n) None after)
      one_down =
          let f = filled_first t b (name_of mem u) begins (unslashed_first t b (name_of mem u) (inv.bare ∙ begins)) in
          let a : module_at (modules job index count) (module_row job index m) (filled (parts t)) ≡ on_some (below (modules job index count) (module_row job index m) (first_part (parts t))) None after = rw f (at_more (modules job index count) (module_row job index m) (first_part (parts t)) (filled (others (parts t)))) in
          inv.keeps ∙ (a ∙ go (instance_named (module_row job index m) (first_part (parts t))))
        where
          go : (o : Option Inst) → on_some (on_some o None λ i. module_named (modules job index count) i.type) None after ≡ on_some (option_map (λ (i : Inst). i.type) o) None (λ n. on_some (module_named (modules job index count) n) None after)
          go None = refl
          go (Some i) = refl

      pub going_none : StepSeen job mem index m t None memo' → ModuleSeen job index count target None
      going_none step =
          let n : type_below (module_row job index m) t ≡ None = step.down.is in
          record { says = sym (one_down ∙ rw n); within = tt }

      module _ (d : Down) (step : StepSeen job mem index m t (Some d) memo') (p : Bytes) (ep : p ≡ spanned job d.kind) where
        here : DownIs job mem (module_row job index m) t (Some d)
        here = step.down.is

        abbrev NamedIs : Option ℕ → Type 0
        NamedIs = ModuleSeen job index count (module_named (modules job index count) p)

        on_row : (q : Option ℕ) → NamedIs q → target ≡ on_some (row_is job index q) None after
        on_row q named = one_down ∙ rw (here.0, ← ep, named.says)

        pub going_unlisted : NamedIs None → ModuleSeen job index count target None
        going_unlisted named = record { says = sym (on_row None named); within = tt }

        module _ (row : ℕ) (named : NamedIs (Some row)) (y : Bytes) (ey : y ≡ unslashed (name_of mem d.rest)) where
          pub going_on : Going job index count target row y memo'
          going_on =
              record {
                keeps = on_row (Some row) named ∙ rw (ey, filled_unslashed (name_of mem d.rest), here.1.says);
                bare = rw ey (unslashed_twice (name_of mem d.rest));
                few = inv.few;
                within = named.within;
                known = step.known;
              }

          pub going_less : length y < length t
          going_less =
              let l : 0 < length t = rw begins (omega arith) in
              omega (arith, unslashed_le (name_of mem d.rest), ap length ey, here.1.shorter l)

pub ruleset goings = (rules, going_start, going_recalls, going_end, going_none, going_unlisted, going_on, going_less)
