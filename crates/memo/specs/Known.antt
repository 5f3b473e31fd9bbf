-- What a memo of instances says: in slot h stand one more than the number of a module, and a place of the job. The first instance of the module's lines from
-- that place on is the first of its name in the module. Laws as the needs of those who look up by it ask them.
-- Assumes nothing.
use Rattle.std.specs.Prelude.{ℕ, zero, suc, ◌+◌, ◌*◌, ◌≤◌, ◌<◌, ◌^◌, ◌≡◌, refl, Bool, true, false, cond, List, [], ◌∷◌, eqb, length, set, get_or, replicate, Option, None, Some, is_some}
use Rattle.std.proofs.Common.{sym, ap, ◌∙◌, arith, length-set, get_or-set_same, get_or-set_other, eqb-true, eq-eqb, ne_eqb, rules}
use Rattle.std.proofs.lemmas.List.{length-replicate}
use Rattle.std.proofs.lemmas.Bool.{eqb-false}
use Rattle.text.specs.Ascii.{Bytes}
use Rattle.text.specs.Compare.{same}
use Rattle.text.specs.Sames.{same_of, no_true}
use Rattle.fields.specs.declared.Dims.{Dims}
use Rattle.joblines.specs.Job.{Inst}
use Rattle.joblines.specs.Sections.{insts_in}
use Rattle.jobindex.specs.Index.{num, section, module_row}
use Rattle.jobindex.specs.declared.Span.{Span}
use Rattle.design.specs.Lists.{first}
use Rattle.design.specs.Lookup.{instance_named}
use Rattle.lines.specs.Cursors.{spanned, inst_is, InstSeen}
use Rattle.lines.specs.declared.InstAt.{InstAt}
use Rattle.lookup.specs.Rows.{insts_from, insts_end, insts_are}

abbrev pub slots : ℕ
slots = 128

abbrev pub memo_size : ℕ
memo_size = 256

-- the first instance of a name in the lines of module k from p on
abbrev pub named_from : Bytes → List ℕ → ℕ → ℕ → Bytes → Option Inst
named_from job index k p w = first (λ (i : Inst). same i.name w) (insts_in (section job p (insts_end index k)))

-- a lookup of w in module k may begin at p
pub record Begins (job : Bytes) (index : List ℕ) (k : ℕ) (w : Bytes) (p : ℕ) : Type 0 where
  pub row : k ≤ 128
  pub keeps : instance_named (module_row job index k) w ≡ named_from job index k p w

-- the first instance of the lines of module k from p on is the first of its name
pub record Leads (job : Bytes) (index : List ℕ) (k p : ℕ) : Type 0 where
  pub leads : (i : Inst) (is : List Inst) → insts_in (section job p (insts_end index k)) ≡ i ∷ is → instance_named (module_row job index k) i.name ≡ Some i

pub record Known (job : Bytes) (index memo : List ℕ) : Type 0 where
  pub long : length memo ≡ memo_size
  pub leads : (h k : ℕ) → h < slots → num memo (2 * h) ≡ k + 1 → Leads job index k (num memo (2 * h + 1))

-- a memo that is asked about module k
pub record Recalls (job : Bytes) (index memo : List ℕ) (k : ℕ) : Type 0 where
  pub row : k ≤ 128
  pub known : Known job index memo

-- the place in slot h, where it is one of module k
abbrev pub place_in : List ℕ → ℕ → ℕ → Option ℕ
place_in memo h k = cond (eqb (num memo (2 * h)) (k + 1)) (Some (num memo (2 * h + 1))) None

module _ (memo : List ℕ) (h k a : ℕ) (ea : a ≡ num memo (2 * h)) where
  pub place_none : (a ≡ k + 1 → ⊥) → None ≡ place_in memo h k
  place_none n = rw (← ea, ne_eqb a (k + 1) n)

  pub place_some : a ≡ k + 1 → (p : ℕ) → p ≡ num memo (2 * h + 1) → Some p ≡ place_in memo h k
  place_some e p ep = rw (← ea, eq-eqb a (k + 1) e, ep)

pub ruleset place_cases = (rules, place_none, place_some)

-- what is asked of the memo: module k, slot h
pub record Asked (job : Bytes) (index memo : List ℕ) (k h : ℕ) : Type 0 where
  pub row : k ≤ 128
  pub slot : h < slots
  pub known : Known job index memo

module _ (job : Bytes) (index memo : List ℕ) (k h : ℕ) (a : Asked job index memo k h) where
  pub asked_row : k ≤ 128
  asked_row = a.row

  pub asked_slot : h < slots
  asked_slot = a.slot

  pub asked_fits : k + 1 < 2 ^ 64
  asked_fits = omega (arith, a.row)

  pub asked_leads : (p : ℕ) → Some p ≡ place_in memo h k → Leads job index k p
  asked_leads p e = go (eqb (num memo (2 * h)) (k + 1)) refl e
    where
      go : (b : Bool) → eqb (num memo (2 * h)) (k + 1) ≡ b → Some p ≡ cond b (Some (num memo (2 * h + 1))) None → Leads job index k p
      go true t f = let z : p ≡ num memo (2 * h + 1) = cc in rw z (a.known.leads h k a.slot (eqb-true (num memo (2 * h)) (k + 1) t))
      go false t f = absurd (no_true (ap is_some (sym f)))

module _ (job : Bytes) (index memo : List ℕ) (k : ℕ) (r : Recalls job index memo k) where
  pub recalls_row : k ≤ 128
  recalls_row = r.row

  pub recalls_asks : (h : ℕ) → h < slots → Asked job index memo k h
  recalls_asks h few = record { row = r.row; slot = few; known = r.known }

  pub recalls_room : (h : ℕ) → h < slots → 2 * h + 1 < length memo
  recalls_room h few = omega (arith, r.known.long)

pub begins_row : (job : Bytes) (index : List ℕ) (k : ℕ) (w : Bytes) (p : ℕ) → Begins job index k w p → k ≤ 128
begins_row job index k w p b = b.row

-- ---- where a lookup begins

pub begins_first : (job : Bytes) (index : List ℕ) (k : ℕ) (w : Bytes) (p : ℕ) → k ≤ 128 → p ≡ insts_from index k → Begins job index k w p
begins_first job index k w p h e = record { row = h; keeps = rw (insts_are job index k, e) }

module _ (job : Bytes) (index : List ℕ) (k p : ℕ) (r : Option InstAt) (seen : InstSeen job p (insts_end index k) r) (d : Dims) (n t : Span) (next : ℕ) (g : r ≡ Some (record { dims = d; name = n; kind = t; next = next })) (w : Bytes) (ew : spanned job n ≡ w) where
  abbrev here : Inst
  here = inst_is job (insts_end index k) d n t next

  insts_here : insts_in (section job p (insts_end index k)) ≡ here ∷ insts_in (section job next (insts_end index k))
  insts_here = rw g at (sym seen.says)

  named_here : named_from job index k p w ≡ Some here
  unfolding first
  named_here = rw (insts_here, same_of (spanned job n) w ew)

  pub begins_here : k ≤ 128 → Leads job index k p → Begins job index k w p
  begins_here h l = record { row = h; keeps = ap (instance_named (module_row job index k)) (sym ew) ∙ l.leads here (insts_in (section job next (insts_end index k))) insts_here ∙ sym named_here }

  pub leads_here : Begins job index k w p → Leads job index k p
  leads_here b =
      record {
        leads = λ i is e.
            let h : here ≡ i = head_same here i (insts_in (section job next (insts_end index k))) is (sym insts_here ∙ e) in
            let f : instance_named (module_row job index k) here.name ≡ Some here = ap (instance_named (module_row job index k)) ew ∙ b.keeps ∙ named_here in
            ap (λ (j : Inst). instance_named (module_row job index k) j.name) (sym h) ∙ f ∙ ap Some h;
      }
    where
      head_same : (a b : Inst) (us vs : List Inst) → ◌≡◌ {A = List Inst} (a ∷ us) (b ∷ vs) → a ≡ b
      head_same a b us vs e = ap (head_or a) e
        where
          head_or : Inst → List Inst → Inst
          head_or z [] = z
          head_or z (x ∷ xs) = x

-- ---- an empty memo

zeros : (n i : ℕ) → ◌≡◌ {A = ℕ} (get_or (replicate {A = ℕ} n 0) i 0) 0
zeros zero i = refl
zeros (suc n) zero = refl
zeros (suc n) (suc i) = zeros n i

pub known_none : (job : Bytes) (index : List ℕ) → Known job index (replicate {A = ℕ} memo_size 0)
known_none job index = record { long = length-replicate {A = ℕ} memo_size 0; leads = λ h k f e. absurd (omega (arith, zeros memo_size (2 * h), e)) }

-- ---- a memo with one instance more

module _ (job : Bytes) (index memo : List ℕ) (old : Known job index memo) (h k p : ℕ) (few : h < slots) (l : Leads job index k p) where
  abbrev after : List ℕ
  after = set (set memo (2 * h) (k + 1)) (2 * h + 1) p

  pub known_put : Known job index (set (set memo (2 * h) (k + 1)) (2 * h + 1) p)
  known_put =
      record {
        long = length-set (set memo (2 * h) (k + 1)) (2 * h + 1) p ∙ length-set memo (2 * h) (k + 1) ∙ old.long;
        leads = λ i q f e. by i q f e (eqb i h) refl;
      }
    where
      module_here : num after (2 * h) ≡ k + 1
      module_here =
          get_or-set_other (set memo (2 * h) (k + 1)) (2 * h + 1) (2 * h) p 0 (λ e. omega (arith, e))
          ∙ get_or-set_same memo (2 * h) (k + 1) 0 (omega (arith, old.long))

      place_here : num after (2 * h + 1) ≡ p
      place_here = get_or-set_same (set memo (2 * h) (k + 1)) (2 * h + 1) p 0 (omega (arith, length-set memo (2 * h) (k + 1), old.long))

      other : (y : ℕ) → (y ≡ 2 * h → ⊥) → (y ≡ 2 * h + 1 → ⊥) → num after y ≡ num memo y
      other y a b = get_or-set_other (set memo (2 * h) (k + 1)) (2 * h + 1) y p 0 b ∙ get_or-set_other memo (2 * h) y (k + 1) 0 a

      by : (i q : ℕ) → i < slots → num after (2 * i) ≡ q + 1 → (b : Bool) → eqb i h ≡ b → Leads job index q (num after (2 * i + 1))
      by i q f e true t =
          let z : i ≡ h = eqb-true i h t in
          let m : num after (2 * h) ≡ q + 1 = rw z at e in
          let s : k ≡ q = omega (arith, module_here) in
          rw (z, place_here, ← s) l
      by i q f e false t =
          let z : i ≡ h → ⊥ = eqb-false i h t in
          let m : num memo (2 * i) ≡ q + 1 = sym (other (2 * i) (λ x. z (omega arith)) (λ x. absurd (omega arith))) ∙ e in
          rw (other (2 * i + 1) (λ x. absurd (omega arith)) (λ x. z (omega arith))) (old.leads i q f m)
