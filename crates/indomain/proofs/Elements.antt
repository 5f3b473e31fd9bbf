-- A strategy's own elements, or those of its domain: each law is stated as a need asks it. Assumes nothing.
use Prim.Native.Nat.{ℕ, ◌+◌, ◌≤◌, ◌<◌}
use native.Mathlib.Omega.{arith}
use mathlib.Core.Path.{◌≡◌, refl, sym, ap, ◌∙◌}
use mathlib.Core.Bool.{Bool, true, false, cond}
use mathlib.Core.List.{List, [], ◌∷◌, ◌++◌, flat_map}
use Rattle.std.specs.Prelude.{Option, None, Some}
use lib.Dec.{ltb}
use lib.ListN.{length, length-map}
use borrow.Author.Rules.{rules}
use borrow.Author.Tests.{ltb-true, ltb-false}
use Rattle.text.specs.Ascii.{Bytes, ascii}
use Rattle.text.specs.Compare.{same}
use Rattle.text.specs.Sames.{same_refl, no_true}
use Rattle.spans.specs.Span.{bytes}
use Rattle.spans.specs.Reach.{Held, reach_end}
use Rattle.spans.specs.declared.span.Span.{Span}
use Rattle.tcl.specs.Lists.{list}
use Rattle.joblines.specs.Job.{Module}
use Rattle.design.specs.Lists.{on_some}
use Rattle.names.specs.Name.{name_of}
use Rattle.names.specs.Scoped.{scoped}
use Rattle.names.specs.declared.name.Name.{Name}
use Rattle.nametable.specs.Table.{table_names, names_none}
use Rattle.model.specs.Commands.{or_else}
use Rattle.model.specs.Records.{Domain as Domainʳ, Isolation as Isolationʳ}
use Rattle.store.specs.Strings.{string, span_of, maybe_of}
use Rattle.store.specs.View.{list_below, domain_of, isolation_of}
use Rattle.store.specs.declared.stored.Stored.{Stored}
use Rattle.store.specs.declared.state.Domain.{Domain}
use Rattle.store.specs.declared.state.Isolation.{Isolation}
use Rattle.texts.specs.Isolation.{applies_to, is_outputs}
use Rattle.isolated.specs.Table.{Kept, kept_in}
use Rattle.keep.specs.Gains.{Aim}
use Rattle.keep.specs.Covered.{Ready, Remarked, Answer}
use Rattle.keep.specs.declared.Cover.{Cover}
use Rattle.coverall.specs.Elements.{aims_for}
use Rattle.clamps.specs.Values.{stored_name}
use Rattle.clamps.specs.Laws.{stored_is}
use Rattle.remarks.specs.Lines.{not_outputs}
use Rattle.listnames.specs.Lists.{Rooms, Listed}
use Rattle.domainlists.specs.Lists.{OfDomain, Names}
use Rattle.strategies.specs.Gains.{remark_gain, covered_gain, domain_gain}
use Rattle.strategies.specs.Values.{given_name}
use Rattle.indomain.specs.Asked.{OfOwn, OfStrategy}
use Rattle.indomain.specs.Own.{name_is, entries_are, scope_within, elements_within, own_held, own_there}
use Rattle.indomain.specs.Remarks.{remark_answer}

-- ---- what is asked

pub own_rooms : (files area : Bytes) (x : Isolation) (t : List ℕ) → OfOwn files area x → 325 ≤ length t → Rooms files area (span_of x.scope) (span_of x.elements) t 0
own_rooms files area x t o h =
    let few : length (list (string (files ++ area) x.elements)) ≤ 64 = omega (arith, o.few, entries_are (files ++ area) x) in
    record {
      held = own_held files area x o;
      scope_small = omega (arith, reach_end (length files) (span_of x.scope), scope_within files area x o, o.small);
      small = omega (arith, reach_end (length files) (span_of x.elements), elements_within files area x o, o.small);
      rows = omega (arith, few);
      room = omega (arith, few, h);
    }

pub domain_asked : (files area : Bytes) (x : Isolation) (d : Domain) (t : List ℕ) → OfStrategy files area x d → 325 ≤ length t → OfDomain files area d t
domain_asked files area x d t o h = record { small = o.own.small; strings = o.domain; few = o.domain_few; room = h }

pub ruleset rooms = (rules, own_rooms, domain_asked)

-- ---- through a table

module _ (files area : Bytes) (scope v : Stored) (t₀ t : List ℕ) (n : ℕ) (l : Listed (files ++ area) t₀ 0 (list_below (files ++ area) scope v) t n) where
  pub own_few : Rooms files area (span_of scope) (span_of v) t₀ 0 → n ≤ 65536
  own_few r = omega (arith, l.count, length-map (list (string (files ++ area) v)) (scoped (string (files ++ area) scope)), r.rows)

module _ (job mem : Bytes) (warn : Bool) (c : Cover) (out : Bytes) (number : ℕ) (i : Isolationʳ) (sig : Bytes) (f : Bytes → List Aim) (t : List ℕ) (n : ℕ) (l : List Kept) (r : Cover) (out' : Bytes) (ports : List ℕ)
    (a : Answer job mem warn c out (covered_gain number i sig (flat_map f (table_names mem t n)) l) r out' ports) (t₀ : List ℕ) where
  pub own_told : (x : Isolation) → Listed mem t₀ 0 (list_below mem x.scope x.elements) t n → Answer job mem warn c out (covered_gain number i sig (flat_map f (isolation_of mem x).elements) l) r out' ports
  unfolding isolation_of
  own_told x h = let e : table_names mem t n ≡ list_below mem x.scope x.elements = h.are ∙ rw (names_none mem t₀ 0) in rw e at a

  pub outputs_told : (es : List Bytes) → Names mem es t₀ t n → Answer job mem warn c out (covered_gain number i sig (flat_map f es) l) r out' ports
  outputs_told es h = rw h.are at a

pub outputs_few : (files area : Bytes) (d : Domain) (t₀ t : List ℕ) (n : ℕ) → OfDomain files area d t₀ → Names (files ++ area) (domain_of (files ++ area) d).elements t₀ t n → n ≤ 65536
outputs_few files area d t₀ t n o h = omega (arith, o.few, h.count)

-- ---- a strategy

-- with elements, or without
with_some_lem : (ds : List Module) (m : Module) (n : ℕ) (i : Isolationʳ) (sig : Bytes) (x : Domainʳ) (es : List Bytes) (l : List Kept) → 0 < length es → covered_gain n i sig (flat_map (aims_for false ds m) es) l ≡ domain_gain ds m n i sig x es l
unfolding aims_for
with_some_lem ds m n i sig x [] l h = absurd (omega arith)
with_some_lem ds m n i sig x (e ∷ es) l h = refl

with_none : (ds : List Module) (m : Module) (n : ℕ) (i : Isolationʳ) (sig : Bytes) (x : Domainʳ) (es : List Bytes) (l : List Kept) → length es ≡ 0
    → cond (is_outputs (applies_to i)) (covered_gain n i sig (flat_map (aims_for true ds m) x.elements) l) (remark_gain (not_outputs i.name (applies_to i)) l) ≡ domain_gain ds m n i sig x es l
unfolding aims_for
with_none ds m n i sig x [] l h = refl
with_none ds m n i sig x (e ∷ es) l h = absurd (omega arith)

-- what it applies to, as it is stored
applies_is : (mem : Bytes) (x : Isolation) → or_else (maybe_of mem x.applies) (ascii "outputs") ≡ applies_to (isolation_of mem x)
unfolding isolation_of
applies_is mem x = go (maybe_of mem x.applies)
  where
    go : (o : Option Bytes) → or_else o (ascii "outputs") ≡ on_some o (ascii "outputs") λ a. a
    go None = refl
    go (Some a) = refl

written_is : (mem : Bytes) (m : Option Stored) → is_outputs (or_else (maybe_of mem m) (ascii "outputs")) ≡ false → name_of mem (given_name m) ≡ or_else (maybe_of mem m) (ascii "outputs")
written_is mem None h = let e : same (ascii "outputs") (ascii "outputs") ≡ true = same_refl (ascii "outputs") in absurd (no_true (sym (rw e at h)))
written_is mem (Some s) h = stored_is mem s

module _ (files area : Bytes) (x : Isolation) (d : Domain) (o : OfStrategy files area x d) (v : Span) (ev : v ≡ span_of x.elements) (b : Bool) (has : Held (length files) v → b ≡ ltb 0 (length (list (bytes (files ++ area) v)))) where
  abbrev mem : Bytes
  mem = files ++ area

  abbrev i : Isolationʳ
  i = isolation_of mem x

  test_is : b ≡ ltb 0 (length i.elements)
  test_is = own_there files area x o.own v ev b has

  some_there : b ≡ true → 0 < length i.elements
  some_there h = ltb-true 0 (length i.elements) (sym test_is ∙ h)

  none_there : b ≡ false → length i.elements ≡ 0
  none_there h = omega (arith, ltb-false 0 (length i.elements) (sym test_is ∙ h))

  module _ (job : Bytes) (warn : Bool) (c : Cover) (out : Bytes) (ds : List Module) (m : Module) (number : ℕ) (sig : Bytes) (r : Cover) (out' : Bytes) (ports : List ℕ) where
    pub in_own : (l : List Kept) → Answer job mem warn c out (covered_gain number i sig (flat_map (aims_for false ds m) i.elements) l) r out' ports → b ≡ true → Answer job mem warn c out (domain_gain ds m number i sig (domain_of mem d) i.elements l) r out' ports
    in_own l a h = rw (with_some_lem ds m number i sig (domain_of mem d) i.elements l (some_there h)) at a

    module _ (h : b ≡ false) (q : Bool) (eq : q ≡ is_outputs (or_else (maybe_of mem x.applies) (ascii "outputs"))) where
      applies : is_outputs (applies_to i) ≡ q
      applies = ap is_outputs (sym (applies_is mem x)) ∙ sym eq

      pub in_outputs : (l : List Kept) → Answer job mem warn c out (covered_gain number i sig (flat_map (aims_for true ds m) (domain_of mem d).elements) l) r out' ports → q ≡ true → Answer job mem warn c out (domain_gain ds m number i sig (domain_of mem d) i.elements l) r out' ports
      in_outputs l a g =
          let e : is_outputs (applies_to i) ≡ true = applies ∙ g in
          let k : covered_gain number i sig (flat_map (aims_for true ds m) (domain_of mem d).elements) l ≡ domain_gain ds m number i sig (domain_of mem d) i.elements l = rw e at (with_none ds m number i sig (domain_of mem d) i.elements l (none_there h)) in
          rw k at a

      pub in_remarked : (n : Name) → n ≡ stored_name x.name → (w : Name) → w ≡ given_name x.applies → Ready c ports → Remarked warn (not_outputs (name_of mem n) (name_of mem w)) c out r out' → q ≡ false
          → Answer job mem warn c out (domain_gain ds m number i sig (domain_of mem d) i.elements (kept_in job mem ports c.ports)) r out' ports
      in_remarked n en w ew ready a g =
          let e : is_outputs (applies_to i) ≡ false = applies ∙ g in
          let k : remark_gain (not_outputs i.name (applies_to i)) (kept_in job mem ports c.ports) ≡ domain_gain ds m number i sig (domain_of mem d) i.elements (kept_in job mem ports c.ports) = rw e at (with_none ds m number i sig (domain_of mem d) i.elements (kept_in job mem ports c.ports) (none_there h)) in
          let en' : name_of mem n ≡ i.name = ap (name_of mem) en ∙ name_is mem x in
          let ew' : name_of mem w ≡ applies_to i = ap (name_of mem) ew ∙ written_is mem x.applies (sym eq ∙ g) ∙ applies_is mem x in
          let a' : Remarked warn (not_outputs i.name (applies_to i)) c out r out' = rw (en', ew') at a in
          rw k at (remark_answer job mem warn (not_outputs i.name (applies_to i)) c out ports r out' ready a')
