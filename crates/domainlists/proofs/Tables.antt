-- Tables of the elements and of the entries: laws as the needs ask them. Assumes nothing.
use Rattle.store.specs.declared.state.Few.{Few}
use Prim.Native.Nat.{ℕ, ◌+◌, ◌*◌, ◌≤◌, ◌<◌, ◌^◌}
use mathlib.Core.Path.{◌≡◌, refl, sym, ◌∙◌}
use mathlib.Core.Bool.{Bool, true, false, cond}
use mathlib.Core.List.{List, [], ◌∷◌, ◌++◌, map, flat_map, append_assoc, append-nil}
use native.Mathlib.Omega.{arith}
use lib.ListN.{length, take, drop, get_or, length-append, length-map, length-set}
use borrow.Author.Rules.{rules}
use Rattle.text.specs.Ascii.{Bytes}
use Rattle.text.specs.Compare.{same}
use Rattle.spans.specs.Span.{◌⋯◌, bytes}
use Rattle.spans.specs.Reach.{held_by, reach_end}
use Rattle.spans.specs.declared.span.Span.{Span}
use Rattle.tcl.specs.Lists.{list}
use Rattle.names.specs.Scoped.{scoped}
use Rattle.names.specs.Name.{named, name_of}
use Rattle.names.specs.declared.name.Form.TheVariants.{Word}
use Rattle.names.specs.declared.name.Name.{Name}
use Rattle.names.specs.Frame.{alone_is}
use Rattle.nametable.specs.Table.{row_put, table_names, Stores, put_names, names_none}
use Rattle.listnames.specs.Lists.{Rooms, Listed}
use Rattle.design.specs.Lists.{those}
use Rattle.store.specs.Strings.{string, span_of}
use Rattle.store.specs.View.{list_below, domain_of}
use Rattle.store.specs.Order.{of_retention}
use Rattle.store.specs.declared.stored.Stored.{Stored}
use Rattle.store.specs.declared.state.Domain.{Domain}
use Rattle.store.specs.declared.state.Retention.{Retention}
use Rattle.made.specs.Made.{reach_of}
use Rattle.setting.specs.Orders.{holds_few, holds_long, holds_at, holds_next, holds_end}
use Rattle.domainlists.specs.Own.{flat_first, those_flat}
use Rattle.domainlists.specs.Lists.{entries_of, all_entries, is_of, own_entries, OfDomain, OfRetentions, Names}

-- ---- stored strings as spans

module _ (files area : Bytes) (scope v : Stored) (p q : Span) (ep : p ≡ span_of scope) (eq : q ≡ span_of v) (table : List ℕ) (n : ℕ) where
  pub span_rooms : Rooms files area (span_of scope) (span_of v) table n → Rooms files area p q table n
  span_rooms r = rw (ep, eq) r

  pub span_listed : (table' : List ℕ) (r : ℕ) → Listed (files ++ area) table n (map (scoped (bytes (files ++ area) p)) (list (bytes (files ++ area) q))) table' r → Listed (files ++ area) table n (list_below (files ++ area) scope v) table' r
  span_listed table' r l = rw (ep, eq) at l

pub string_stores : (s : Stored) (p : Span) (x : Name) → x ≡ named (0 ⋯ 0) false p Word → p ≡ span_of s → s.at < 2 ^ 32 → s.len < 2 ^ 32 → Stores x
string_stores s p x ex ep a l = rw (ex, ep) (record { scope_at = omega arith; scope_len = omega arith; word_at = a; word_len = l })

pub string_put : (table table' : List ℕ) (n : ℕ) (s : Stored) (p : Span) (x : Name) → table' ≡ row_put table n x → x ≡ named (0 ⋯ 0) false p Word → p ≡ span_of s → table' ≡ row_put table n (named (0 ⋯ 0) false (span_of s) Word)
string_put table table' n s p x e ex ep = e ∙ rw (ex, ep)

pub strings_same : (mem : Bytes) (s t : Stored) (p q : Span) (r : Bool) → r ≡ same (bytes mem p) (bytes mem q) → p ≡ span_of s → q ≡ span_of t → r ≡ same (string mem s) (string mem t)
strings_same mem s t p q r h ep eq = h ∙ rw (ep, eq)

pub ruleset strings = (rules, span_rooms, span_listed, string_stores, string_put, strings_same)

-- ---- the elements of a domain

module _ (files area : Bytes) (d : Domain) (table : List ℕ) (g : OfDomain files area d table) where
  entries_below_lem : length (list (string (files ++ area) d.elements)) + length (cond d.whole (string (files ++ area) d.scope ∷ []) []) ≤ 65
  unfolding domain_of
  entries_below_lem =
      let e = length-append (list_below (files ++ area) d.scope d.elements) (cond d.whole (string (files ++ area) d.scope ∷ []) []) in
      let f = length-map (list (string (files ++ area) d.elements)) (scoped (string (files ++ area) d.scope)) in
      omega (arith, e, f, g.few)

  scope_ends : d.scope.at + d.scope.len ≤ length (files ++ area)
  scope_ends = omega (arith, reach_end (length files) (span_of d.scope), g.strings)

  pub domain_rooms : Rooms files area (span_of d.scope) (span_of d.elements) table 0
  domain_rooms =
      record {
        held = held_by (length files) (length (files ++ area)) (span_of d.elements) g.small (omega (arith, g.strings));
        scope_small = omega (arith, scope_ends, g.small);
        small = omega (arith, reach_end (length files) (span_of d.elements), g.strings, g.small);
        rows = omega (arith, entries_below_lem);
        room = omega (arith, entries_below_lem, g.room);
      }

  module _ (table₁ : List ℕ) (n : ℕ) (l : Listed (files ++ area) table 0 (list_below (files ++ area) d.scope d.elements) table₁ n) where
    names_are : table_names (files ++ area) table₁ n ≡ list_below (files ++ area) d.scope d.elements
    names_are = l.are ∙ rw (names_none (files ++ area) table 0)

    many : n ≡ length (list (string (files ++ area) d.elements))
    many = omega (arith, l.count, length-map (list (string (files ++ area) d.elements)) (scoped (string (files ++ area) d.scope)))

    pub domain_plain : d.whole ≡ false → Names (files ++ area) (domain_of (files ++ area) d).elements table table₁ n
    unfolding domain_of
    domain_plain h =
        rw (h, append-nil) (record { are = names_are; count = many ∙ sym (length-map (list (string (files ++ area) d.elements)) (scoped (string (files ++ area) d.scope))); long = l.long })

    module _ (h : d.whole ≡ true) where
      one_less : length (list (string (files ++ area) d.elements)) + 1 ≤ 65
      one_less = rw h at entries_below_lem

      pub whole_few : n ≤ 65536
      whole_few = omega (arith, many, one_less)

      pub whole_room : 5 * n + 5 ≤ length table₁
      whole_room = omega (arith, many, one_less, g.room, l.long)

      pub whole_more : n + 1 < 2 ^ 64
      whole_more = omega (arith, many, one_less)

      pub domain_whole : (table₂ : List ℕ) → table₂ ≡ row_put table₁ n (named (0 ⋯ 0) false (span_of d.scope) Word) → Names (files ++ area) (domain_of (files ++ area) d).elements table table₂ (n + 1)
      unfolding domain_of
      domain_whole table₂ e =
          let x = named (0 ⋯ 0) false (span_of d.scope) Word in
          let z : name_of (files ++ area) x ≡ string (files ++ area) d.scope = alone_is (files ++ area) (span_of d.scope) Word in
          let m = list_below (files ++ area) d.scope d.elements in
          let k : length (m ++ (string (files ++ area) d.scope ∷ [])) ≡ n + 1 = length-append m (string (files ++ area) d.scope ∷ []) ∙ omega (arith, many, length-map (list (string (files ++ area) d.elements)) (scoped (string (files ++ area) d.scope))) in
          rw h (record {
            are = rw e (put_names (files ++ area) table₁ n x whole_room ∙ rw (names_are, z));
            count = sym k;
            long = rw e (simp length-set l.long);
          })

pub ruleset domains = (rules, domain_rooms, domain_plain, whole_few, whole_room, whole_more, domain_whole)

-- ---- entries that are gathered: what is left behind what is there is the answer

pub record Gathers (mem : Bytes) (all : List Bytes) (table₀ table : List ℕ) (n : ℕ) (left : List Bytes) : Type 0 where
  pub are : table_names mem table n ++ left ≡ all
  pub count : n + length left ≡ length all
  pub long : length table ≡ length table₀

gathers_start : (mem : Bytes) (all : List Bytes) (table : List ℕ) → Gathers mem all table table 0 all
gathers_start mem all table = record { are = rw (names_none mem table 0); count = omega arith; long = refl }

module _ (mem : Bytes) (all : List Bytes) (table₀ table : List ℕ) (n : ℕ) where
  gathers_step : (xs left : List Bytes) (table' : List ℕ) (r : ℕ) → Gathers mem all table₀ table n (xs ++ left) → Listed mem table n xs table' r → Gathers mem all table₀ table' r left
  gathers_step xs left table' r inv l =
      record {
        are = rw (l.are, append_assoc (table_names mem table n) xs left) inv.are;
        count = omega (arith, inv.count, l.count, length-append xs left);
        long = l.long ∙ inv.long;
      }

  gathers_done : Gathers mem all table₀ table n [] → Names mem all table₀ table n
  gathers_done inv = record { are = sym (append-nil (table_names mem table n)) ∙ inv.are; count = omega (arith, inv.count); long = inv.long }

flat_none : {A B : Type 0} (f : A → List B) → flat_map f [] ≡ []
unfolding flat_map
flat_none f = refl

those_first : {A : Type 0} (p : A → Bool) (x : A) (l : List A) (b : Bool) → p x ≡ b → those p (x ∷ l) ≡ cond b (x ∷ those p l) (those p l)
unfolding those
those_first p x l b e = rw e

those_none : {A : Type 0} (p : A → Bool) → those p [] ≡ []
unfolding those
those_none p = refl

abbrev left_of : Few Retention → ℕ → List Retention
left_of t i = drop i (take t.n t.all)

pub record All (mem : Bytes) (t : Few Retention) (table₀ table : List ℕ) (n i : ℕ) : Type 0 where
  pub gathers : Gathers mem (all_entries mem t) table₀ table n (flat_map (entries_of mem) (left_of t i))

pub record Own (mem : Bytes) (t : Few Retention) (domain : Stored) (table₀ table : List ℕ) (n i : ℕ) : Type 0 where
  pub gathers : Gathers mem (own_entries mem t domain) table₀ table n (flat_map (entries_of mem) (those (is_of mem domain) (left_of t i)))

pub all_start : (mem : Bytes) (t : Few Retention) (table : List ℕ) → All mem t table table 0 0
all_start mem t table = record { gathers = gathers_start mem (all_entries mem t) table }

pub own_start : (mem : Bytes) (t : Few Retention) (domain : Stored) (table : List ℕ) → Own mem t domain table table 0 0
own_start mem t domain table = record { gathers = gathers_start mem (own_entries mem t domain) table }

module _ (files area : Bytes) (t : Few Retention) (table₀ : List ℕ) (g : OfRetentions files area t table₀) where
  abbrev mem : Bytes
  mem = files ++ area

  abbrev of : Retention → ℕ
  of = of_retention (reach_of (length files))

  pub few_retentions : t.n ≤ 32
  few_retentions = holds_few of (length mem) t.n t.all g.holds

  module _ (i : ℕ) (h : i < t.n) where
    pub retention_index : i < length t.all
    retention_index = omega (arith, holds_long of (length mem) t.n t.all g.holds)

    module _ (d : Retention) where
      abbrev x : Retention
      x = get_or t.all i d

      next_left : left_of t i ≡ x ∷ left_of t (i + 1)
      next_left = holds_next of (length mem) t.n t.all g.holds i d h

      reaches : of x ≤ length mem
      reaches = holds_at of (length mem) t.n t.all g.holds i d h

      entries_long : length (entries_of mem x) ≡ length (list (string mem x.elements))
      entries_long = length-map (list (string mem x.elements)) (scoped (string mem x.scope))

      rooms_for : (table : List ℕ) (n : ℕ) → n + length (entries_of mem x) ≤ 1024 → length table ≡ length table₀ → Rooms files area (span_of x.scope) (span_of x.elements) table n
      rooms_for table n few long =
          record {
            held = held_by (length files) (length mem) (span_of x.elements) g.small (omega (arith, reaches));
            scope_small = omega (arith, reach_end (length files) (span_of x.scope), reaches, g.small);
            small = omega (arith, reach_end (length files) (span_of x.elements), reaches, g.small);
            rows = omega (arith, few, entries_long);
            room = omega (arith, few, entries_long, long, g.room);
          }

      module _ (table : List ℕ) (n : ℕ) (inv : All mem t table₀ table n i) where
        all_now : Gathers mem (all_entries mem t) table₀ table n (entries_of mem x ++ flat_map (entries_of mem) (left_of t (i + 1)))
        all_now = rw (next_left, flat_first (entries_of mem) x (left_of t (i + 1))) at inv.gathers

        pub all_rooms : Rooms files area (span_of x.scope) (span_of x.elements) table n
        all_rooms = rooms_for table n (omega (arith, all_now.count, g.few, length-append (entries_of mem x) (flat_map (entries_of mem) (left_of t (i + 1))))) inv.gathers.long

        pub all_step : (table' : List ℕ) (r : ℕ) → Listed mem table n (list_below mem x.scope x.elements) table' r → All mem t table₀ table' r (i + 1)
        all_step table' r l = record { gathers = gathers_step mem (all_entries mem t) table₀ table n (entries_of mem x) (flat_map (entries_of mem) (left_of t (i + 1))) table' r all_now l }

      module _ (domain : Stored) (table : List ℕ) (n : ℕ) (inv : Own mem t domain table₀ table n i) (b : Bool) (eb : b ≡ same (string mem x.domain) (string mem domain)) where
        own_left : those (is_of mem domain) (left_of t i) ≡ cond b (x ∷ those (is_of mem domain) (left_of t (i + 1))) (those (is_of mem domain) (left_of t (i + 1)))
        own_left = rw next_left (those_first (is_of mem domain) x (left_of t (i + 1)) b (sym eb))

        pub own_other : b ≡ false → Own mem t domain table₀ table n (i + 1)
        own_other k = record { gathers = rw (own_left, k) at inv.gathers }

        module _ (k : b ≡ true) where
          own_now : Gathers mem (own_entries mem t domain) table₀ table n (entries_of mem x ++ flat_map (entries_of mem) (those (is_of mem domain) (left_of t (i + 1))))
          own_now = rw (own_left, k, flat_first (entries_of mem) x (those (is_of mem domain) (left_of t (i + 1)))) at inv.gathers

          pub own_rooms : Rooms files area (span_of x.scope) (span_of x.elements) table n
          own_rooms = rooms_for table n (omega (arith, own_now.count, g.few, length-append (entries_of mem x) (flat_map (entries_of mem) (those (is_of mem domain) (left_of t (i + 1)))), those_flat (is_of mem domain) (entries_of mem) (take t.n t.all))) inv.gathers.long

          pub own_step : (table' : List ℕ) (r : ℕ) → Listed mem table n (list_below mem x.scope x.elements) table' r → Own mem t domain table₀ table' r (i + 1)
          own_step table' r l = record { gathers = gathers_step mem (own_entries mem t domain) table₀ table n (entries_of mem x) (flat_map (entries_of mem) (those (is_of mem domain) (left_of t (i + 1)))) table' r own_now l }

  module _ (table : List ℕ) (n i : ℕ) (h : t.n ≤ i) where
    none_left : left_of t i ≡ []
    none_left = holds_end of (length mem) t.n t.all g.holds i h

    pub all_done : All mem t table₀ table n i → Names mem (all_entries mem t) table₀ table n
    all_done inv = gathers_done mem (all_entries mem t) table₀ table n (rw (none_left, flat_none (entries_of mem)) at inv.gathers)

    pub own_done : (domain : Stored) → Own mem t domain table₀ table n i → Names mem (own_entries mem t domain) table₀ table n
    own_done domain inv = gathers_done mem (own_entries mem t domain) table₀ table n (rw (none_left, those_none (is_of mem domain), flat_none (entries_of mem)) at inv.gathers)

pub ruleset alls = (rules, few_retentions, retention_index, all_rooms, all_step, all_done)

pub ruleset owns = (rules, few_retentions, retention_index, own_rooms, own_step, own_other, own_done, strings_same)
