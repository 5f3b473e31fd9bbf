-- The net of a port, row by row: laws as the needs ask them. Assumes nothing.
use Rattle.std.specs.Prelude.{Option, Some, None}
use Prim.Native.Nat.{ℕ, zero, suc, ◌+◌, ◌-◌, ◌≤◌, ◌<◌, ◌^◌, max}
use native.Mathlib.Omega.{arith}
use native.Mathlib.Numerals.{add-one}
use native.Mathlib.Nat.{eq-or-lt_of_le}
use mathlib.Core.Logic.{◌⊎◌, ⊎_elim}
use mathlib.Core.Path.{◌≡◌, refl, sym, ap, ◌∙◌}
use mathlib.Core.Bool.{Bool, true, false, cond, ◌||◌}
use mathlib.Core.List.{List, [], ◌∷◌, ◌++◌, map, flat_map, append-nil}
use lib.ListN.{length, drop}
use borrow.Author.Tests.{eq-eqb, ne_eqb}
use Rattle.text.specs.Ascii.{Bytes}
use Rattle.text.specs.Compare.{same}
use Rattle.text.specs.Scan.{any}
use Rattle.spans.specs.Span.{◌⋯◌, bytes}
use Rattle.spans.specs.Reach.{Held, reach_end}
use Rattle.spans.specs.declared.span.Span.{Span}
use Rattle.tcl.specs.Lists.{list}
use Rattle.entries.specs.Entry.{entry_bytes, entries_left}
use Rattle.entries.specs.Together.{list_is}
use Rattle.entries.specs.View.{Finds}
use Rattle.entries.specs.Loops.{entries_none, entries_first}
use Rattle.entries.specs.declared.item.Item.{Item}
use Rattle.names.specs.Scoped.{scoped}
use Rattle.names.specs.Name.{name_of, name_end, Makes}
use Rattle.names.specs.declared.name.Form.TheVariants.{Word}
use Rattle.names.specs.declared.name.Name.{Name}
use Rattle.names.specs.declared.name.Form.{Form}
use Rattle.listnames.specs.Lists.{form_of, Whole, Known, whole_by}
use Rattle.listnames.specs.Inside.{inside_fits, inside_is}
use Rattle.model.specs.Records.{Connection}
use Rattle.texts.specs.Supplies.{net_of}
use Rattle.store.specs.Strings.{string, span_of, below_of}
use Rattle.store.specs.View.{connections_of}
use Rattle.store.specs.Order.{Within, none_left, one_more, end_of, of_below, of_row}
use Rattle.store.specs.Rows.{row_at, rows_in}
use Rattle.store.specs.Tables.{flat_append}
use Rattle.store.specs.declared.stored.Below.{Below}
use Rattle.store.specs.declared.row.Row.{Row}
use Rattle.made.specs.Made.{reach_of}
use Rattle.supplies.specs.Nets.{is_below, Reads, Connects, Rowed}

-- ---- a stored name

pub name_known : (mem : Bytes) (b : Below) (s w : Span) (r : Name) → Makes mem s w Word r → s ≡ span_of b.scope → w ≡ span_of b.word → Known mem (below_of mem b) (of_below end_of b) r
name_known mem b s w r m es ew = record { is = m.is ∙ rw (es, ew); ends = let h : name_end r ≤ max (s.at + s.len) (w.at + w.len) = m.ends in rw (es, ew) at h }

-- ---- whether a name is an entry below a scope

pub record Tests (mem : Bytes) (scope : Span) (p : Name) (text : Bytes) (w : Bool) (at : ℕ) (first : Bool) : Type 0 where
  pub keeps : any (is_below mem scope p) (entries_left first (drop at text)) ≡ w

pub tests_start : (mem : Bytes) (scope : Span) (p : Name) (text : Bytes) → Tests mem scope p text (any (is_below mem scope p) (list text)) 0 true
tests_start mem scope p text = record { keeps = rw (list_is text) }

any_none : {A : Type 0} (t : A → Bool) → any t [] ≡ false
unfolding any
any_none t = refl

any_cons : {A : Type 0} (t : A → Bool) (x : A) (xs : List A) → any t (x ∷ xs) ≡ t x || any t xs
unfolding any
any_cons t x xs = refl

module _ (mem : Bytes) (scope : Span) (p : Name) (text : Bytes) (w : Bool) (at : ℕ) (first : Bool) (inv : Tests mem scope p text w at first) (r : Option Item) (f : Finds text (entries_left first (drop at text)) r) where
  pub tests_none : r ≡ None → false ≡ w
  tests_none h = sym (any_none (is_below mem scope p)) ∙ (rw (entries_none text (entries_left first (drop at text)) r f h) at inv.keeps)

  module _ (v : Span) (reads : Reads mem v text) (i : Item) (h : r ≡ Some i) where
    pub tests_inside : v.at + i.entry.at < 2 ^ 64
    tests_inside = inside_fits mem v text reads.is (entries_left first (drop at text)) r f i.entry i.quoted i.next h reads.small

    module _ (u : Span) (eu : u ≡ (v.at + i.entry.at) ⋯ i.entry.len) (form : Form) (ef : form ≡ form_of i.quoted) (x : Name) (m : Makes mem scope u form x) (t : Bool) (et : t ≡ same (name_of mem x) (name_of mem p)) where
      left_is : any (is_below mem scope p) (entries_left first (drop at text)) ≡ t || any (is_below mem scope p) (entries_left false (drop i.next text))
      left_is =
          let y : Bytes = entry_bytes i.quoted (bytes text i.entry) in
          let k : name_of mem x ≡ scoped (bytes mem scope) y = m.is ∙ rw eu (ap (scoped (bytes mem scope)) (inside_is mem v text reads.is (entries_left first (drop at text)) r f i.entry i.quoted i.next h form ef)) in
          ap (any (is_below mem scope p)) (entries_first text (entries_left first (drop at text)) r f i.entry i.quoted i.next h)
          ∙ any_cons (is_below mem scope p) y (entries_left false (drop i.next text))
          ∙ ap (λ (b : Bool). b || any (is_below mem scope p) (entries_left false (drop i.next text))) (sym (et ∙ ap (λ (z : Bytes). same z (name_of mem p)) k))

      pub tests_yes : t ≡ true → true ≡ w
      tests_yes g = let z : true ≡ any (is_below mem scope p) (entries_left first (drop at text)) = sym (left_is ∙ rw g) in z ∙ inv.keeps

      pub tests_no : t ≡ false → Tests mem scope p text w i.next false
      tests_no g = record { keeps = let z : any (is_below mem scope p) (entries_left false (drop i.next text)) ≡ any (is_below mem scope p) (entries_left first (drop at text)) = sym (left_is ∙ rw g) in z ∙ inv.keeps }

module _ (files area : Bytes) (v : Span) (w : Whole (length files) v) (text : Bytes) (e : Held (length files) v → text ≡ bytes (files ++ area) v) where
  pub whole_reads : Reads (files ++ area) v text
  whole_reads = record { is = e w.held; small = w.small }

  pub tests_value : (scope : Span) (p : Name) (t : Bool) → t ≡ any (is_below (files ++ area) scope p) (list text) → t ≡ any (is_below (files ++ area) scope p) (list (bytes (files ++ area) v))
  tests_value scope p t h = rw (e w.held) at h

-- ---- a row

net_any : (scope port n net : Bytes) (es : List Bytes) → net_of (map (λ (p : Bytes). record { port = scoped scope p; net = n }) es) port net ≡ cond (any (λ (t : Bytes). same (scoped scope t) port) es) n net
unfolding net_of any
net_any scope port n net [] = refl
net_any scope port n net (e ∷ es) = go (same (scoped scope e) port) (any (λ (t : Bytes). same (scoped scope t) port) es) (net_any scope port n (cond (same (scoped scope e) port) n net) es)
  where
    go : (a b : Bool) → net_of (map (λ (p : Bytes). record { port = scoped scope p; net = n }) es) port (cond a n net) ≡ cond b n (cond a n net)
        → net_of (map (λ (p : Bytes). record { port = scoped scope p; net = n }) es) port (cond a n net) ≡ cond (a || b) n net
    go true true h = h
    go true false h = h
    go false b h = h

row_far : (long n : ℕ) (r : Row) → of_row (reach_of long) r ≤ n → reach_of long r.value ≤ n
row_far long n r h = omega arith

name_far : (long n : ℕ) (r : Row) → of_row (reach_of long) r ≤ n → reach_of long r.name ≤ n
name_far long n r h = omega arith

scope_far : (long n : ℕ) (r : Row) → r.kind ≡ 1 → of_row (reach_of long) r ≤ n → reach_of long r.scope ≤ n
scope_far long n r k h = let z : max (reach_of long r.scope) (max (reach_of long r.name) (reach_of long r.value)) ≤ n = rw k at h in omega arith

module _ (files area : Bytes) (r : Row) (net : Name) (c : Connects files area r net) where
  pub row_whole : (v : Span) → v ≡ span_of r.value → Whole (length files) v
  row_whole v e = whole_by (length files) (length (files ++ area)) v c.small (rw e (row_far (length files) (length (files ++ area)) r c.strings))

  module _ (p : Name) where
    pub row_other : (r.kind ≡ 1 → ⊥) → Known (files ++ area) (net_of (connections_of (files ++ area) r) (name_of (files ++ area) p) (name_of (files ++ area) net)) (length (files ++ area)) net
    unfolding connections_of net_of
    row_other k = record { is = rw (ne_eqb r.kind 1 k); ends = c.ends }

    module _ (s v : Span) (es : s ≡ span_of r.scope) (ev : v ≡ span_of r.value) (t : Bool) (et : t ≡ any (is_below (files ++ area) s p) (list (bytes (files ++ area) v))) (k : r.kind ≡ 1) where
      net_is_lem : net_of (connections_of (files ++ area) r) (name_of (files ++ area) p) (name_of (files ++ area) net) ≡ cond t (scoped (string (files ++ area) r.scope) (string (files ++ area) r.name)) (name_of (files ++ area) net)
      unfolding connections_of
      net_is_lem = rw (eq-eqb r.kind 1 k, et, es, ev) (net_any (string (files ++ area) r.scope) (name_of (files ++ area) p) (scoped (string (files ++ area) r.scope) (string (files ++ area) r.name)) (name_of (files ++ area) net) (list (string (files ++ area) r.value)))

      pub row_yes : (w : Span) (x : Name) → Makes (files ++ area) s w Word x → w ≡ span_of r.name → t ≡ true → Known (files ++ area) (net_of (connections_of (files ++ area) r) (name_of (files ++ area) p) (name_of (files ++ area) net)) (length (files ++ area)) x
      row_yes w x m ew g =
          let a : reach_of (length files) r.scope ≤ length (files ++ area) = scope_far (length files) (length (files ++ area)) r k c.strings in
          let b : reach_of (length files) r.name ≤ length (files ++ area) = name_far (length files) (length (files ++ area)) r c.strings in
          let z : name_end x ≤ max (s.at + s.len) (w.at + w.len) = m.ends in
          let y : name_end x ≤ max (r.scope.at + r.scope.len) (r.name.at + r.name.len) = rw (es, ew) at z in
          record {
            is = m.is ∙ rw (es, ew) (sym (net_is_lem ∙ rw g));
            ends = omega (arith, y, a, b, reach_end (length files) (span_of r.scope), reach_end (length files) (span_of r.name));
          }

      pub row_no : t ≡ false → Known (files ++ area) (net_of (connections_of (files ++ area) r) (name_of (files ++ area) p) (name_of (files ++ area) net)) (length (files ++ area)) net
      row_no g = record { is = sym (net_is_lem ∙ rw g); ends = c.ends }

-- ---- all rows

net_append : (cs ds : List Connection) (port net : Bytes) → net_of (cs ++ ds) port net ≡ net_of ds port (net_of cs port net)
unfolding net_of
net_append [] ds port net = refl
net_append (c ∷ cs) ds port net = net_append cs ds port (cond (same c.port port) c.net net)

one_flat : {A B : Type 0} (f : A → List B) (x : A) → flat_map f (x ∷ []) ≡ f x
unfolding flat_map
one_flat f x = append-nil (f x)

within_last : {A : Type 0} (e : A → ℕ) (n : ℕ) (xs : List A) (x : A) → Within e n (xs ++ (x ∷ [])) → Within e n xs × (e x ≤ n)
within_last e n [] x (one_more p b) = (none_left, p)
within_last e n (y ∷ xs) x (one_more p b) = let z = within_last e n xs x b in (one_more p z.0, z.1)

within_row : (e : Row → ℕ) (n : ℕ) (nums : List ℕ) (m k : ℕ) → Within e n (rows_in nums m) → k < m → e (row_at nums k) ≤ n
unfolding rows_in
within_row e n nums zero k b h = absurd (omega arith)
within_row e n nums (suc m) k b h = ⊎_elim (λ q. rw q (within_last e n (rows_in nums m) (row_at nums m) b).1) (λ q. within_row e n nums m k (within_last e n (rows_in nums m) (row_at nums m) b).0 q) (last m k h)
  where
    last : (m k : ℕ) → k < suc m → (k ≡ m) ⊎ (k < m)
    last m k h = eq-or-lt_of_le (omega arith)

rows_more : (mem : Bytes) (nums : List ℕ) (p : Name) (k : ℕ) → net_of (flat_map (connections_of mem) (rows_in nums (suc k))) (name_of mem p) (name_of mem p) ≡ net_of (connections_of mem (row_at nums k)) (name_of mem p) (net_of (flat_map (connections_of mem) (rows_in nums k)) (name_of mem p) (name_of mem p))
unfolding rows_in
rows_more mem nums p k =
    let l : flat_map (connections_of mem) (row_at nums k ∷ []) ≡ connections_of mem (row_at nums k) = one_flat (connections_of mem) (row_at nums k) in
    rw (flat_append (connections_of mem) (rows_in nums k) (row_at nums k ∷ []), l) (net_append (flat_map (connections_of mem) (rows_in nums k)) (connections_of mem (row_at nums k)) (name_of mem p) (name_of mem p))

pub record Nets (mem : Bytes) (nums : List ℕ) (p : Name) (net : Name) (k : ℕ) : Type 0 where
  pub known : Known mem (net_of (flat_map (connections_of mem) (rows_in nums k)) (name_of mem p) (name_of mem p)) (length mem) net

module _ (files area : Bytes) (nums : List ℕ) (rows : ℕ) (p : Name) (c : Rowed files area nums rows p) where
  pub nets_start : Nets (files ++ area) nums p p 0
  unfolding rows_in flat_map net_of
  nets_start = record { known = record { is = refl; ends = c.ends } }

  module _ (net : Name) (k : ℕ) (inv : Nets (files ++ area) nums p net k) (h : k < rows) where
    pub nets_few : k < 1024
    nets_few = omega (arith, c.few)

    pub nets_connects : (r : Row) → r ≡ row_at nums k → Connects files area r net
    nets_connects r e = record { small = c.small; strings = rw e (within_row (of_row (reach_of (length files))) (length (files ++ area)) nums rows k c.strings h); ends = inv.known.ends }

    pub nets_step : (r : Row) (x : Name) → r ≡ row_at nums k → Known (files ++ area) (net_of (connections_of (files ++ area) r) (name_of (files ++ area) p) (name_of (files ++ area) net)) (length (files ++ area)) x → Nets (files ++ area) nums p x (k + 1)
    nets_step r x e g = record { known = record { is = g.is ∙ rw (inv.known.is, e, add-one k) (sym (rows_more (files ++ area) nums p k)); ends = g.ends } }

  pub nets_done : (net : Name) (k : ℕ) → Nets (files ++ area) nums p net k → k ≤ rows → rows ≤ k → Known (files ++ area) (net_of (flat_map (connections_of (files ++ area)) (rows_in nums rows)) (name_of (files ++ area) p) (name_of (files ++ area) p)) (length (files ++ area)) net
  nets_done net k inv l h = let e : k ≡ rows = omega arith in rw e at inv.known
