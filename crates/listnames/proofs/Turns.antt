-- Loops over the entries of a value, and over the names of a table: laws as the needs ask them. Assumes nothing.
use Rattle.std.specs.Prelude.{Option, Some, None}
use Prim.Native.Nat.{ℕ, suc, ◌+◌, ◌-◌, ◌*◌, ◌≤◌, ◌<◌, ◌^◌}
use native.Mathlib.Omega.{arith}
use mathlib.Core.Path.{◌≡◌, refl, sym, ap, ◌∙◌}
use mathlib.Core.Bool.{Bool, true, false}
use mathlib.Core.List.{List, [], ◌∷◌, ◌++◌, map, append_assoc, append-nil}
use lib.ListN.{length, drop, length-set, length-map}
use Rattle.text.specs.Ascii.{Bytes}
use Rattle.out.specs.Emit.{Out, emit}
use Rattle.out.specs.Items.{joined, rest, unless, join_next, join_done}
use Rattle.spans.specs.Span.{◌⋯◌, bytes}
use Rattle.spans.specs.Reach.{Held}
use Rattle.spans.specs.declared.span.Span.{Span}
use Rattle.tcl.specs.Lists.{list}
use Rattle.entries.specs.Entry.{entry_bytes, entries_left}
use Rattle.entries.specs.Together.{list_is}
use Rattle.entries.specs.View.{Finds}
use Rattle.entries.specs.Loops.{entries_none, entries_first, entry_less, one_more}
use Rattle.entries.specs.declared.item.Item.{Item}
use Rattle.names.specs.Scoped.{scoped}
use Rattle.names.specs.Name.{named, name_of, entry_of, Makes}
use Rattle.names.specs.declared.name.Name.{Name}
use Rattle.names.specs.declared.name.Form.{Form}
use Rattle.names.specs.Frame.{alone_is}
use Rattle.nametable.specs.Table.{row_name, row_put, names_from, table_names, Stores, put_names, names_next, names_none}
use Rattle.listnames.specs.Lists.{Rooms, Reads, Listed}
use Rattle.listnames.specs.Inside.{inside_fits, inside_ends, inside_formed}

-- ---- from what is asked of a value

module _ (files area : Bytes) (scope v : Span) (table : List ℕ) (n : ℕ) (rooms : Rooms files area scope v table n) (text : Bytes) (e : Held (length files) v → text ≡ bytes (files ++ area) v) where
  pub rooms_reads : Reads (files ++ area) scope v text table n
  rooms_reads = record { is = e rooms.held; scope_small = rooms.scope_small; small = rooms.small; rows = rw (e rooms.held) rooms.rows; room = rw (e rooms.held) rooms.room }

  pub listed_value : (g : Bytes → Bytes) (table' : List ℕ) (r : ℕ) → Listed (files ++ area) table n (map g (list text)) table' r → Listed (files ++ area) table n (map g (list (bytes (files ++ area) v))) table' r
  listed_value g table' r l = rw (e rooms.held) at l

  pub listed_plain : (table' : List ℕ) (r : ℕ) → Listed (files ++ area) table n (list text) table' r → Listed (files ++ area) table n (list (bytes (files ++ area) v)) table' r
  listed_plain table' r l = rw (e rooms.held) at l

-- ---- the loop: what is listed and what is left is the answer

pub record Lists (g : Bytes → Bytes) (mem text : Bytes) (table₀ : List ℕ) (n : ℕ) (table : List ℕ) (k at : ℕ) (first : Bool) : Type 0 where
  pub names : table_names mem table k ++ map g (entries_left first (drop at text)) ≡ table_names mem table₀ n ++ map g (list text)
  pub count : k + length (entries_left first (drop at text)) ≡ n + length (list text)
  pub long : length table ≡ length table₀

pub lists_long : (g : Bytes → Bytes) (mem text : Bytes) (table₀ : List ℕ) (n : ℕ) (table : List ℕ) (k at : ℕ) (first : Bool) → Lists g mem text table₀ n table k at first → length table ≡ length table₀
lists_long g mem text table₀ n table k at first inv = inv.long

pub lists_start : (g : Bytes → Bytes) (mem text : Bytes) (table : List ℕ) (n : ℕ) → Lists g mem text table n table n 0 true
lists_start g mem text table n = record { names = rw (list_is text); count = rw (list_is text); long = refl }

module _ (g : Bytes → Bytes) (mem text : Bytes) (table₀ : List ℕ) (n : ℕ) (table : List ℕ) (k at : ℕ) (first : Bool) (inv : Lists g mem text table₀ n table k at first) (r : Option Item) (f : Finds text (entries_left first (drop at text)) r) where
  lists_end : r ≡ None → Listed mem table₀ n (map g (list text)) table k
  lists_end h =
      let z : entries_left first (drop at text) ≡ [] = entries_none text (entries_left first (drop at text)) r f h in
      record {
        are = sym (append-nil (table_names mem table k)) ∙ (rw z at inv.names);
        count = let c : k + 0 ≡ n + length (list text) = rw z at inv.count in omega (arith, length-map (list text) g);
        long = inv.long;
      }

  module _ (x : Item) (h : r ≡ Some x) where
    -- fewer are left behind it
    pub item_less : length (entries_left false (drop x.next text)) < length (entries_left first (drop at text))
    item_less = entry_less text at first r f x.entry x.quoted x.next h

    row_in : k + 1 ≤ n + length (list text)
    row_in = omega (arith, inv.count, one_more text at first r f x.entry x.quoted x.next h)

    lists_step : (y : Name) → 5 * k + 5 ≤ length table → name_of mem y ≡ g (entry_bytes x.quoted (bytes text x.entry)) → Lists g mem text table₀ n (row_put table k y) (k + 1) x.next false
    lists_step y room is =
        let t = entries_left false (drop x.next text) in
        let z : entries_left first (drop at text) ≡ entry_bytes x.quoted (bytes text x.entry) ∷ t = entries_first text (entries_left first (drop at text)) r f x.entry x.quoted x.next h in
        record {
          names =
              ap (λ (l : List Bytes). l ++ map g t) (put_names mem table k y room ∙ ap (λ (b : Bytes). table_names mem table k ++ (b ∷ [])) is)
              ∙ append_assoc (table_names mem table k) (g (entry_bytes x.quoted (bytes text x.entry)) ∷ []) (map g t)
              ∙ (rw z at inv.names);
          count = omega (arith, inv.count, one_more text at first r f x.entry x.quoted x.next h);
          long = simp length-set inv.long;
        }

    module _ (scope v : Span) (reads : Reads mem scope v text table₀ n) where
      pub inside_small : v.at + x.entry.at < 2 ^ 64
      inside_small = inside_fits mem v text reads.is (entries_left first (drop at text)) r f x.entry x.quoted x.next h reads.small

      pub row_few : k ≤ 65536
      row_few = omega (arith, row_in, reads.rows)

      pub row_more : k + 1 < 2 ^ 64
      row_more = omega (arith, row_in, reads.rows)

      pub row_room : 5 * k + 5 ≤ length table
      row_room = omega (arith, row_in, reads.room, inv.long)

      module _ (w : Span) (ew : w ≡ (v.at + x.entry.at) ⋯ x.entry.len) where
        w_small : w.at + w.len < 2 ^ 32
        w_small = rw ew (omega (arith, inside_ends mem v text reads.is (entries_left first (drop at text)) r f x.entry x.quoted x.next h, reads.small))

        pub stores_made : (form : Form) (y : Name) → Makes mem scope w form y → Stores y
        stores_made form y m =
            record {
              scope_at = omega (arith, m.ends, w_small, reads.scope_small);
              scope_len = omega (arith, m.ends, w_small, reads.scope_small);
              word_at = omega (arith, m.ends, w_small, reads.scope_small);
              word_len = omega (arith, m.ends, w_small, reads.scope_small);
            }

        pub stores_alone : (form : Form) (y : Name) → y ≡ named (0 ⋯ 0) false w form → Stores y
        stores_alone form y ex = rw ex (record { scope_at = omega arith; scope_len = omega arith; word_at = omega (arith, w_small); word_len = omega (arith, w_small) })

-- ---- the two loops

map_same : (l : List Bytes) → map (λ (b : Bytes). b) l ≡ l
map_same [] = refl
map_same (x ∷ l) = ap (λ (t : List Bytes). x ∷ t) (map_same l)

module _ (mem text : Bytes) (table₀ : List ℕ) (n : ℕ) (table : List ℕ) (k at : ℕ) (first : Bool) (scope v : Span) (reads : Reads mem scope v text table₀ n) (r : Option Item) (f : Finds text (entries_left first (drop at text)) r) where
  module _ (inv : Lists (scoped (bytes mem scope)) mem text table₀ n table k at first) where
    pub below_end : r ≡ None → Listed mem table₀ n (map (scoped (bytes mem scope)) (list text)) table k
    below_end h = lists_end (scoped (bytes mem scope)) mem text table₀ n table k at first inv r f h

    pub below_step : (x : Item) (w : Span) (form : Form) (y : Name) (table' : List ℕ) → r ≡ Some x → table' ≡ row_put table k y → Makes mem scope w form y → w ≡ (v.at + x.entry.at) ⋯ x.entry.len → entry_of form (bytes text x.entry) ≡ entry_bytes x.quoted (bytes text x.entry) → Lists (scoped (bytes mem scope)) mem text table₀ n table' (k + 1) x.next false
    below_step x w form y table' h et m ew ef =
        let room = row_room (scoped (bytes mem scope)) mem text table₀ n table k at first inv r f x h scope v reads in
        let is : name_of mem y ≡ scoped (bytes mem scope) (entry_bytes x.quoted (bytes text x.entry)) = m.is ∙ rw ew (ap (scoped (bytes mem scope)) (inside_formed mem v text reads.is (entries_left first (drop at text)) r f x.entry x.quoted x.next h form ef)) in
        rw et (lists_step (scoped (bytes mem scope)) mem text table₀ n table k at first inv r f x h y room is)

  module _ (inv : Lists (λ (b : Bytes). b) mem text table₀ n table k at first) where
    pub plain_end : r ≡ None → Listed mem table₀ n (list text) table k
    plain_end h = rw (map_same (list text)) at (lists_end (λ (b : Bytes). b) mem text table₀ n table k at first inv r f h)

    pub plain_step : (x : Item) (w : Span) (form : Form) (y : Name) (table' : List ℕ) → r ≡ Some x → table' ≡ row_put table k y → y ≡ named (0 ⋯ 0) false w form → w ≡ (v.at + x.entry.at) ⋯ x.entry.len → entry_of form (bytes text x.entry) ≡ entry_bytes x.quoted (bytes text x.entry) → Lists (λ (b : Bytes). b) mem text table₀ n table' (k + 1) x.next false
    plain_step x w form y table' h et ex ew ef =
        let room = row_room (λ (b : Bytes). b) mem text table₀ n table k at first inv r f x h scope v reads in
        let is : name_of mem y ≡ entry_bytes x.quoted (bytes text x.entry) = rw ex (alone_is mem w form ∙ rw ew (inside_formed mem v text reads.is (entries_left first (drop at text)) r f x.entry x.quoted x.next h form ef)) in
        rw et (lists_step (λ (b : Bytes). b) mem text table₀ n table k at first inv r f x h y room is)

-- ---- the names of a table, joined

pub record Joins (sep mem : Bytes) (table : List ℕ) (n : ℕ) (w o : Out) (k : ℕ) : Type 0 where
  pub keeps : emit o (rest sep k (names_from mem table k (n - k))) ≡ w

pub joins_start : (sep mem : Bytes) (table : List ℕ) (n : ℕ) (o : Out) → Joins sep mem table n (emit o (joined sep (table_names mem table n))) o 0
unfolding rest
joins_start sep mem table n o = let e : n - 0 ≡ n = omega arith in record { keeps = rw e }

module _ (sep mem : Bytes) (table : List ℕ) (n : ℕ) (w o : Out) (k : ℕ) (inv : Joins sep mem table n w o k) where
  pub joins_next : (x : Name) (o₁ o₂ : Out) → o₂ ≡ emit o₁ (name_of mem x) → o₁ ≡ emit o (unless k sep) → x ≡ row_name table k → k < n → Joins sep mem table n w o₂ (k + 1)
  joins_next x o₁ o₂ e₂ e₁ ex h =
      let z : n - k ≡ suc (n - (k + 1)) = omega arith in
      record { keeps = join_next o o₁ o₂ w sep k 0 (name_of mem x) (names_from mem table (k + 1) (n - (k + 1))) e₁ e₂ (rw (z, names_next mem table k (n - (k + 1)), ← ex) at inv.keeps) }

  pub joins_done : n ≤ k → o ≡ w
  joins_done h = let z : n - k ≡ 0 = omega arith in join_done o w sep k (rw (z, names_none mem table k) at inv.keeps)
