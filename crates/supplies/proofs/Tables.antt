-- A table of nets that grows by what is new: laws as the needs ask them. Assumes nothing.
use Rattle.store.specs.declared.state.Few.{Few}
use Rattle.std.specs.Prelude.{Option, Some, None}
use Prim.Native.Nat.{ℕ, suc, ◌+◌, ◌-◌, ◌*◌, ◌≤◌, ◌<◌, ◌^◌, max}
use native.Mathlib.Omega.{arith}
use mathlib.Core.Path.{◌≡◌, refl, sym, ap, ◌∙◌}
use mathlib.Core.Bool.{Bool, true, false, cond, ◌||◌}
use mathlib.Core.List.{List, [], ◌∷◌, ◌++◌, map, flat_map, append_assoc, append-nil}
use lib.ListN.{length, take, drop, get_or, length-set}
use Rattle.text.specs.Ascii.{Bytes}
use Rattle.text.specs.Compare.{same}
use Rattle.text.specs.Scan.{any}
use Rattle.spans.specs.Span.{bytes}
use Rattle.spans.specs.Reach.{reach_end}
use Rattle.spans.specs.declared.span.Span.{Span}
use Rattle.tcl.specs.Lists.{list}
use Rattle.names.specs.Name.{name_of, step_of}
use Rattle.names.specs.declared.name.Name.{Name}
use Rattle.nametable.specs.Table.{row_name, row_put, names_from, table_names, Stores, put_names, names_next, names_none}
use Rattle.listnames.specs.Lists.{nth_below, Whole, Known, whole_by}
use Rattle.design.specs.Lists.{those, is_in, add_new, add_all}
use Rattle.design.specs.Laws.{add_all_append}
use Rattle.texts.specs.Supplies.{net_of, supply_nets}
use Rattle.store.specs.Strings.{span_of, below_of}
use Rattle.store.specs.View.{connections_of, model_of}
use Rattle.store.specs.Order.{end_of, of_below, of_port, of_switch}
use Rattle.store.specs.Rows.{rows_in, store_of}
use Rattle.store.specs.declared.stored.Below.{Below}
use Rattle.store.specs.declared.row.Row.{Row}
use Rattle.store.specs.declared.state.Port.{Port}
use Rattle.store.specs.declared.state.Switch.{Switch}
use Rattle.store.specs.declared.state.State.{State}
use Rattle.made.specs.Made.{reach_of}
use Rattle.setting.specs.Orders.{Orders, holds_few, holds_long, holds_at, holds_next, holds_end, nets_hold, ports_hold, switches_hold}
use Rattle.supplies.specs.Nets.{port_net, supply_net, both_nets, has_name, ports_nets, switches_nets, Rowed, Adds, Creates, OfPort, OfPorts, OfSupply, OfSwitch, OfSwitches, Names}
use Rattle.supplies.specs.Seen.{nets_model}

-- ---- whether a name is listed

pub record Looks (mem : Bytes) (table : List ℕ) (n : ℕ) (x : Bytes) (w : Bool) (k : ℕ) : Type 0 where
  pub keeps : is_in x (names_from mem table k (n - k)) ≡ w

pub looks_start : (mem : Bytes) (table : List ℕ) (n : ℕ) (x : Bytes) → Looks mem table n x (is_in x (table_names mem table n)) 0
looks_start mem table n x = let e : n - 0 ≡ n = omega arith in record { keeps = rw e }

module _ (mem : Bytes) (table : List ℕ) (n : ℕ) (x : Bytes) (w : Bool) (k : ℕ) (inv : Looks mem table n x w k) where
  module _ (h : k < n) (y : Name) (ey : y ≡ row_name table k) (t : Bool) (et : t ≡ same x (name_of mem y)) where
    look_one : t || is_in x (names_from mem table (k + 1) (n - (k + 1))) ≡ w
    unfolding any
    look_one = let z : n - k ≡ suc (n - (k + 1)) = omega arith in rw (et, ey) (rw (z, names_next mem table k (n - (k + 1))) at inv.keeps)

    pub look_yes : t ≡ true → true ≡ w
    look_yes g = rw g at look_one

    pub look_no : t ≡ false → Looks mem table n x w (k + 1)
    look_no g = record { keeps = rw g at look_one }

  pub look_none : n ≤ k → false ≡ w
  unfolding any
  look_none h = let z : n - k ≡ 0 = omega arith in rw (z, names_none mem table k) at inv.keeps

-- ---- one name more

one_name : (l : List Bytes) (y : Bytes) (b : ℕ) (z : Bytes) → y ≡ b ∷ z → add_new l y ≡ add_all l (those has_name (y ∷ []))
unfolding those same add_all
one_name l y b z q = rw q

module _ (mem : Bytes) (table : List ℕ) (n : ℕ) (x : Name) (a : Adds mem table n x) where
  pub adds_few : n ≤ 65536
  adds_few = omega (arith, a.few)

  pub adds_room : 5 * n + 5 ≤ length table
  adds_room = a.room

  pub adds_more : n + 1 < 2 ^ 64
  adds_more = omega (arith, a.few)

  pub adds_stores : Stores x
  adds_stores = record { scope_at = omega (arith, a.ends, a.small); scope_len = omega (arith, a.ends, a.small); word_at = omega (arith, a.ends, a.small); word_len = omega (arith, a.ends, a.small) }

  module _ (t : Bool) (et : t ≡ is_in (name_of mem x) (table_names mem table n)) where
    pub added_old : t ≡ true → Names mem (add_new (table_names mem table n) (name_of mem x)) (n + 1) table table n
    unfolding add_new
    added_old g = record { are = sym (rw (← et, g)); count = omega arith; long = refl }

    pub added_new : (table' : List ℕ) → table' ≡ row_put table n x → t ≡ false → Names mem (add_new (table_names mem table n) (name_of mem x)) (n + 1) table table' (n + 1)
    unfolding add_new
    added_new table' e g = record { are = let z : add_new (table_names mem table n) (name_of mem x) ≡ table_names mem table n ++ (name_of mem x ∷ []) = rw (← et, g) in rw e (put_names mem table n x a.room ∙ sym z); count = omega arith; long = rw e (simp length-set) }

  module _ (p : Option (ℕ × Name)) (e : name_of mem x ≡ step_of mem p) where
    pub named_none : p ≡ None → Names mem (add_all (table_names mem table n) (those has_name (name_of mem x ∷ []))) (n + 1) table table n
    unfolding those same add_all
    named_none h = record { are = sym (rw (e, h)); count = omega arith; long = refl }

    pub named_some : (b : ℕ) (u : Name) (table' : List ℕ) (r : ℕ) → Names mem (add_new (table_names mem table n) (name_of mem x)) (n + 1) table table' r → p ≡ Some (b, u) → Names mem (add_all (table_names mem table n) (those has_name (name_of mem x ∷ []))) (n + 1) table table' r
    named_some b u table' r g h = record { are = g.are ∙ one_name (table_names mem table n) (name_of mem x) b (name_of mem u) (e ∙ rw h); count = g.count; long = g.long }

-- ---- a stored name ends where it reaches

below_ends : (long bound : ℕ) (b : Below) → of_below (reach_of long) b ≤ bound → of_below end_of b ≤ bound
below_ends long bound b h = omega (arith, reach_end long (span_of b.scope), reach_end long (span_of b.word))

-- ---- the created nets

pub record Created (mem : Bytes) (t : Few Below) (table₀ table : List ℕ) (i : ℕ) : Type 0 where
  pub are : table_names mem table i ++ map (below_of mem) (drop i (take t.n t.all)) ≡ map (below_of mem) (take t.n t.all)
  pub long : length table ≡ length table₀

pub created_start : (mem : Bytes) (t : Few Below) (table : List ℕ) → Created mem t table table 0
created_start mem t table = record { are = rw (names_none mem table 0); long = refl }

module _ (files area : Bytes) (t : Few Below) (table₀ : List ℕ) (c : Creates files area t table₀) where
  created_few : t.n ≤ 32
  created_few = holds_few (of_below (reach_of (length files))) (length (files ++ area)) t.n t.all c.nets

  created_long : t.n ≤ length t.all
  created_long = holds_long (of_below (reach_of (length files))) (length (files ++ area)) t.n t.all c.nets

  module _ (table : List ℕ) (i : ℕ) (inv : Created (files ++ area) t table₀ table i) where
    module _ (h : i < t.n) where
      pub created_index : i < length t.all
      created_index = omega (arith, created_long)

      pub created_row : i ≤ 65536
      created_row = omega (arith, created_few)

      pub created_room : 5 * i + 5 ≤ length table
      created_room = omega (arith, created_few, c.room, inv.long)

      module _ (d : Below) (x : Name) (k : Known (files ++ area) (below_of (files ++ area) (get_or t.all i d)) (of_below end_of (get_or t.all i d)) x) where
        pub created_stores : Stores x
        created_stores =
            let z : of_below end_of (get_or t.all i d) ≤ length (files ++ area) = below_ends (length files) (length (files ++ area)) (get_or t.all i d) (holds_at (of_below (reach_of (length files))) (length (files ++ area)) t.n t.all c.nets i d h) in
            record { scope_at = omega (arith, k.ends, z, c.small); scope_len = omega (arith, k.ends, z, c.small); word_at = omega (arith, k.ends, z, c.small); word_len = omega (arith, k.ends, z, c.small) }

        pub created_step : (table' : List ℕ) → table' ≡ row_put table i x → Created (files ++ area) t table₀ table' (i + 1)
        created_step table' e =
            record {
              are = rw (e, put_names (files ++ area) table i x created_room, k.is, append_assoc) (rw (holds_next (of_below (reach_of (length files))) (length (files ++ area)) t.n t.all c.nets i d h) at inv.are);
              long = rw e (simp length-set inv.long);
            }

    pub created_done : t.n ≤ i → i ≤ t.n → Names (files ++ area) (map (below_of (files ++ area)) (take t.n t.all)) 32 table₀ table t.n
    created_done h g =
        let z : i ≡ t.n = omega arith in
        record {
          are = ap (table_names (files ++ area) table) (sym z) ∙ sym (append-nil (table_names (files ++ area) table i)) ∙ (rw (holds_end (of_below (reach_of (length files))) (length (files ++ area)) t.n t.all c.nets i h) at inv.are);
          count = created_few;
          long = inv.long;
        }

-- ---- nets that are added one after the other: what is left behind what is there is the answer

pub record Grows (mem : Bytes) (table₀ : List ℕ) (n : ℕ) (all left : List Bytes) (m : ℕ) (table : List ℕ) (k : ℕ) : Type 0 where
  pub keeps : add_all (table_names mem table k) left ≡ add_all (table_names mem table₀ n) all
  pub count : k ≤ n + m
  pub long : length table ≡ length table₀

grows_start : (mem : Bytes) (table : List ℕ) (n : ℕ) (all : List Bytes) → Grows mem table n all all 0 table n
grows_start mem table n all = record { keeps = refl; count = omega arith; long = refl }

all_new : (l : List Bytes) (x : Bytes) (left : List Bytes) → add_all l (x ∷ left) ≡ add_all (add_new l x) left
unfolding add_all
all_new l x left = refl

all_none : (l : List Bytes) → add_all l [] ≡ l
unfolding add_all
all_none l = refl

module _ (mem : Bytes) (table₀ : List ℕ) (n : ℕ) (all : List Bytes) (m : ℕ) (table : List ℕ) (k : ℕ) where
  grows_one : (x : Bytes) (left : List Bytes) (table' : List ℕ) (r : ℕ) → Grows mem table₀ n all (x ∷ left) m table k → Names mem (add_new (table_names mem table k) x) (k + 1) table table' r → Grows mem table₀ n all left (m + 1) table' r
  grows_one x left table' r inv a =
      record { keeps = rw a.are (sym (all_new (table_names mem table k) x left) ∙ inv.keeps); count = omega (arith, inv.count, a.count); long = a.long ∙ inv.long }

  grows_done : (bound : ℕ) → Grows mem table₀ n all [] m table k → m ≤ bound → Names mem (add_all (table_names mem table₀ n) all) (n + bound) table₀ table k
  grows_done bound inv h = record { are = sym (all_none (table_names mem table k)) ∙ inv.keeps; count = omega (arith, inv.count); long = inv.long }

module _ (mem : Bytes) (table₀ : List ℕ) (n : ℕ) (all : List Bytes) (m m' more : ℕ) (table : List ℕ) (k : ℕ) where
  grows_some : (xs left : List Bytes) (table' : List ℕ) (r : ℕ) → Grows mem table₀ n all (xs ++ left) m table k → Names mem (add_all (table_names mem table k) xs) (k + more) table table' r → m + more ≤ m' → Grows mem table₀ n all left m' table' r
  grows_some xs left table' r inv a h =
      record { keeps = rw a.are (sym (add_all_append (table_names mem table k) xs left) ∙ inv.keeps); count = omega (arith, inv.count, a.count); long = a.long ∙ inv.long }

-- ---- of ports

module _ (files area : Bytes) (nums : List ℕ) (m : ℕ) (p : Port) (table : List ℕ) (k : ℕ) (c : OfPort files area nums m p table k) where
  module _ (x : Name) (kx : Known (files ++ area) (below_of (files ++ area) p.name) (of_below end_of p.name) x) where
    pub port_rowed : Rowed files area nums m x
    port_rowed =
        let z : of_below end_of p.name ≤ length (files ++ area) = below_ends (length files) (length (files ++ area)) p.name (omega (arith, c.port)) in
        record { small = c.small; few = c.few; strings = c.strings; ends = omega (arith, kx.ends, z) }

    module _ (y : Name) (ky : Known (files ++ area) (net_of (flat_map (connections_of (files ++ area)) (rows_in nums m)) (name_of (files ++ area) x) (name_of (files ++ area) x)) (length (files ++ area)) y) where
      pub port_adds : Adds (files ++ area) table k y
      port_adds = record { small = c.small; ends = ky.ends; few = c.count; room = c.room }

      pub port_added : (table' : List ℕ) (r : ℕ) → Names (files ++ area) (add_new (table_names (files ++ area) table k) (name_of (files ++ area) y)) (k + 1) table table' r → Names (files ++ area) (add_new (table_names (files ++ area) table k) (port_net (files ++ area) (flat_map (connections_of (files ++ area)) (rows_in nums m)) p)) (k + 1) table table' r
      port_added table' r a = let e : name_of (files ++ area) y ≡ port_net (files ++ area) (flat_map (connections_of (files ++ area)) (rows_in nums m)) p = ky.is ∙ rw kx.is in rw e at a

pub record Ported (mem : Bytes) (rows : List Row) (t : Few Port) (table₀ : List ℕ) (n : ℕ) (table : List ℕ) (k i : ℕ) : Type 0 where
  pub grows : Grows mem table₀ n (ports_nets mem rows t) (map (port_net mem (flat_map (connections_of mem) rows)) (drop i (take t.n t.all))) i table k

pub ported_start : (mem : Bytes) (rows : List Row) (t : Few Port) (table : List ℕ) (n : ℕ) → Ported mem rows t table n table n 0
ported_start mem rows t table n = record { grows = grows_start mem table n (ports_nets mem rows t) }

module _ (files area : Bytes) (nums : List ℕ) (m : ℕ) (t : Few Port) (table₀ : List ℕ) (n : ℕ) (c : OfPorts files area nums m t table₀ n) where
  ports_few : t.n ≤ 32
  ports_few = holds_few (of_port (reach_of (length files))) (length (files ++ area)) t.n t.all c.ports

  module _ (table : List ℕ) (k i : ℕ) (inv : Ported (files ++ area) (rows_in nums m) t table₀ n table k i) where
    pub ported_long : length table ≡ length table₀
    ported_long = inv.grows.long

    module _ (h : i < t.n) (d : Port) where
      pub ported_one : OfPort files area nums m (get_or t.all i d) table k
      ported_one =
          record {
            small = c.small;
            few = c.few;
            strings = c.strings;
            port = holds_at (of_port (reach_of (length files))) (length (files ++ area)) t.n t.all c.ports i d h;
            count = omega (arith, inv.grows.count, c.rows, ports_few);
            room = omega (arith, inv.grows.count, inv.grows.long, c.rows, c.room, ports_few);
          }

      pub ported_step : (table' : List ℕ) (r : ℕ) → Names (files ++ area) (add_new (table_names (files ++ area) table k) (port_net (files ++ area) (flat_map (connections_of (files ++ area)) (rows_in nums m)) (get_or t.all i d))) (k + 1) table table' r → Ported (files ++ area) (rows_in nums m) t table₀ n table' r (i + 1)
      ported_step table' r a =
          let mem = files ++ area in
          let f = port_net mem (flat_map (connections_of mem) (rows_in nums m)) in
          record { grows = grows_one mem table₀ n (ports_nets mem (rows_in nums m) t) i table k (f (get_or t.all i d)) (map f (drop (i + 1) (take t.n t.all))) table' r (rw (holds_next (of_port (reach_of (length files))) (length (files ++ area)) t.n t.all c.ports i d h) at inv.grows) a }

    pub ported_done : t.n ≤ i → i ≤ t.n → Names (files ++ area) (add_all (table_names (files ++ area) table₀ n) (ports_nets (files ++ area) (rows_in nums m) t)) (n + 32) table₀ table k
    ported_done h g =
        grows_done (files ++ area) table₀ n (ports_nets (files ++ area) (rows_in nums m) t) i table k 32 (rw (holds_end (of_port (reach_of (length files))) (length (files ++ area)) t.n t.all c.ports i h) at inv.grows) (omega (arith, ports_few))

-- ---- of switches

-- what is left, one name apart
those_first : (x : Bytes) (l : List Bytes) → those has_name (x ∷ l) ≡ those has_name (x ∷ []) ++ those has_name l
unfolding those
those_first x l = go (has_name x)
  where
    go : (b : Bool) → cond b (x ∷ those has_name l) (those has_name l) ≡ cond b (x ∷ []) [] ++ those has_name l
    go true = refl
    go false = refl

no_nets : (mem : Bytes) → those has_name (flat_map (both_nets mem) []) ≡ []
unfolding those flat_map
no_nets mem = refl

those_none : those has_name [] ≡ []
unfolding those
those_none = refl

both_first : (mem : Bytes) (x : Switch) (xs : List Switch) → flat_map (both_nets mem) (x ∷ xs) ≡ supply_net mem x.scope x.input ∷ supply_net mem x.scope x.output ∷ flat_map (both_nets mem) xs
unfolding flat_map
both_first mem x xs = refl

both_those : (mem : Bytes) (x : Switch) → those has_name (both_nets mem x) ≡ those has_name (supply_net mem x.scope x.input ∷ []) ++ those has_name (supply_net mem x.scope x.output ∷ [])
both_those mem x = those_first (supply_net mem x.scope x.input) (supply_net mem x.scope x.output ∷ [])

both_left : (mem : Bytes) (x : Switch) (xs : List Switch) → those has_name (flat_map (both_nets mem) (x ∷ xs)) ≡ those has_name (both_nets mem x) ++ those has_name (flat_map (both_nets mem) xs)
both_left mem x xs =
    let a = supply_net mem x.scope x.input in
    let b = supply_net mem x.scope x.output in
    let l = flat_map (both_nets mem) xs in
    ap (those has_name) (both_first mem x xs) ∙ those_first a (b ∷ l) ∙ ap (λ (z : List Bytes). those has_name (a ∷ []) ++ z) (those_first b l)
    ∙ sym (append_assoc (those has_name (a ∷ [])) (those has_name (b ∷ [])) (those has_name l)) ∙ ap (λ (z : List Bytes). z ++ those has_name l) (sym (both_those mem x))

module _ (files area : Bytes) (scope v : Span) (table : List ℕ) (k : ℕ) (c : OfSupply files area scope v table k) where
  pub supply_whole : Whole (length files) v
  supply_whole = whole_by (length files) (length (files ++ area)) v c.small c.value

  pub supply_adds : (j : ℕ) (x : Name) → Known (files ++ area) (nth_below (bytes (files ++ area) scope) j (list (bytes (files ++ area) v))) (max (scope.at + scope.len) (v.at + v.len)) x → Adds (files ++ area) table k x
  supply_adds j x kx = record { small = c.small; ends = omega (arith, kx.ends, c.scope_ends, c.value, reach_end (length files) v); few = c.count; room = c.room }

  pub supply_added : (x : Name) → Known (files ++ area) (nth_below (bytes (files ++ area) scope) 1 (list (bytes (files ++ area) v))) (max (scope.at + scope.len) (v.at + v.len)) x → (table' : List ℕ) (r : ℕ) → Names (files ++ area) (add_all (table_names (files ++ area) table k) (those has_name (name_of (files ++ area) x ∷ []))) (k + 1) table table' r → Names (files ++ area) (add_all (table_names (files ++ area) table k) (those has_name (nth_below (bytes (files ++ area) scope) 1 (list (bytes (files ++ area) v)) ∷ []))) (k + 1) table table' r
  supply_added x kx table' r a = rw kx.is at a

module _ (files area : Bytes) (w : Switch) (table : List ℕ) (k : ℕ) (c : OfSwitch files area w table k) (s u : Span) (es : s ≡ span_of w.scope) (eu : u ≡ span_of w.input) where
  scope_in : s.at + s.len ≤ length (files ++ area)
  scope_in = rw es (omega (arith, c.switch, reach_end (length files) (span_of w.scope)))

  pub input_supply : OfSupply files area s u table k
  input_supply = record { small = c.small; scope_ends = scope_in; value = rw eu (omega (arith, c.switch)); count = omega (arith, c.count); room = omega (arith, c.room) }

  module _ (table₁ : List ℕ) (a : ℕ) (na : Names (files ++ area) (add_all (table_names (files ++ area) table k) (those has_name (nth_below (bytes (files ++ area) s) 1 (list (bytes (files ++ area) u)) ∷ []))) (k + 1) table table₁ a) (v : Span) (ev : v ≡ span_of w.output) where
    pub output_supply : OfSupply files area s v table₁ a
    output_supply = record { small = c.small; scope_ends = scope_in; value = rw ev (omega (arith, c.switch)); count = omega (arith, c.count, na.count); room = omega (arith, c.room, na.count, na.long) }

    pub both_added : (table₂ : List ℕ) (r : ℕ) → Names (files ++ area) (add_all (table_names (files ++ area) table₁ a) (those has_name (nth_below (bytes (files ++ area) s) 1 (list (bytes (files ++ area) v)) ∷ []))) (a + 1) table₁ table₂ r → Names (files ++ area) (add_all (table_names (files ++ area) table k) (those has_name (both_nets (files ++ area) w))) (k + 2) table table₂ r
    both_added table₂ r nb =
        let mem = files ++ area in
        let x = those has_name (supply_net mem w.scope w.input ∷ []) in
        let y = those has_name (supply_net mem w.scope w.output ∷ []) in
        let p : table_names mem table₁ a ≡ add_all (table_names mem table k) x = rw (es, eu) at na.are in
        let q : table_names mem table₂ r ≡ add_all (table_names mem table₁ a) y = rw (es, ev) at nb.are in
        record {
          are = q ∙ ap (λ (l : List Bytes). add_all l y) p ∙ sym (add_all_append (table_names mem table k) x y) ∙ ap (add_all (table_names mem table k)) (sym (both_those mem w));
          count = omega (arith, na.count, nb.count);
          long = nb.long ∙ na.long;
        }

pub record Switched (mem : Bytes) (t : Few Switch) (table₀ : List ℕ) (n : ℕ) (table : List ℕ) (k i : ℕ) : Type 0 where
  pub grows : Grows mem table₀ n (switches_nets mem t) (those has_name (flat_map (both_nets mem) (drop i (take t.n t.all)))) (2 * i) table k

pub switched_start : (mem : Bytes) (t : Few Switch) (table : List ℕ) (n : ℕ) → Switched mem t table n table n 0
switched_start mem t table n = record { grows = grows_start mem table n (switches_nets mem t) }

module _ (files area : Bytes) (t : Few Switch) (table₀ : List ℕ) (n : ℕ) (c : OfSwitches files area t table₀ n) where
  switches_few : t.n ≤ 32
  switches_few = holds_few (of_switch (reach_of (length files))) (length (files ++ area)) t.n t.all c.switches

  module _ (table : List ℕ) (k i : ℕ) (inv : Switched (files ++ area) t table₀ n table k i) where
    pub switched_long : length table ≡ length table₀
    switched_long = inv.grows.long

    module _ (h : i < t.n) (d : Switch) where
      pub switched_one : OfSwitch files area (get_or t.all i d) table k
      switched_one =
          record {
            small = c.small;
            switch = holds_at (of_switch (reach_of (length files))) (length (files ++ area)) t.n t.all c.switches i d h;
            count = omega (arith, inv.grows.count, c.rows, switches_few);
            room = omega (arith, inv.grows.count, inv.grows.long, c.rows, c.room, switches_few);
          }

      pub switched_step : (table' : List ℕ) (r : ℕ) → Names (files ++ area) (add_all (table_names (files ++ area) table k) (those has_name (both_nets (files ++ area) (get_or t.all i d)))) (k + 2) table table' r → Switched (files ++ area) t table₀ n table' r (i + 1)
      switched_step table' r a =
          let mem = files ++ area in
          let left = drop (i + 1) (take t.n t.all) in
          let q : those has_name (flat_map (both_nets mem) (drop i (take t.n t.all))) ≡ those has_name (both_nets mem (get_or t.all i d)) ++ those has_name (flat_map (both_nets mem) left) =
          rw (holds_next (of_switch (reach_of (length files))) (length (files ++ area)) t.n t.all c.switches i d h) (both_left mem (get_or t.all i d) left) in
          record { grows = grows_some mem table₀ n (switches_nets mem t) (2 * i) (2 * (i + 1)) 2 table k (those has_name (both_nets mem (get_or t.all i d))) (those has_name (flat_map (both_nets mem) left)) table' r (rw q at inv.grows) a (omega arith) }

    pub switched_done : t.n ≤ i → i ≤ t.n → Names (files ++ area) (add_all (table_names (files ++ area) table₀ n) (switches_nets (files ++ area) t)) (n + 64) table₀ table k
    switched_done h g =
        let z : those has_name (flat_map (both_nets (files ++ area)) (drop i (take t.n t.all))) ≡ [] = rw (holds_end (of_switch (reach_of (length files))) (length (files ++ area)) t.n t.all c.switches i h) (no_nets (files ++ area)) in
        grows_done (files ++ area) table₀ n (switches_nets (files ++ area) t) (2 * i) table k 64 (rw z at inv.grows) (omega (arith, switches_few))

-- ---- all three

module _ (files area : Bytes) (nums : List ℕ) (s : State) (table : List ℕ) (o : Orders files area nums s) (room : 640 ≤ length table) where
  pub orders_nets : Creates files area s.nets table
  orders_nets = record { small = o.small; nets = nets_hold files area nums s o; room = room }

  module _ (table₁ : List ℕ) (a : ℕ) (na : Names (files ++ area) (map (below_of (files ++ area)) (take s.nets.n s.nets.all)) 32 table table₁ a) where
    pub orders_ports : OfPorts files area nums s.fill.rows s.ports table₁ a
    orders_ports = record { small = o.small; few = o.rows; strings = o.bounded.rows; ports = ports_hold files area nums s o; rows = na.count; room = omega (arith, room, na.long) }

    module _ (table₂ : List ℕ) (b : ℕ) (nb : Names (files ++ area) (add_all (table_names (files ++ area) table₁ a) (ports_nets (files ++ area) (rows_in nums s.fill.rows) s.ports)) (a + 32) table₁ table₂ b) where
      pub orders_switches : OfSwitches files area s.switches table₂ b
      orders_switches = record { small = o.small; switches = switches_hold files area nums s o; rows = omega (arith, na.count, nb.count); room = omega (arith, room, na.long, nb.long) }

      pub orders_all : (table₃ : List ℕ) (r : ℕ) → Names (files ++ area) (add_all (table_names (files ++ area) table₂ b) (switches_nets (files ++ area) s.switches)) (b + 64) table₂ table₃ r → Names (files ++ area) (supply_nets (model_of (files ++ area) (store_of nums s) s [])) 128 table table₃ r
      orders_all table₃ r nc =
          record {
            are = nc.are ∙ rw (nb.are, na.are) (sym (add_all_append (map (below_of (files ++ area)) (take s.nets.n s.nets.all)) (ports_nets (files ++ area) (rows_in nums s.fill.rows) s.ports) (switches_nets (files ++ area) s.switches))) ∙ nets_model (files ++ area) nums s [];
            count = omega (arith, na.count, nb.count, nc.count);
            long = nc.long ∙ nb.long ∙ na.long;
          }
