-- What is asked of stored switches: their strings lie within the memory, their words in the store, and their control ports are few. Assumes nothing.
use Rattle.store.specs.declared.state.Few.{Few}
use Rattle.std.specs.Prelude.{ℕ, zero, suc, ◌+◌, ◌*◌, ◌≤◌, ◌<◌, ◌^◌, ◌≡◌, ◌⊎◌, List, [], ◌∷◌, ◌++◌, map, length, take, get_or}
use Rattle.std.proofs.Common.{arith, eq-or-lt_of_le, ap, ◌∙◌, ⊎_elim, get_or-take, length-take-le}
use Rattle.text.specs.Ascii.{Bytes}
use Rattle.tcl.specs.Lists.{list}
use Rattle.spans.specs.Span.{◌⋯◌, bytes}
use Rattle.spans.specs.declared.span.Span.{Span}
use Rattle.nametable.specs.Table.{table_names, names_none}
use Rattle.listnames.specs.Lists.{Whole, Rooms, Listed, whole_by}
use Rattle.model.specs.Records.{Switch as Switchʳ}
use Rattle.model.specs.Commands.{controls_of}
use Rattle.store.specs.Strings.{string, span_of}
use Rattle.store.specs.View.{Store, switch_of, model_of}
use Rattle.store.specs.Order.{Within, none_left, one_more, of_switch, switch_words, Sized}
use Rattle.store.specs.Rows.{word_at, words_in, store_of}
use Rattle.store.specs.Tables.{within_get}
use Rattle.store.specs.declared.stored.Stored.{Stored}
use Rattle.store.specs.declared.state.Switch.{Switch}
use Rattle.store.specs.declared.state.State.{State}
use Rattle.made.specs.Made.{reach_of}
use Rattle.readfacts.specs.Few.{Few as IsFew}
use Rattle.setting.specs.Orders.{Orders, holds_at, holds_long, switches_hold}

-- n on-states from word k on; `count` rows of a table have control ports and signals
pub record Ons (files area nums : List ℕ) (k n count : ℕ) : Type 0 where
  pub small : length (files ++ area) < 2 ^ 32
  pub rows : count ≤ 65536
  pub fits : k + n ≤ 4032
  pub words : (j : ℕ) → j < k + n → reach_of (length files) (word_at nums j) ≤ length (files ++ area)

-- a switch without its states
pub record OfNames (files area : List ℕ) (w : Switch) : Type 0 where
  pub small : length (files ++ area) < 2 ^ 32
  pub strings : of_switch (reach_of (length files)) w ≤ length (files ++ area)
  pub few : length (list (string (files ++ area) w.controls)) ≤ 65

pub record OfSwitch (files area nums : List ℕ) (w : Switch) : Type 0 where
  pub names : OfNames files area w
  pub count : switch_words w ≤ 4032
  pub words : (j : ℕ) → j < switch_words w → reach_of (length files) (word_at nums j) ≤ length (files ++ area)

pub record OfSwitches (files area nums : List ℕ) (t : Few Switch) : Type 0 where
  pub sized : Sized 32 t.n t.all
  pub each : (i : ℕ) → i < t.n → (d : Switch) → OfSwitch files area nums (get_or t.all i d)

-- of all, without their states
pub record OfAll (files area : List ℕ) (t : Few Switch) : Type 0 where
  pub sized : Sized 32 t.n t.all
  pub each : (i : ℕ) → i < t.n → (d : Switch) → OfNames files area (get_or t.all i d)

-- the rows of a table are the control ports and signals of a switch
pub record Controlled (mem : Bytes) (w : Switch) (table : List ℕ) (count : ℕ) : Type 0 where
  pub are : table_names mem table count ≡ list (string mem w.controls)
  pub few : count ≤ 65

-- ---- a table of 65 rows has room for them
module _ (files area : List ℕ) (w : Switch) (a : OfNames files area w) where
  module _ (u : Span) (eu : u ≡ span_of w.controls) where
    controls_whole : Whole (length files) u
    controls_whole = whole_by (length files) (length (files ++ area)) u a.small (rw eu (omega (arith, a.strings)))

    pub names_rooms : (table : List ℕ) → length table ≡ 325 → Rooms files area (0 ⋯ 0) u table 0
    names_rooms table l =
        let k : length (list (bytes (files ++ area) u)) ≤ 65 = rw eu a.few in
        record { held = controls_whole.held; scope_small = omega arith; small = controls_whole.small; rows = omega (arith, k); room = omega (arith, k, l) }

    pub names_controlled : (table₀ table : List ℕ) (r : ℕ) → Listed (files ++ area) table₀ 0 (list (bytes (files ++ area) u)) table r → Controlled (files ++ area) w table r
    names_controlled table₀ table r l =
        let k : length (list (bytes (files ++ area) u)) ≤ 65 = rw eu a.few in
        record { are = l.are ∙ ap (λ (x : List Bytes). x ++ list (bytes (files ++ area) u)) (names_none (files ++ area) table₀ 0) ∙ ap (λ (v : Span). list (bytes (files ++ area) v)) eu; few = omega (arith, k, l.count) }

pub switch_names : (files area nums : List ℕ) (w : Switch) → OfSwitch files area nums w → OfNames files area w
switch_names files area nums w a = a.names

-- ---- a state in order has it

within_last : (e : Stored → ℕ) (n : ℕ) (xs : List Stored) (x : Stored) → Within e n (xs ++ (x ∷ [])) → Within e n xs × (e x ≤ n)
within_last e n [] x (one_more p b) = (none_left, p)
within_last e n (y ∷ xs) x (one_more p b) = let z = within_last e n xs x b in (one_more p z.0, z.1)

within_word : (e : Stored → ℕ) (n : ℕ) (nums : List ℕ) (m k : ℕ) → Within e n (words_in nums m) → k < m → e (word_at nums k) ≤ n
unfolding words_in
within_word e n nums zero k b h = absurd (omega arith)
within_word e n nums (suc m) k b h =
    ⊎_elim (λ q. rw q (within_last e n (words_in nums m) (word_at nums m) b).1) (λ q. within_word e n nums m k (within_last e n (words_in nums m) (word_at nums m) b).0 q) (last m k h)
  where
    last : (m k : ℕ) → k < suc m → (k ≡ m) ⊎ (k < m)
    last m k h = eq-or-lt_of_le (omega arith)

controls_all : (k : ℕ) (es : List Bytes) → length es ≤ k → length es ≤ 2 * length (controls_of es) + 1
controls_all k [] h = omega arith
controls_all k (p ∷ []) h = omega arith
controls_all zero (p ∷ s ∷ es) h = absurd (omega arith)
controls_all (suc zero) (p ∷ s ∷ es) h = absurd (omega arith)
controls_all (suc (suc k)) (p ∷ s ∷ es) h = let g : length es ≤ 2 * length (controls_of es) + 1 = controls_all k es (omega arith) in omega arith

few_at : (mem : Bytes) (ws : List Stored) (l : List Switch) (i : ℕ) (d : Switch) → Within (λ (w : Switchʳ). length w.controls) 32 (map (switch_of mem ws) l) → i < length l → length (list (string mem (get_or l i d).controls)) ≤ 65
unfolding switch_of
few_at mem ws [] i d b h = absurd (omega arith)
few_at mem ws (w ∷ l) zero d (one_more p b) h = omega (arith, p, controls_all (length (list (string mem w.controls))) (list (string mem w.controls)) (omega arith))
few_at mem ws (w ∷ l) (suc i) d (one_more p b) h = few_at mem ws l i d b (omega arith)

few_model : (mem : Bytes) (st : Store) (s : State) → IsFew 1024 (model_of mem st s []) → Within (λ (w : Switchʳ). length w.controls) 32 (map (switch_of mem st.words) (take s.switches.n s.switches.all))
unfolding model_of
few_model mem st s f = f.switches

module _ (files area nums : List ℕ) (s : State) (o : Orders files area nums s) where
  switches_long : s.switches.n ≤ length s.switches.all
  switches_long = holds_long (of_switch (reach_of (length files))) (length (files ++ area)) s.switches.n s.switches.all (switches_hold files area nums s o)

  module _ (i : ℕ) (h : i < s.switches.n) (d : Switch) where
    words_low : switch_words (get_or s.switches.all i d) ≤ s.fill.words
    words_low = rw o.shaped.words (within_get switch_words s.switches.all s.switches.n i d o.shaped.switch_words h switches_long)

    few_controls : length (list (string (files ++ area) (get_or s.switches.all i d).controls)) ≤ 65
    few_controls =
        let l : i < length (take s.switches.n s.switches.all) = rw (length-take-le s.switches.n s.switches.all switches_long) h in
        rw (get_or-take s.switches.n s.switches.all i d h) at (few_at (files ++ area) (words_in nums s.fill.words) (take s.switches.n s.switches.all) i d (few_model (files ++ area) (store_of nums s) s o.few) l)

    one_switch : OfSwitch files area nums (get_or s.switches.all i d)
    one_switch =
        record {
          names =
              record {
                small = o.small;
                strings = holds_at (of_switch (reach_of (length files))) (length (files ++ area)) s.switches.n s.switches.all (switches_hold files area nums s o) i d h;
                few = few_controls;
              };
          count = omega (arith, words_low, o.words);
          words = λ j g. within_word (reach_of (length files)) (length (files ++ area)) nums s.fill.words j o.bounded.words (omega (arith, words_low));
        }

  pub orders_switches : OfSwitches files area nums s.switches
  orders_switches = record { sized = o.shaped.switches; each = one_switch }

  pub orders_names : OfAll files area s.switches
  orders_names = record { sized = o.shaped.switches; each = λ i h d. (one_switch i h d).names }
