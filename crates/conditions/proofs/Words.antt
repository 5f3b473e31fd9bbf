-- A text read byte by byte, and the control ports of a table: laws as the needs ask them. Assumes nothing.
use Prim.Native.Nat.{ℕ, suc, ◌+◌, ◌-◌, ◌≤◌, ◌<◌, ◌^◌}
use native.Mathlib.Omega.{arith}
use mathlib.Core.Path.{◌≡◌, refl, sym, ap, ◌∙◌}
use mathlib.Core.Bool.{Bool, true, false, cond, ◌&&◌, not}
use mathlib.Core.List.{List, [], ◌∷◌}
use Rattle.std.specs.Prelude.{Option, None, Some}
use lib.Dec.{eqb}
use lib.ListN.{length, take, drop}
use lib.Seq.{take-nil, drop-nil}
use borrow.Author.Rules.{rules}
use borrow.Author.Tests.{ne_eqb}
use Rattle.text.specs.Ascii.{Bytes}
use Rattle.text.specs.Classes.{is_digit, is_variable}
use Rattle.text.specs.Compare.{same}
use Rattle.text.specs.Scan.{all, before}
use Rattle.text.specs.Scans.{before_le}
use Rattle.tcl.specs.Substitution.{no_variable}
use Rattle.names.specs.Name.{name_of, step_of}
use Rattle.names.specs.declared.name.Name.{Name}
use Rattle.names.specs.Laws.{shorter}
use Rattle.nametable.specs.Table.{row_name, names_from, table_names, names_next}
use Rattle.paths.specs.Sizes.{name_short}
use Rattle.refs.specs.Text.{text_of, whole_ref}
use Rattle.refs.specs.Laws.{whole_is}
use Rattle.refs.specs.declared.Ref.{Ref}
use Rattle.model.specs.Records.{Control}
use Rattle.model.specs.Commands.{controls_of}
use Rattle.conditions.specs.Controls.{last_signal, signal_at, ControlSeen, controls_few}

-- ---- the size of a word

pub record Sizes (mem : Bytes) (w : ℕ) (x : Name) (n : ℕ) : Type 0 where
  pub keeps : n + before no_variable (name_of mem x) ≡ w
  pub small : w < 2 ^ 63

pub sizes_start : (mem : Bytes) (e : Name) → length mem < 2 ^ 32 → Sizes mem (before no_variable (name_of mem e)) e 0
sizes_start mem e h = record { keeps = omega arith; small = omega (arith, before_le no_variable (name_of mem e), name_short mem e) }

module _ (mem : Bytes) (w : ℕ) (x : Name) (n : ℕ) (inv : Sizes mem w x n) (p : Option (ℕ × Name)) (e : name_of mem x ≡ step_of mem p) where
  pub size_end : p ≡ None → n ≡ w
  unfolding before
  size_end h = let z : n + 0 ≡ w = rw (e, h) at inv.keeps in omega (arith, z)

  module _ (b : ℕ) (u : Name) (h : p ≡ Some (b, u)) (t : Bool) (et : t ≡ is_variable b) where
    size_left : n + cond (not t) 0 (suc (before no_variable (name_of mem u))) ≡ w
    unfolding before
    size_left = rw et (rw (e, h) at inv.keeps)

    pub size_stop : t ≡ false → n ≡ w
    size_stop g = let z : n + 0 ≡ w = rw g at size_left in omega (arith, z)

    module _ (g : t ≡ true) where
      size_more : n + suc (before no_variable (name_of mem u)) ≡ w
      size_more = rw g at size_left

      pub size_fits : n + 1 < 2 ^ 64
      size_fits = omega (arith, size_more, inv.small)

      pub size_step : Sizes mem w u (n + 1)
      size_step = record { keeps = omega (arith, size_more); small = inv.small }

pub ruleset sizes = (rules, shorter, sizes_start, size_end, size_stop, size_fits, size_step)

-- ---- a text without its first bytes

pub record Drops (mem w : Bytes) (n : ℕ) (x : Name) (k : ℕ) : Type 0 where
  pub keeps : drop (n - k) (name_of mem x) ≡ w

pub drops_start : (mem : Bytes) (e : Name) (n : ℕ) → Drops mem (drop n (name_of mem e)) n e 0
drops_start mem e n = let z : n - 0 ≡ n = omega arith in record { keeps = rw z }

module _ (mem w : Bytes) (n : ℕ) (x : Name) (k : ℕ) (inv : Drops mem w n x k) where
  pub drops_done : n ≤ k → name_of mem x ≡ w
  drops_done h = let z : n - k ≡ 0 = omega arith in rw z at inv.keeps

  module _ (p : Option (ℕ × Name)) (e : name_of mem x ≡ step_of mem p) where
    pub drops_end : p ≡ None → name_of mem x ≡ w
    drops_end h = let z : name_of mem x ≡ [] = e ∙ rw h in let y : [] ≡ w = sym (drop-nil (n - k)) ∙ (rw z at inv.keeps) in z ∙ y

    pub drops_step : (b : ℕ) (u : Name) → p ≡ Some (b, u) → k < n → Drops mem w n u (k + 1)
    drops_step b u h l = let z : n - k ≡ suc (n - (k + 1)) = omega arith in record { keeps = rw (z, e, h) at inv.keeps }

pub ruleset drops = (rules, drops_start, drops_done, drops_end, drops_step)

-- ---- whether its first bytes are digits

pub record Digits (mem : Bytes) (w : Bool) (n : ℕ) (x : Name) (k : ℕ) : Type 0 where
  pub keeps : all is_digit (take (n - k) (name_of mem x)) ≡ w

pub digits_start : (mem : Bytes) (e : Name) (n : ℕ) → Digits mem (all is_digit (take n (name_of mem e))) n e 0
digits_start mem e n = let z : n - 0 ≡ n = omega arith in record { keeps = rw z }

all_none : {A : Type 0} (t : A → Bool) → all t [] ≡ true
unfolding all
all_none t = refl

all_cons : (x : ℕ) (xs : Bytes) → all is_digit (x ∷ xs) ≡ is_digit x && all is_digit xs
unfolding all
all_cons x xs = refl

module _ (mem : Bytes) (w : Bool) (n : ℕ) (x : Name) (k : ℕ) (inv : Digits mem w n x k) where
  pub digits_done : n ≤ k → true ≡ w
  digits_done h = let z : n - k ≡ 0 = omega arith in sym (all_none is_digit) ∙ (rw z at inv.keeps)

  module _ (p : Option (ℕ × Name)) (e : name_of mem x ≡ step_of mem p) where
    pub digits_end : p ≡ None → true ≡ w
    digits_end h = sym (all_none is_digit) ∙ (rw (e, h, take-nil) at inv.keeps)

    module _ (b : ℕ) (u : Name) (h : p ≡ Some (b, u)) (l : k < n) (t : Bool) (et : t ≡ is_digit b) where
      digits_left : t && all is_digit (take (n - (k + 1)) (name_of mem u)) ≡ w
      digits_left = let z : n - k ≡ suc (n - (k + 1)) = omega arith in rw et (sym (all_cons b (take (n - (k + 1)) (name_of mem u))) ∙ (rw (z, e, h) at inv.keeps))

      pub digits_no : t ≡ false → false ≡ w
      digits_no g = rw g at digits_left

      pub digits_step : t ≡ true → Digits mem w n u (k + 1)
      digits_step g = record { keeps = rw g at digits_left }

pub ruleset digits = (rules, digits_start, digits_done, digits_end, digits_no, digits_step)

-- ---- the control port of a word

pub record Controls (mem : Bytes) (table : List ℕ) (n : ℕ) (port : Bytes) (found i : ℕ) : Type 0 where
  pub keeps : last_signal (controls_of (names_from mem table i (n - i))) port (signal_at mem table found) ≡ last_signal (controls_of (table_names mem table n)) port None
  pub found_low : found ≤ 65536
  pub low : i ≤ n + 1

pub controls_start : (mem : Bytes) (table : List ℕ) (n : ℕ) (port : Bytes) → Controls mem table n port 0 0
controls_start mem table n port = let z : n - 0 ≡ n = omega arith in record { keeps = rw z; found_low = omega arith; low = omega arith }

last_cons : (c : Control) (cs : List Control) (port : Bytes) (o : Option Bytes) → last_signal (c ∷ cs) port o ≡ last_signal cs port (cond (same c.port port) (Some c.signal) o)
unfolding last_signal
last_cons c cs port o = refl

last_none : (port : Bytes) (o : Option Bytes) → last_signal [] port o ≡ o
unfolding last_signal
last_none port o = refl

module _ (mem : Bytes) (table : List ℕ) (n : ℕ) (port : Bytes) (found i : ℕ) (few : n ≤ 65536) (inv : Controls mem table n port found i) where
  pub control_index : i + 1 < 2 ^ 64
  control_index = omega (arith, inv.low)

  pub control_done : n ≤ i + 1 → ControlSeen mem table n port found
  control_done h =
      let z : n - i ≤ 1 = omega arith in
      record { says = sym (last_none port (signal_at mem table found)) ∙ (rw (controls_few mem table i (n - i) z) at inv.keeps); within = inv.found_low }

  module _ (h : i + 1 < n) where
    pub control_row : i ≤ 65536
    control_row = omega arith

    pub control_two : i + 2 < 2 ^ 64
    control_two = omega arith

    pub control_less : n - (i + 2) < n - i
    control_less = omega arith

    module _ (job : Bytes) (p : Name) (ep : p ≡ row_name table i) (r w : Ref) (er : r ≡ whole_ref p) (t : Bool) (et : t ≡ same (text_of job mem r) (text_of job mem w)) (ew : port ≡ text_of job mem w) where
      left_is : last_signal (controls_of (names_from mem table (i + 2) (n - (i + 2)))) port (cond t (Some (name_of mem (row_name table (i + 1)))) (signal_at mem table found)) ≡ last_signal (controls_of (table_names mem table n)) port None
      left_is =
          let z : n - i ≡ suc (suc (n - (i + 2))) = omega arith in
          let y : i + 1 + 1 ≡ i + 2 = omega arith in
          let q : same (name_of mem (row_name table i)) port ≡ t = sym (et ∙ rw (er, ep, whole_is job mem (row_name table i), ew)) in
          let l : names_from mem table i (n - i) ≡ name_of mem (row_name table i) ∷ name_of mem (row_name table (i + 1)) ∷ names_from mem table (i + 2) (n - (i + 2)) =
          rw z (names_next mem table i (suc (n - (i + 2))) ∙ ap (λ (k : List Bytes). name_of mem (row_name table i) ∷ k) (rw (names_next mem table (i + 1) (n - (i + 2)), y))) in
          ap (λ (b : Bool). last_signal (controls_of (names_from mem table (i + 2) (n - (i + 2)))) port (cond b (Some (name_of mem (row_name table (i + 1)))) (signal_at mem table found))) (sym q)
          ∙ sym (last_cons (record { port = name_of mem (row_name table i); signal = name_of mem (row_name table (i + 1)) }) (controls_of (names_from mem table (i + 2) (n - (i + 2)))) port (signal_at mem table found))
          ∙ (rw l at inv.keeps)

      pub control_yes : t ≡ true → Controls mem table n port (i + 1) (i + 2)
      control_yes g =
          let z : eqb (i + 1) 0 ≡ false = ne_eqb (i + 1) 0 (λ e. omega arith) in
          record { keeps = rw z (rw g at left_is); found_low = omega arith; low = omega arith }

      pub control_no : t ≡ false → Controls mem table n port found (i + 2)
      control_no g = record { keeps = rw g at left_is; found_low = inv.found_low; low = omega arith }

pub ruleset controls = (rules, controls_start, control_index, control_done, control_row, control_two, control_less, control_yes, control_no)
