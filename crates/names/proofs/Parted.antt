-- Loops over the parts of a name: laws as the needs ask them. Assumes nothing.
use Prim.Native.Nat.{ℕ, ◌+◌, ◌≤◌, ◌<◌}
use mathlib.Core.Path.{◌≡◌}
use Rattle.std.specs.Prelude.{Option, None, Some}
use mathlib.Core.List.{List, []}
use lib.ListN.{length, drop, get_or, drop_of_length-le}
use borrow.Author.Rules.{rules}
use borrow.Author.Tests.{eq-eqb, ne_eqb}
use Rattle.text.specs.Ascii.{Bytes, byte}
use Rattle.text.specs.Compare.{same}
use Rattle.text.specs.Lists.{here}
use Rattle.names.specs.Name.{name_of, step_of}
use Rattle.names.specs.Parts.{parts, behind, unslashed, onto_first_lem, onto_others, parts_at, parts_on, parts_none}
use Rattle.names.specs.declared.name.Name.{Name}
use Rattle.names.specs.Laws.{shorter}

-- ---- whether the first part is s

pub record Takes (mem s : Bytes) (t : Option (List Bytes)) (x : Name) (i : ℕ) : Type 0 where
  pub keeps : behind (drop i s) (parts (name_of mem x)) ≡ t

module _ (mem s : Bytes) (t : Option (List Bytes)) (x : Name) (i : ℕ) (inv : Takes mem s t x i) (p : Option (ℕ × Name)) (e : name_of mem x ≡ step_of mem p) where
  pub take_short : p ≡ None → i < length s → None ≡ t
  unfolding same
  take_short h l = rw (e, h, parts_none, here s i l) at inv.keeps

  pub take_last : p ≡ None → length s ≤ i → Some [] ≡ t
  unfolding same
  take_last h l = rw (e, h, parts_none, drop_of_length-le s {i = i} l) at inv.keeps

  module _ (b : ℕ) (u : Name) (h : p ≡ Some (b, u)) where
    pub take_early : b ≡ byte "/" → i < length s → None ≡ t
    unfolding same
    take_early g l = rw (e, h, parts_at b (name_of mem u) g, here s i l) at inv.keeps

    pub take_end : b ≡ byte "/" → length s ≤ i → Some (parts (name_of mem u)) ≡ t
    unfolding same
    take_end g l = rw (e, h, parts_at b (name_of mem u) g, drop_of_length-le s {i = i} l) at inv.keeps

    module _ (g : b ≡ byte "/" → ⊥) where
      pub take_long : length s ≤ i → None ≡ t
      unfolding same
      take_long l = rw (e, h, parts_on b (name_of mem u) g, onto_first_lem, drop_of_length-le s {i = i} l) at inv.keeps

      pub take_stop : i < length s → (b ≡ get_or s i 0 → ⊥) → None ≡ t
      unfolding same
      take_stop l z = rw (e, h, parts_on b (name_of mem u) g, onto_first_lem, here s i l, ne_eqb b (get_or s i 0) z) at inv.keeps

      pub take_step : i < length s → b ≡ get_or s i 0 → Takes mem s t u (i + 1)
      unfolding same
      take_step l z = record { keeps = rw (e, h, parts_on b (name_of mem u) g, onto_first_lem, onto_others, here s i l, eq-eqb b (get_or s i 0) z) at inv.keeps }

pub ruleset takes = (rules, take_short, take_last, take_early, take_end, take_long, take_stop, take_step)

-- ---- without the slashes at its start

pub record Trims (mem t : Bytes) (x : Name) : Type 0 where
  pub keeps : unslashed (name_of mem x) ≡ t

module _ (mem t : Bytes) (x : Name) (inv : Trims mem t x) (p : Option (ℕ × Name)) (e : name_of mem x ≡ step_of mem p) where
  pub trim_end : p ≡ None → name_of mem x ≡ t
  unfolding unslashed
  trim_end h = rw (e, h) (rw (e, h) at inv.keeps)

  module _ (b : ℕ) (u : Name) (h : p ≡ Some (b, u)) where
    pub trim_stop : (b ≡ byte "/" → ⊥) → name_of mem x ≡ t
    unfolding unslashed
    trim_stop g = rw (e, h) (rw (e, h, ne_eqb b (byte "/") g) at inv.keeps)

    pub trim_step : b ≡ byte "/" → Trims mem t u
    unfolding unslashed
    trim_step g = record { keeps = rw (e, h, eq-eqb b (byte "/") g) at inv.keeps }

pub ruleset trims = (rules, shorter, trim_end, trim_stop, trim_step)
