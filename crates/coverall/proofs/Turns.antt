-- Elements one after the other: each law is stated as a need asks it. Assumes nothing.
use Prim.Native.Nat.{ℕ, suc, ◌+◌, ◌-◌, ◌≤◌, ◌<◌}
use native.Mathlib.Omega.{arith}
use mathlib.Core.Path.{◌≡◌}
use mathlib.Core.Bool.{Bool, true, false}
use mathlib.Core.List.{List, flat_map}
use borrow.Author.Rules.{rules}
use Rattle.text.specs.Ascii.{Bytes}
use Rattle.joblines.specs.Job.{Module}
use Rattle.names.specs.Name.{name_of}
use Rattle.names.specs.declared.name.Name.{Name}
use Rattle.nametable.specs.Table.{row_name, names_from, names_next, names_none}
use Rattle.isolated.specs.Table.{Kept, kept_in}
use Rattle.keep.specs.Gains.{Aim, Gain, stay, behind, gains, gains_none, gains_append, gains_grow}
use Rattle.keep.specs.Covered.{Ready, Answer}
use Rattle.keep.specs.Turns.{Turn, turn_start, turn_end, turn_stop, turn_next}
use Rattle.keep.specs.declared.Cover.{Cover}
use Rattle.cover.specs.Aims.{output_aims, element_aims}
use Rattle.coverall.specs.Elements.{aims_for}

module _ (job mem : Bytes) (warn : Bool) (c : Cover) (out : Bytes) (number : ℕ) (name : Bytes) (d : List Module) (m : Module) (e : Bytes) (l : List Kept) (q : Cover) (out' : Bytes) (t' : List ℕ) (b : Bool) where
  pub one_outputs : Answer job mem warn c out (gains number name (output_aims d m e) l) q out' t' → b ≡ true → Answer job mem warn c out (gains number name (aims_for b d m e) l) q out' t'
  unfolding aims_for
  one_outputs a h = rw h a

  pub one_written : Answer job mem warn c out (gains number name (element_aims d m e) l) q out' t' → b ≡ false → Answer job mem warn c out (gains number name (aims_for b d m e) l) q out' t'
  unfolding aims_for
  one_written a h = rw h a

pub ruleset ones = (rules, one_outputs, one_written)

-- ---- the elements from row i on are left

abbrev pub left_gain : Bytes → ℕ → Bytes → (Bytes → List Aim) → List ℕ → ℕ → ℕ → List Kept → Gain
left_gain mem number name f table i n = gains number name (flat_map f (names_from mem table i n))

pub record Alls (job mem : Bytes) (warn : Bool) (c₀ : Cover) (out₀ : Bytes) (t₀ : List ℕ) (number : ℕ) (name : Bytes) (f : Bytes → List Aim) (table : List ℕ) (n : ℕ) (x : Cover) (out : Bytes) (t : List ℕ) (i : ℕ) : Type 0 where
  pub before : i ≤ n
  pub turn : Turn job mem warn c₀ out₀ (left_gain mem number name f table 0 n (kept_in job mem t₀ c₀.ports)) x out t (left_gain mem number name f table i (n - i))

module _ (job mem : Bytes) (warn : Bool) (c₀ : Cover) (out₀ : Bytes) (t₀ : List ℕ) (number : ℕ) (name : Bytes) (f : Bytes → List Aim) (table : List ℕ) (n : ℕ) where
  abbrev all : Gain
  all = left_gain mem number name f table 0 n (kept_in job mem t₀ c₀.ports)

  pub alls_start : Ready c₀ t₀ → Alls job mem warn c₀ out₀ t₀ number name f table n c₀ out₀ t₀ 0
  alls_start r = let z : n - 0 ≡ n = omega arith in record { before = omega arith; turn = rw z (turn_start job mem warn c₀ out₀ t₀ (left_gain mem number name f table 0 n) r) }

  module _ (x : Cover) (out : Bytes) (t : List ℕ) (i : ℕ) (inv : Alls job mem warn c₀ out₀ t₀ number name f table n x out t i) where
    pub alls_ready : Ready x t
    alls_ready = inv.turn.ready

    none_left : n ≤ i → (l : List Kept) → left_gain mem number name f table i (n - i) l ≡ stay l
    unfolding flat_map
    none_left h l = let z : n - i ≡ 0 = omega arith in rw (z, names_none mem table i) (gains_none number name l)

    pub alls_end : n ≤ i → Answer job mem warn c₀ out₀ all x out t
    alls_end h = turn_end job mem warn c₀ out₀ all x out t (left_gain mem number name f table i (n - i)) inv.turn (none_left h)

    module _ (h : i < n) (e : Name) (ee : e ≡ row_name table i) (q : Cover) (out' : Bytes) (t' : List ℕ) (a : Answer job mem warn x out (gains number name (f (name_of mem e)) (kept_in job mem t x.ports)) q out' t') where
      split : (l : List Kept) → left_gain mem number name f table i (n - i) l ≡ behind (gains number name (f (name_of mem e)) l) (left_gain mem number name f table (i + 1) (n - (i + 1)) (gains number name (f (name_of mem e)) l).rows)
      unfolding flat_map
      split l =
          let z : n - i ≡ suc (n - (i + 1)) = omega arith in
          rw (z, names_next mem table i (n - (i + 1)), ee) (gains_append number name (f (name_of mem (row_name table i))) (flat_map f (names_from mem table (i + 1) (n - (i + 1)))) l)

      pub alls_stop : q.over ≡ true → Answer job mem warn c₀ out₀ all q out' t'
      alls_stop o =
          turn_stop job mem warn c₀ out₀ all x out t (left_gain mem number name f table i (n - i)) inv.turn
          (gains number name (f (name_of mem e))) (left_gain mem number name f table (i + 1) (n - (i + 1))) split q out' t' a (λ l. gains_grow number name (flat_map f (names_from mem table (i + 1) (n - (i + 1)))) l) o

      pub alls_next : q.over ≡ false → Alls job mem warn c₀ out₀ t₀ number name f table n q out' t' (i + 1)
      alls_next o =
          record {
            before = omega arith;
            turn =
                turn_next job mem warn c₀ out₀ all x out t (left_gain mem number name f table i (n - i)) inv.turn
                (gains number name (f (name_of mem e))) (left_gain mem number name f table (i + 1) (n - (i + 1))) split q out' t' a o;
          }

pub ruleset alls = (rules, alls_start, alls_ready, alls_end, alls_stop, alls_next)
