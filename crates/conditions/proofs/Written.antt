-- A condition, written: laws as the needs ask them. Assumes nothing.
use Rattle.std.specs.Prelude.{Option}
use Prim.Native.Nat.{ℕ, ◌+◌, ◌-◌, ◌≤◌, ◌<◌}
use mathlib.Core.Path.{◌≡◌, refl, sym, ap, ◌∙◌}
use mathlib.Core.Bool.{Bool, true, false}
use mathlib.Core.List.{List, [], ◌∷◌, ◌++◌}
use Rattle.std.specs.Prelude.{None, Some}
use native.Mathlib.Omega.{arith}
use lib.Dec.{eqb, ltb}
use lib.ListN.{length, take, drop}
use borrow.Author.Tests.{eq-eqb, ne_eqb, le-ltb, eqb-true}
use Rattle.text.specs.Ascii.{Bytes, ascii}
use Rattle.text.specs.Classes.{is_digit, is_variable}
use Rattle.text.specs.Scan.{all, before}
use Rattle.out.specs.Emit.{Out, ◌▸◌, emit1, emit, emit_append}
use Rattle.out.specs.Bytewise.{flat, becomes, flat_same}
use Rattle.out.specs.declared.bytewise.Mode.{Mode}
use Rattle.tcl.specs.Substitution.{no_variable}
use Rattle.names.specs.Name.{name_of, step_of}
use Rattle.names.specs.declared.name.Name.{Name}
use Rattle.nametable.specs.Table.{row_name, table_names}
use Rattle.refs.specs.Text.{text_of, as_dots, whole_ref, front_ref}
use Rattle.refs.specs.Laws.{whole_is, front_is}
use Rattle.refs.specs.declared.Ref.{Ref}
use Rattle.design.specs.Paths.{element_path}
use Rattle.model.specs.Records.{Control}
use Rattle.model.specs.Commands.{controls_of}
use Rattle.texts.specs.Setting.{Setting}
use Rattle.texts.specs.Switches.{signal_of, word_text, condition}
use Rattle.conditions.specs.Controls.{scope_setting, signal_at, hier_of, ControlSeen, seen_signal}
use Rattle.conditions.specs.Pieces.{condition_none, condition_byte, condition_word, word_shorter}

-- ---- a word

module _ (job mem : Bytes) (scope : List Bytes) (table : List ℕ) (count n : ℕ) (e : Name) (w : Ref) (ew : w ≡ front_ref e n) (k : ℕ) (seen : ControlSeen mem table count (text_of job mem w) k) (o o' : Out) where
  port_is : text_of job mem w ≡ take n (name_of mem e)
  port_is = rw ew (front_is job mem e n)

  signal_seen : signal_of (scope_setting scope) (controls_of (table_names mem table count)) (take n (name_of mem e)) None ≡ hier_of (scope_setting scope) (signal_at mem table k)
  signal_seen = ap (λ (p : Bytes). signal_of (scope_setting scope) (controls_of (table_names mem table count)) p None) (sym port_is) ∙ seen_signal scope mem table count (text_of job mem w) k seen

  pub word_known : (r : Ref) (x : Name) → o' ≡ emit o (flat (becomes Mode.Same) (element_path scope (text_of job mem r))) → r ≡ whole_ref x → x ≡ row_name table k → (k ≡ 0 → ⊥) → o' ≡ emit o (word_text (signal_of (scope_setting scope) (controls_of (table_names mem table count)) (take n (name_of mem e)) None) (take n (name_of mem e)))
  word_known r x g er ex h =
      let z : signal_of (scope_setting scope) (controls_of (table_names mem table count)) (take n (name_of mem e)) None ≡ Some (element_path scope (name_of mem (row_name table k))) = signal_seen ∙ rw (ne_eqb k 0 h) in
      let y : flat (becomes Mode.Same) (element_path scope (text_of job mem r)) ≡ element_path scope (name_of mem (row_name table k)) = flat_same (element_path scope (text_of job mem r)) ∙ rw (er, ex, whole_is job mem (row_name table k)) in
      rw z (g ∙ ap (emit o) y)

  module _ (h : k ≡ 0) where
    no_signal_lem : signal_of (scope_setting scope) (controls_of (table_names mem table count)) (take n (name_of mem e)) None ≡ None
    no_signal_lem = signal_seen ∙ rw (eq-eqb k 0 h)

    module _ (t : Bool) (et : t ≡ all is_digit (take n (name_of mem e))) where
      pub word_number : o' ≡ emit o (flat (becomes Mode.Same) (as_dots false (text_of job mem w))) → t ≡ true → o' ≡ emit o (word_text (signal_of (scope_setting scope) (controls_of (table_names mem table count)) (take n (name_of mem e)) None) (take n (name_of mem e)))
      word_number g d = rw (no_signal_lem, ← et, d) (g ∙ ap (emit o) (flat_same (text_of job mem w) ∙ port_is))

      pub word_unknown : o' ≡ emit o (ascii "1'bx") → t ≡ false → o' ≡ emit o (word_text (signal_of (scope_setting scope) (controls_of (table_names mem table count)) (take n (name_of mem e)) None) (take n (name_of mem e)))
      word_unknown g d = rw (no_signal_lem, ← et, d) g

-- ---- a full buffer

-- past the end nothing changes any more
emit1_full : (o : Out) (b : ℕ) → o.at ≡ length o.bytes + 1 → emit1 o b ≡ o
unfolding emit1
emit1_full o b h = let z : ltb o.at (length o.bytes) ≡ false = le-ltb o.at (length o.bytes) (omega (arith, h)) in rw (z, ← h)

emit_full : (o : Out) (t : Bytes) → o.at ≡ length o.bytes + 1 → emit o t ≡ o
unfolding emit
emit_full o [] h = refl
emit_full o (b ∷ t) h = rw (emit1_full o b h) (emit_full o t h)

pub word_full : (out w : Bytes) (at : ℕ) (t : Bool) → t ≡ eqb at (length out + 1) → t ≡ true → out ▸ at ≡ emit (out ▸ at) w
word_full out w at t e h = sym (emit_full (out ▸ at) w (eqb-true at (length out + 1) (sym e ∙ h)))

-- ---- all of it: what is left is written behind what was

pub record Conditions (s : Setting) (cs : List Control) (mem : Bytes) (w o : Out) (x : Name) : Type 0 where
  pub keeps : emit o (condition s cs (name_of mem x)) ≡ w

emit_none : (o : Out) → emit o [] ≡ o
unfolding emit
emit_none o = refl

emit_cons : (o : Out) (b : ℕ) (t : Bytes) → emit o (b ∷ t) ≡ emit (emit1 o b) t
unfolding emit
emit_cons o b t = refl

module _ (s : Setting) (cs : List Control) (mem : Bytes) (w o : Out) (x : Name) (inv : Conditions s cs mem w o x) (p : Option (ℕ × Name)) (e : name_of mem x ≡ step_of mem p) where
  pub condition_end : p ≡ None → o ≡ w
  condition_end h = sym (emit_none o) ∙ ap (emit o) (sym (condition_none s cs 0 [])) ∙ (rw (e, h) at inv.keeps)

  module _ (b : ℕ) (u : Name) (h : p ≡ Some (b, u)) (t : Bool) (et : t ≡ is_variable b) where
    at_byte : name_of mem x ≡ b ∷ name_of mem u
    at_byte = e ∙ rw h

    pub condition_on : (o' : Out) → o' ≡ emit1 o b → t ≡ false → Conditions s cs mem w o' u
    condition_on o' g d =
        let z : condition s cs (name_of mem x) ≡ b ∷ condition s cs (name_of mem u) = rw at_byte (condition_byte s cs b (name_of mem u) (sym et ∙ d)) in
        record { keeps = rw g (sym (emit_cons o b (condition s cs (name_of mem u))) ∙ (rw z at inv.keeps)) }

    module _ (n : ℕ) (en : n ≡ before no_variable (name_of mem x)) (y : Name) (ey : name_of mem y ≡ drop n (name_of mem x)) (d : t ≡ true) where
      size_is : n ≡ before no_variable (b ∷ name_of mem u)
      size_is = en ∙ ap (before no_variable) at_byte

      pub condition_over : (o' : Out) → o' ≡ emit o (word_text (signal_of s cs (take n (name_of mem x)) None) (take n (name_of mem x))) → Conditions s cs mem w o' y
      condition_over o' g =
          let v = word_text (signal_of s cs (take n (name_of mem x)) None) (take n (name_of mem x)) in
          let z : condition s cs (name_of mem x) ≡ v ++ condition s cs (drop n (name_of mem x)) = rw at_byte (condition_word s cs b (name_of mem u) (sym et ∙ d) n size_is) in
          record { keeps = rw (g, ey) (sym (emit_append o v (condition s cs (drop n (name_of mem x)))) ∙ (rw z at inv.keeps)) }

      pub condition_less : length (name_of mem y) < length (name_of mem x)
      condition_less = rw (ey, at_byte) (word_shorter s cs b (name_of mem u) (sym et ∙ d) n size_is)
