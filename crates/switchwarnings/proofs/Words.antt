-- The warnings about a condition: laws as the needs ask them. Assumes nothing.
use Rattle.std.specs.Prelude.{Option}
use Prim.Native.Nat.{ℕ, ◌+◌, ◌≤◌, ◌<◌, ◌^◌}
use native.Mathlib.Omega.{arith}
use mathlib.Core.Path.{◌≡◌, refl, sym, ap, ◌∙◌}
use mathlib.Core.Bool.{Bool, true, false}
use mathlib.Core.List.{List, [], ◌∷◌, ◌++◌}
use Rattle.std.specs.Prelude.{None, Some}
use lib.ListN.{length, take, drop, length-append}
use borrow.Author.Tests.{eq-eqb, ne_eqb}
use Rattle.text.specs.Ascii.{Bytes, ascii}
use Rattle.text.specs.Classes.{is_digit, is_variable}
use Rattle.text.specs.Scan.{all, before}
use Rattle.out.specs.Emit.{Out, emit, emit_append}
use Rattle.out.specs.Fill.{fill, format1, arg, pick, turns, writes, emit_fill}
use Rattle.out.specs.Items.{each, each_none}
use Rattle.tcl.specs.Substitution.{no_variable}
use Rattle.names.specs.Name.{name_of, step_of}
use Rattle.names.specs.declared.name.Name.{Name}
use Rattle.nametable.specs.Table.{row_name, table_names}
use Rattle.paths.specs.Sizes.{name_short}
use Rattle.refs.specs.Text.{text_of, front_ref}
use Rattle.refs.specs.Laws.{front_is}
use Rattle.refs.specs.declared.Ref.{Ref}
use Rattle.design.specs.Paths.{element_path}
use Rattle.format.specs.declared.arg.Wrap.{Wrap}
use Rattle.format.specs.Args.{arg_of, wrapped_arg}
use Rattle.format.specs.Laws.{plain_arg}
use Rattle.format.specs.declared.arg.Arg.{Arg}
use Rattle.model.specs.Records.{Control}
use Rattle.model.specs.Commands.{controls_of}
use Rattle.texts.specs.Setting.{Setting}
use Rattle.texts.specs.Switches.{signal_of, unless_known, unknowns}
use Rattle.texts.specs.Texts.{warning_line}
use Rattle.texts.specs.Laws.{each_append, one_warning}
use Rattle.conditions.specs.Controls.{scope_setting, signal_at, hier_of, ControlSeen, seen_signal}
use Rattle.conditions.specs.Pieces.{unknowns_none, unknowns_byte, unknowns_word, unknowns_few, word_shorter}
use Rattle.switches.specs.Texts.{Told}

-- ---- none, one, one after the other

pub told_none : (most : ℕ) (o : Out) (n : ℕ) → Told most o n [] o n
told_none most o n = record { text = sym (each_none warning_line o); count = omega arith; few = omega arith }

pub told_one : (o o' : Out) (n : ℕ) (w : Bytes) → o' ≡ emit o (warning_line w) → Told 1 o n (w ∷ []) o' (n + 1)
told_one o o' n w e = record { text = e ∙ ap (emit o) (sym (one_warning w)); count = refl; few = omega arith }

pub told_then : (a b c : ℕ) (o o₁ o₂ : Out) (n n₁ n₂ : ℕ) (ws vs : List Bytes) → Told a o n ws o₁ n₁ → Told b o₁ n₁ vs o₂ n₂ → a + b ≤ c → Told c o n (ws ++ vs) o₂ n₂
told_then a b c o o₁ o₂ n n₁ n₂ ws vs p q h =
    record {
      text = q.text ∙ ap (λ (x : Out). emit x (each warning_line vs)) p.text ∙ sym (ap (emit o) (each_append warning_line ws vs) ∙ emit_append o (each warning_line ws) (each warning_line vs));
      count = omega (arith, p.count, q.count, length-append ws vs);
      few = omega (arith, p.few, q.few);
    }

pub more_fits : (n : ℕ) → n ≤ 2 ^ 62 → n + 1 < 2 ^ 64
more_fits n h = omega arith

-- ---- a word

word_pieces : (o : Out) (x : Bytes) → emit o (fill (ascii "warning: power switch state uses unknown control port '{0}'\n") x [] [] [] []) ≡ emit o (warning_line (format1 "power switch state uses unknown control port '{0}'" x))
unfolding emit writes turns arg pick
word_pieces o x = simp emit_fill

module _ (job mem : Bytes) (scope : List Bytes) (table : List ℕ) (count k : ℕ) (x : Name) (w : Ref) (ew : w ≡ front_ref x k) (r : ℕ) (seen : ControlSeen mem table count (text_of job mem w) r) (o : Out) (n : ℕ) where
  port_is : text_of job mem w ≡ take k (name_of mem x)
  port_is = rw ew (front_is job mem x k)

  signal_seen : signal_of (scope_setting scope) (controls_of (table_names mem table count)) (take k (name_of mem x)) None ≡ hier_of (scope_setting scope) (signal_at mem table r)
  signal_seen = ap (λ (p : Bytes). signal_of (scope_setting scope) (controls_of (table_names mem table count)) p None) (sym port_is) ∙ seen_signal scope mem table count (text_of job mem w) r seen

  pub warn_known : (r ≡ 0 → ⊥) → Told 1 o n (unless_known (signal_of (scope_setting scope) (controls_of (table_names mem table count)) (take k (name_of mem x)) None) (take k (name_of mem x))) o n
  warn_known h =
      let z : signal_of (scope_setting scope) (controls_of (table_names mem table count)) (take k (name_of mem x)) None ≡ Some (element_path scope (name_of mem (row_name table r))) = signal_seen ∙ rw (ne_eqb r 0 h) in
      rw z (told_none 1 o n)

  module _ (h : r ≡ 0) (t : Bool) (et : t ≡ all is_digit (take k (name_of mem x))) where
    no_signal_lem : signal_of (scope_setting scope) (controls_of (table_names mem table count)) (take k (name_of mem x)) None ≡ None
    no_signal_lem = signal_seen ∙ rw (eq-eqb r 0 h)

    pub warn_number : t ≡ true → Told 1 o n (unless_known (signal_of (scope_setting scope) (controls_of (table_names mem table count)) (take k (name_of mem x)) None) (take k (name_of mem x))) o n
    warn_number d = rw (no_signal_lem, ← et, d) (told_none 1 o n)

    pub warn_unknown : (top : Bytes) (o' : Out) (a : Arg) → o' ≡ emit o (fill (ascii "warning: power switch state uses unknown control port '{0}'\n") (arg_of job mem scope top a) [] [] [] []) → a ≡ wrapped_arg Wrap.Plain w → t ≡ false → Told 1 o n (unless_known (signal_of (scope_setting scope) (controls_of (table_names mem table count)) (take k (name_of mem x)) None) (take k (name_of mem x))) o' (n + 1)
    warn_unknown top o' a e ea d =
        let z : arg_of job mem scope top a ≡ take k (name_of mem x) = rw ea (plain_arg job mem scope top w ∙ port_is) in
        rw (no_signal_lem, ← et, d) (told_one o o' n (format1 "power switch state uses unknown control port '{0}'" (take k (name_of mem x))) (e ∙ ap (λ (y : Bytes). emit o (fill (ascii "warning: power switch state uses unknown control port '{0}'\n") y [] [] [] [])) z ∙ word_pieces o (take k (name_of mem x))))

-- ---- a condition: what is left is told behind what was

pub record Warns (s : Setting) (cs : List Control) (mem : Bytes) (e : Name) (o₀ : Out) (n₀ : ℕ) (o : Out) (n : ℕ) (x : Name) : Type 0 where
  pub text : emit o (each warning_line (unknowns s cs 0 (name_of mem x))) ≡ emit o₀ (each warning_line (unknowns s cs 0 (name_of mem e)))
  pub count : n + length (unknowns s cs 0 (name_of mem x)) ≡ n₀ + length (unknowns s cs 0 (name_of mem e))
  pub most : length (unknowns s cs 0 (name_of mem e)) ≤ 2 ^ 34

pub warns_start : (s : Setting) (cs : List Control) (mem : Bytes) (e : Name) (o : Out) (n : ℕ) → length mem < 2 ^ 32 → Warns s cs mem e o n o n e
warns_start s cs mem e o n h = record { text = refl; count = refl; most = omega (arith, unknowns_few s cs 0 (name_of mem e), name_short mem e) }

module _ (s : Setting) (cs : List Control) (mem : Bytes) (e : Name) (o₀ : Out) (n₀ : ℕ) (o : Out) (n : ℕ) (x : Name) (inv : Warns s cs mem e o₀ n₀ o n x) where
  pub warns_low : n₀ ≤ 2 ^ 61 → n ≤ 2 ^ 62
  warns_low h = omega (arith, inv.count, inv.most)

  module _ (p : Option (ℕ × Name)) (g : name_of mem x ≡ step_of mem p) where
    pub warns_end : p ≡ None → Told (2 ^ 34) o₀ n₀ (unknowns s cs 0 (name_of mem e)) o n
    warns_end h =
        let z : unknowns s cs 0 (name_of mem x) ≡ [] = ap (unknowns s cs 0) (g ∙ rw h) ∙ unknowns_none s cs 0 [] in
        let c : n + 0 ≡ n₀ + length (unknowns s cs 0 (name_of mem e)) = rw z at inv.count in
        record { text = sym (each_none warning_line o) ∙ (rw z at inv.text); count = omega (arith, c); few = omega (arith, c, inv.most) }

    module _ (b : ℕ) (u : Name) (h : p ≡ Some (b, u)) (t : Bool) (et : t ≡ is_variable b) where
      at_byte : name_of mem x ≡ b ∷ name_of mem u
      at_byte = g ∙ rw h

      pub warns_on : t ≡ false → Warns s cs mem e o₀ n₀ o n u
      warns_on d =
          let z : unknowns s cs 0 (name_of mem x) ≡ unknowns s cs 0 (name_of mem u) = ap (unknowns s cs 0) at_byte ∙ unknowns_byte s cs b (name_of mem u) (sym et ∙ d) in
          record { text = rw z at inv.text; count = rw z at inv.count; most = inv.most }

      module _ (k : ℕ) (ek : k ≡ before no_variable (name_of mem x)) (y : Name) (ey : name_of mem y ≡ drop k (name_of mem x)) (d : t ≡ true) where
        size_is : k ≡ before no_variable (b ∷ name_of mem u)
        size_is = ek ∙ ap (before no_variable) at_byte

        pub warns_less : length (name_of mem y) < length (name_of mem x)
        warns_less = rw (ey, at_byte) (word_shorter s cs b (name_of mem u) (sym et ∙ d) k size_is)

        pub warns_over : (o' : Out) (n' : ℕ) → Told 1 o n (unless_known (signal_of s cs (take k (name_of mem x)) None) (take k (name_of mem x))) o' n' → Warns s cs mem e o₀ n₀ o' n' y
        warns_over o' n' w =
            let v = unless_known (signal_of s cs (take k (name_of mem x)) None) (take k (name_of mem x)) in
            let l = unknowns s cs 0 (name_of mem y) in
            let z : unknowns s cs 0 (name_of mem x) ≡ v ++ l = rw (ey, at_byte) (unknowns_word s cs b (name_of mem u) (sym et ∙ d) k size_is) in
            let c : n + length (v ++ l) ≡ n₀ + length (unknowns s cs 0 (name_of mem e)) = rw z at inv.count in
            record {
              text = ap (λ (q : Out). emit q (each warning_line l)) w.text ∙ sym (ap (emit o) (each_append warning_line v l) ∙ emit_append o (each warning_line v) (each warning_line l)) ∙ (rw z at inv.text);
              count = omega (arith, c, w.count, length-append v l);
              most = inv.most;
            }
