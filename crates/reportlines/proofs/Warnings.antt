-- The warnings of reading: laws as the needs ask them. Assumes nothing.
use Prim.Native.Nat.{ℕ, ◌+◌, ◌≤◌, ◌<◌}
use native.Mathlib.Omega.{arith}
use mathlib.Core.Path.{◌≡◌, refl, sym, ap, ◌∙◌}
use mathlib.Core.Bool.{Bool, true, false, cond}
use mathlib.Core.List.{List, [], ◌∷◌, ◌++◌, map}
use lib.Dec.{leb}
use lib.ListN.{drop}
use borrow.Author.Tests.{ne_eqb, le-leb, lt-leb}
use Rattle.text.specs.Ascii.{Bytes}
use Rattle.out.specs.Emit.{Out, emit, emit_append}
use Rattle.out.specs.Fill.{turns, arg, pick, writes, format1, emit_fill}
use Rattle.out.specs.Items.{each, each_cons}
use Rattle.texts.specs.Texts.{warning_line}
use Rattle.store.specs.Strings.{string}
use Rattle.store.specs.View.{warnings_in, text_of, warning_text}
use Rattle.store.specs.Rows.{row_at, rows_in}
use Rattle.store.specs.declared.row.Row.{Row}
use Rattle.storedtexts.specs.Rows.{rows_next, rows_end}

-- ---- a warning, by its kind
module _ (o : Out) (w : Bytes) where
  line_3 : emit o (format1 "warning: set_domain_supply_net: unknown power domain '{0}'\n" w) ≡ emit o (warning_line (format1 "set_domain_supply_net: unknown power domain '{0}'" w))
  unfolding emit writes turns arg pick
  line_3 = simp emit_fill

  line_4 : emit o (format1 "warning: set_isolation {0}: -no_isolation, ignored\n" w) ≡ emit o (warning_line (format1 "set_isolation {0}: -no_isolation, ignored" w))
  unfolding emit writes turns arg pick
  line_4 = simp emit_fill

  line_5 : emit o (format1 "warning: set_isolation_control: unknown isolation strategy '{0}'\n" w) ≡ emit o (warning_line (format1 "set_isolation_control: unknown isolation strategy '{0}'" w))
  unfolding emit writes turns arg pick
  line_5 = simp emit_fill

  line_6 : emit o (format1 "warning: add_pst_state: unknown PST '{0}'\n" w) ≡ emit o (warning_line (format1 "add_pst_state: unknown PST '{0}'" w))
  unfolding emit writes turns arg pick
  line_6 = simp emit_fill

  line_7 : emit o (format1 "warning: '{0}' parsed but not simulated\n" w) ≡ emit o (warning_line (format1 "'{0}' parsed but not simulated" w))
  unfolding emit writes turns arg pick
  line_7 = simp emit_fill

  line_8 : emit o (format1 "warning: unsupported UPF command '{0}' ignored\n" w) ≡ emit o (warning_line (format1 "unsupported UPF command '{0}' ignored" w))
  unfolding emit writes turns arg pick
  line_8 = simp emit_fill

module _ (o : Out) (w : Bytes) (o' : Out) (k : ℕ) where
  pub warn_3 : o' ≡ emit o (format1 "warning: set_domain_supply_net: unknown power domain '{0}'\n" w) → k ≡ 3 → o' ≡ emit o (warning_line (text_of k w))
  unfolding text_of
  warn_3 h e = h ∙ rw e (line_3 o w)

  module _ (n3 : k ≡ 3 → ⊥) where
    pub warn_4 : o' ≡ emit o (format1 "warning: set_isolation {0}: -no_isolation, ignored\n" w) → k ≡ 4 → o' ≡ emit o (warning_line (text_of k w))
    unfolding text_of
    warn_4 h e = h ∙ rw e (line_4 o w)

    module _ (n4 : k ≡ 4 → ⊥) where
      pub warn_5 : o' ≡ emit o (format1 "warning: set_isolation_control: unknown isolation strategy '{0}'\n" w) → k ≡ 5 → o' ≡ emit o (warning_line (text_of k w))
      unfolding text_of
      warn_5 h e = h ∙ rw e (line_5 o w)

      module _ (n5 : k ≡ 5 → ⊥) where
        pub warn_6 : o' ≡ emit o (format1 "warning: add_pst_state: unknown PST '{0}'\n" w) → k ≡ 6 → o' ≡ emit o (warning_line (text_of k w))
        unfolding text_of
        warn_6 h e = h ∙ rw e (line_6 o w)

        module _ (n6 : k ≡ 6 → ⊥) where
          pub warn_7 : o' ≡ emit o (format1 "warning: '{0}' parsed but not simulated\n" w) → k ≡ 7 → o' ≡ emit o (warning_line (text_of k w))
          unfolding text_of
          warn_7 h e = h ∙ rw e (line_7 o w)

          pub warn_8 : o' ≡ emit o (format1 "warning: unsupported UPF command '{0}' ignored\n" w) → (k ≡ 7 → ⊥) → o' ≡ emit o (warning_line (text_of k w))
          unfolding text_of
          warn_8 h n7 = h ∙ rw (ne_eqb k 3 n3, ne_eqb k 4 n4, ne_eqb k 5 n5, ne_eqb k 6 n6, ne_eqb k 7 n7) (line_8 o w)

-- ---- the warnings among the rows left

pub record Lines (mem : Bytes) (nums : List ℕ) (rows : ℕ) (w o : Out) (i : ℕ) : Type 0 where
  pub keeps : emit o (each warning_line (map (warning_text mem) (warnings_in (drop i (rows_in nums rows))))) ≡ w

pub lines_start : (mem : Bytes) (nums : List ℕ) (rows : ℕ) (o : Out) → Lines mem nums rows (emit o (each warning_line (map (warning_text mem) (warnings_in (rows_in nums rows))))) o 0
lines_start mem nums rows o = record { keeps = refl }

first_warning : (r : Row) (rs : List Row) (b : Bool) → leb 3 r.kind ≡ b → warnings_in (r ∷ rs) ≡ cond b (r ∷ warnings_in rs) (warnings_in rs)
unfolding warnings_in
first_warning r rs true e = rw e
first_warning r rs false e = rw e

none_left : (mem : Bytes) (o : Out) → emit o (each warning_line (map (warning_text mem) (warnings_in []))) ≡ o
unfolding each emit warnings_in
none_left mem o = refl

module _ (mem : Bytes) (nums : List ℕ) (rows : ℕ) (w o : Out) (i : ℕ) (inv : Lines mem nums rows w o i) where
  pub row_few : rows ≤ 1024 → i < rows → i < 1024
  row_few g h = omega arith

  pub lines_done : rows ≤ i → o ≡ w
  lines_done h = sym (none_left mem o) ∙ (ap (λ (l : List Row). emit o (each warning_line (map (warning_text mem) (warnings_in l)))) (sym (rows_end nums rows i h)) ∙ inv.keeps)

  module _ (h : i < rows) (r : Row) (er : r ≡ row_at nums i) where
    left_is : (b : Bool) → leb 3 r.kind ≡ b → warnings_in (drop i (rows_in nums rows)) ≡ cond b (r ∷ warnings_in (drop (i + 1) (rows_in nums rows))) (warnings_in (drop (i + 1) (rows_in nums rows)))
    left_is b e = ap warnings_in (rows_next nums rows i h) ∙ rw (← er) (first_warning r (drop (i + 1) (rows_in nums rows)) b e)

    pub lines_other : r.kind < 3 → Lines mem nums rows w o (i + 1)
    lines_other k = record { keeps = rw (left_is false (lt-leb 3 r.kind k)) at inv.keeps }

    pub lines_next : (o' : Out) → o' ≡ emit o (warning_line (text_of r.kind (string mem r.name))) → 3 ≤ r.kind → Lines mem nums rows w o' (i + 1)
    unfolding warning_text
    lines_next o' e k =
        let q : each warning_line (map (warning_text mem) (warnings_in (drop i (rows_in nums rows)))) ≡ warning_line (warning_text mem r) ++ each warning_line (map (warning_text mem) (warnings_in (drop (i + 1) (rows_in nums rows)))) =
        ap (λ (l : List Row). each warning_line (map (warning_text mem) l)) (left_is true (le-leb 3 r.kind k)) ∙ each_cons warning_line (warning_text mem r) (map (warning_text mem) (warnings_in (drop (i + 1) (rows_in nums rows)))) in
        record { keeps = rw e (sym (emit_append o (warning_line (warning_text mem r)) (each warning_line (map (warning_text mem) (warnings_in (drop (i + 1) (rows_in nums rows)))))) ∙ (ap (emit o) (sym q) ∙ inv.keeps)) }
