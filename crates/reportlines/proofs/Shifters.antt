-- The lines of the shifters: laws as the needs ask them. Assumes nothing.
use Rattle.store.specs.declared.state.Few.{Few}
use Prim.Native.Nat.{ℕ, ◌+◌, ◌≤◌, ◌<◌}
use mathlib.Core.Path.{◌≡◌, refl, sym, ap, ◌∙◌}
use mathlib.Core.List.{List, ◌++◌, map}
use lib.ListN.{take, drop, get_or}
use borrow.Author.Rules.{rules}
use Rattle.text.specs.Ascii.{Bytes}
use Rattle.out.specs.Emit.{Out, emit, emit_append}
use Rattle.out.specs.Fill.{format2}
use Rattle.out.specs.Items.{each, each_cons, each_none}
use Rattle.texts.specs.Texts.{shifter_line}
use Rattle.store.specs.Strings.{string}
use Rattle.store.specs.View.{shifter_of}
use Rattle.store.specs.declared.state.Shifter.{Shifter}
use Rattle.setting.specs.Orders.{Holds, holds_few, holds_next, holds_end}

pub shifter_is : (mem : Bytes) (x : Shifter) (o o' : Out) → o' ≡ emit o (format2 "level shifter {0} on {1}: transparent\n" (string mem x.name) (string mem x.domain)) → o' ≡ emit o (shifter_line (shifter_of mem x))
unfolding shifter_of
shifter_is mem x o o' h = h

pub record Lines (mem : Bytes) (t : Few Shifter) (w o : Out) (i : ℕ) : Type 0 where
  pub keeps : emit o (each shifter_line (map (shifter_of mem) (drop i (take t.n t.all)))) ≡ w

pub lines_start : (mem : Bytes) (t : Few Shifter) (o : Out) → Lines mem t (emit o (each shifter_line (map (shifter_of mem) (take t.n t.all)))) o 0
lines_start mem t o = record { keeps = refl }

module _ (of : Shifter → ℕ) (bound : ℕ) (t : Few Shifter) (g : Holds of bound t.n t.all) where
  pub few_shifters : t.n ≤ 32
  few_shifters = holds_few of bound t.n t.all g

  module _ (mem : Bytes) (w o : Out) (i : ℕ) (inv : Lines mem t w o i) where
    pub lines_next : (d : Shifter) (o' : Out) → o' ≡ emit o (shifter_line (shifter_of mem (get_or t.all i d))) → i < t.n → Lines mem t w o' (i + 1)
    lines_next d o' e h =
        let x = get_or t.all i d in
        let q : each shifter_line (map (shifter_of mem) (drop i (take t.n t.all))) ≡ shifter_line (shifter_of mem x) ++ each shifter_line (map (shifter_of mem) (drop (i + 1) (take t.n t.all))) =
        ap (λ (l : List Shifter). each shifter_line (map (shifter_of mem) l)) (holds_next of bound t.n t.all g i d h) ∙ each_cons shifter_line (shifter_of mem x) (map (shifter_of mem) (drop (i + 1) (take t.n t.all))) in
        record { keeps = rw e (sym (emit_append o (shifter_line (shifter_of mem x)) (each shifter_line (map (shifter_of mem) (drop (i + 1) (take t.n t.all))))) ∙ (ap (emit o) (sym q) ∙ inv.keeps)) }

    pub lines_done : t.n ≤ i → o ≡ w
    lines_done h = sym (each_none shifter_line o) ∙ (ap (λ (l : List Shifter). emit o (each shifter_line (map (shifter_of mem) l))) (sym (holds_end of bound t.n t.all g i h)) ∙ inv.keeps)

pub ruleset indices = (rules, few_shifters)
