-- Two strategies: the same check, or one before the other. Laws as the needs ask them. Assumes nothing.
use Rattle.store.specs.declared.state.Few.{Few}
use Rattle.store.specs.declared.state.Isolation.{Isolation}
use Prim.Native.Nat.{ℕ}
use mathlib.Core.Path.{◌≡◌, refl, sym, ap₂, ◌∙◌}
use mathlib.Core.Bool.{Bool, true, false, beq, cond, not}
use borrow.Author.Rules.{rules}
use borrow.Author.Tests.{not-true, not-false}
use Rattle.text.specs.Ascii.{Bytes, ascii}
use Rattle.text.specs.Compare.{same, less}
use Rattle.text.specs.Sames.{no_true}
use Rattle.out.specs.Bytewise.{dotted}
use Rattle.names.specs.Name.{name_of}
use Rattle.names.specs.declared.name.Name.{Name}
use Rattle.store.specs.View.{isolation_of}
use Rattle.texts.specs.Isolation.{lowered}
use Rattle.clamps.specs.Values.{stored_name, is_low}
use Rattle.clamps.specs.Laws.{stored_is}
use Rattle.alike.specs.Strategies.{isolation_at, strategy_at, signal_name, signal_of, are_alike}
use Rattle.alike.specs.Shown.{signal_read}
use Rattle.checks.specs.Sorted.{are_same, is_earlier}

flags_same : (a b : Bool) → not (beq a b) ≡ false → a ≡ b
flags_same true true h = refl
flags_same true false h = absurd (no_true (sym h))
flags_same false true h = absurd (no_true (sym h))
flags_same false false h = refl

flags_differ : (a b : Bool) → not (beq a b) ≡ true → a ≡ b → ⊥
flags_differ true true h e = no_true h
flags_differ true false h e = no_true (sym e)
flags_differ false true h e = no_true e
flags_differ false false h e = no_true h

module _ (mem : Bytes) (t : Few Isolation) where
  name_text : (k : ℕ) (x : Name) → x ≡ stored_name (isolation_at t k).name → name_of mem x ≡ (strategy_at mem t k).name
  unfolding isolation_of
  name_text k x e = rw e (stored_is mem (isolation_at t k).name)

  module _ (i j : ℕ) where
    -- ---- the same check
    module _ (b : Bool) (e : b ≡ are_alike (strategy_at mem t i) (strategy_at mem t j)) where
      pub not_same : not b ≡ true → false ≡ are_same (strategy_at mem t i) (strategy_at mem t j)
      unfolding are_same
      not_same h = rw (sym e ∙ not-true b h)

      pub same_named : not b ≡ false → (x y : Name) (r : Bool) → r ≡ same (name_of mem x) (name_of mem y) → x ≡ stored_name (isolation_at t i).name → y ≡ stored_name (isolation_at t j).name → r ≡ are_same (strategy_at mem t i) (strategy_at mem t j)
      unfolding are_same
      same_named h x y r f p q = rw (sym e ∙ not-false b h) (f ∙ rw (name_text i x p, name_text j y q))

    -- ---- the earlier one
    module _ (x y : Name) (p : x ≡ signal_name (isolation_at t i).signal) (q : y ≡ signal_name (isolation_at t j).signal) (b : Bool) (e : b ≡ same (dotted (name_of mem x)) (dotted (name_of mem y))) where
      signals : same (dotted (signal_of (strategy_at mem t i))) (dotted (signal_of (strategy_at mem t j))) ≡ b
      signals = ap₂ (λ (u v : Bytes). same (dotted u) (dotted v)) (sym (signal_read mem t i x p)) (sym (signal_read mem t j y q)) ∙ sym e

      pub early_signal : not b ≡ true → (r : Bool) → r ≡ less (dotted (name_of mem x)) (dotted (name_of mem y)) → r ≡ is_earlier (strategy_at mem t i) (strategy_at mem t j)
      unfolding is_earlier
      early_signal h r f = rw (signals ∙ not-true b h) (f ∙ ap₂ (λ (u v : Bytes). less (dotted u) (dotted v)) (signal_read mem t i x p) (signal_read mem t j y q))

      module _ (h : not b ≡ false) (n m : Bool) (f : n ≡ is_low (lowered (strategy_at mem t i).sense)) (g : m ≡ is_low (lowered (strategy_at mem t j).sense)) where
        abbrev literal : Bool → Bytes
        literal c = cond c (ascii "1'b0") (ascii "1'b1")

        differ : (c d z : Bool) → (c ≡ d → ⊥) → c ≡ cond (same (literal c) (literal d)) z (less (literal c) (literal d))
        unfolding same less
        differ true true z k = absurd (k refl)
        differ false false z k = absurd (k refl)
        differ true false z k = refl
        differ false true z k = refl

        agree : (c d z w : Bool) → c ≡ d → z ≡ cond (same (literal c) (literal d)) z w
        unfolding same
        agree true true z w k = refl
        agree false false z w k = refl
        agree true false z w k = absurd (no_true (sym k))
        agree false true z w k = absurd (no_true k)

        abbrev low : ℕ → Bool
        low k = same (lowered (strategy_at mem t k).sense) (ascii "low")

        pub early_active : not (beq n m) ≡ true → n ≡ is_earlier (strategy_at mem t i) (strategy_at mem t j)
        unfolding is_earlier is_low
        early_active k = rw (f, signals ∙ not-false b h) (differ (low i) (low j) (less (strategy_at mem t i).name (strategy_at mem t j).name) (λ z. flags_differ n m k (f ∙ z ∙ sym g)))

        pub early_name : not (beq n m) ≡ false → (u v : Name) (r : Bool) → r ≡ less (name_of mem u) (name_of mem v) → u ≡ stored_name (isolation_at t i).name → v ≡ stored_name (isolation_at t j).name → r ≡ is_earlier (strategy_at mem t i) (strategy_at mem t j)
        unfolding is_earlier is_low
        early_name k u v r z a d =
            z ∙ ap₂ less (name_text i u a) (name_text j v d) ∙ rw (signals ∙ not-false b h) (agree (low i) (low j) (less (strategy_at mem t i).name (strategy_at mem t j).name) (less (literal (low i)) (literal (low j))) (sym f ∙ flags_same n m k ∙ g))

pub ruleset sames = (rules, not_same, same_named)

pub ruleset earlies = (rules, early_signal, early_active, early_name)
