-- A strategy's name, signal and active value: laws as the needs ask them. Assumes nothing.
use Rattle.store.specs.declared.state.Few.{Few}
use Rattle.std.specs.Prelude.{Option}
use Prim.Native.Nat.{ℕ}
use mathlib.Core.Path.{◌≡◌, refl, sym, ◌∙◌}
use mathlib.Core.Bool.{Bool, true, false, beq, cond, not}
use borrow.Author.Rules.{rules}
use Rattle.text.specs.Ascii.{Bytes, ascii}
use Rattle.text.specs.Compare.{same}
use Rattle.text.specs.Sames.{same_refl, no_true}
use Rattle.out.specs.Bytewise.{dotted}
use Rattle.names.specs.Name.{name_of}
use Rattle.names.specs.declared.name.Name.{Name}
use Rattle.model.specs.Records.{Isolation as Isolationʳ}
use Rattle.model.specs.Commands.{or_else}
use Rattle.store.specs.Strings.{maybe_of}
use Rattle.store.specs.View.{isolation_of}
use Rattle.store.specs.declared.stored.Stored.{Stored}
use Rattle.store.specs.declared.state.Isolation.{Isolation}
use Rattle.texts.specs.Isolation.{lowered, active_of}
use Rattle.clamps.specs.Values.{stored_name, is_low}
use Rattle.alike.specs.Strategies.{isolation_at, strategy_at, signal_name, signal_of, are_alike}
use Rattle.alike.specs.Shown.{signal_text_lem}

pub name_of_lem : (x y : Isolation) (n : Name) → n ≡ stored_name x.name → x ≡ y → n ≡ stored_name y.name
name_of_lem x y n e f = e ∙ rw f

pub signal_of_lem : (x y : Isolation) (n : Name) → n ≡ signal_name x.signal → x ≡ y → n ≡ signal_name y.signal
signal_of_lem x y n e f = e ∙ rw f

pub low_of_lem : (mem : Bytes) (x : Isolation) (t : Few Isolation) (i : ℕ) (n : Bool) → n ≡ is_low (lowered (or_else (maybe_of mem x.sense) (ascii "high"))) → x ≡ isolation_at t i → n ≡ is_low (lowered (strategy_at mem t i).sense)
unfolding isolation_of
low_of_lem mem x t i n e f = e ∙ rw f

pub ruleset values = (rules, name_of_lem, signal_of_lem, low_of_lem)

-- ---- whether two are alike

-- two literals are the same where both senses are low or none
same_low : (a b : Bool) → beq a b ≡ same (cond a (ascii "1'b0") (ascii "1'b1")) (cond b (ascii "1'b0") (ascii "1'b1"))
unfolding same
same_low true true = refl
same_low true false = refl
same_low false true = refl
same_low false false = refl

alike_by : (i j : Isolationʳ) (n m : Bool) → n ≡ is_low (lowered i.sense) → m ≡ is_low (lowered j.sense) → (r : Bool) → r ≡ same (dotted (signal_of i)) (dotted (signal_of j)) → r ≡ true → beq n m ≡ are_alike i j
unfolding are_alike is_low
alike_by i j n m e f r g h = rw (sym g ∙ h, e, f) (same_low (same (lowered i.sense) (ascii "low")) (same (lowered j.sense) (ascii "low")))

unalike : (i j : Isolationʳ) → same (dotted (signal_of i)) (dotted (signal_of j)) ≡ false → false ≡ are_alike i j
unfolding are_alike
unalike i j h = sym (rw h)

module _ (mem : Bytes) (a b : Isolation) (x y : Name) (s : Bool) (g : s ≡ same (dotted (name_of mem x)) (dotted (name_of mem y))) (p : x ≡ signal_name a.signal) (q : y ≡ signal_name b.signal) where
  text_of : (c : Isolation) (z : Name) → z ≡ signal_name c.signal → name_of mem z ≡ signal_of (isolation_of mem c)
  unfolding isolation_of
  text_of c z h = rw h (signal_text_lem mem c.signal)

  signals_are : s ≡ same (dotted (signal_of (isolation_of mem a))) (dotted (signal_of (isolation_of mem b)))
  signals_are = g ∙ rw (text_of a x p, text_of b y q)

  pub not_alike : not s ≡ true → false ≡ are_alike (isolation_of mem a) (isolation_of mem b)
  not_alike h = unalike (isolation_of mem a) (isolation_of mem b) (sym signals_are ∙ no_is s h)
    where
      no_is : (b : Bool) → not b ≡ true → b ≡ false
      no_is true k = absurd (no_true k)
      no_is false k = refl

  pub active_alike : not s ≡ false → (n m : Bool) → n ≡ is_low (lowered (or_else (maybe_of mem a.sense) (ascii "high"))) → m ≡ is_low (lowered (or_else (maybe_of mem b.sense) (ascii "high"))) → beq n m ≡ are_alike (isolation_of mem a) (isolation_of mem b)
  unfolding isolation_of
  active_alike h n m e f = alike_by (isolation_of mem a) (isolation_of mem b) n m e f s signals_are (yes_is s h)
    where
      yes_is : (b : Bool) → not b ≡ false → b ≡ true
      yes_is true k = refl
      yes_is false k = absurd (no_true (sym k))

pub ruleset rows = (rules, not_alike, active_alike)

-- ---- by their numbers

-- a strategy is like itself
self_alike : (i : Isolationʳ) → true ≡ are_alike i i
unfolding are_alike
self_alike i = sym (rw (same_refl (dotted (signal_of i)), same_refl (active_of i)))

pub one_alike : (mem : Bytes) (t : Few Isolation) (i j : ℕ) → i ≡ j → true ≡ are_alike (strategy_at mem t i) (strategy_at mem t j)
one_alike mem t i j e = rw e (self_alike (strategy_at mem t j))

pub ruleset alikes = (rules, one_alike)
