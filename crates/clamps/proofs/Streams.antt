-- Loops over what is left of a string or a name, in lower case. Each law is stated as a loop's needs ask it. Assumes nothing.
use Rattle.std.specs.Prelude.{Option, Some, None}
use Prim.Native.Nat.{ℕ, ◌+◌, ◌-◌, ◌≤◌, ◌<◌, ◌^◌}
use native.Mathlib.Omega.{arith}
use mathlib.Core.Path.{◌≡◌, sym, ◌∙◌}
use mathlib.Core.Bool.{Bool, true, false, ◌&&◌}
use lib.Dec.{leb}
use lib.ListN.{length, drop, get_or, drop_of_length-le}
use borrow.Author.Rules.{rules}
use borrow.Author.Tests.{eq-eqb, ne_eqb, leb-true}
use Rattle.text.specs.Ascii.{Bytes, ascii, byte}
use Rattle.text.specs.Compare.{same}
use Rattle.text.specs.Lists.{here}
use Rattle.text.specs.Sames.{both}
use Rattle.out.specs.Emit.{Out, emit, emit1}
use Rattle.names.specs.Name.{named, name_of, step_of}
use Rattle.names.specs.declared.name.Form.TheVariants.{Word}
use Rattle.names.specs.declared.name.Name.{Name}
use Rattle.names.specs.Laws.{shorter}
use Rattle.model.specs.Commands.{or_else}
use Rattle.store.specs.Strings.{string, maybe_of, span_of}
use Rattle.store.specs.declared.stored.Stored.{Stored}
use Rattle.spans.specs.Span.{◌⋯◌, bytes, got_of}
use Rattle.spans.specs.declared.span.Span.{Span}
use Rattle.texts.specs.declared.Literal.{Literal}
use Rattle.texts.specs.Isolation.{lower, lowered, is_outputs}
use Rattle.clamps.specs.Values.{stored_name, clamp_literal, is_low, active_literal}

-- ---- a byte in lower case

module _ (b : ℕ) (h : leb (byte "A") b && leb b (byte "Z") ≡ true) where
  pub lower_fits : b + 32 < 2 ^ 8
  lower_fits = omega (arith, leb-true b (byte "Z") (both (leb (byte "A") b) (leb b (byte "Z")) h).1)

  pub lower_letter : b + 32 ≡ lower b
  lower_letter =
      let l : byte "A" ≤ b = leb-true (byte "A") b (both (leb (byte "A") b) (leb b (byte "Z")) h).0 in
      let e : byte "a" + (b - byte "A") ≡ b + 32 = omega (arith, l) in
      sym (rw h e)

pub lower_other : (b : ℕ) → leb (byte "A") b && leb b (byte "Z") ≡ false → b ≡ lower b
lower_other b h = sym (rw h)

pub ruleset lowers = (rules, lower_fits, lower_letter, lower_other)

-- ---- whether one is s

pub record Lows (mem s : Bytes) (t : Bool) (x : Span) (i : ℕ) : Type 0 where
  pub keeps : same (lowered (bytes mem x)) (drop i s) ≡ t

module _ (mem s : Bytes) (t : Bool) (x : Span) (i : ℕ) (inv : Lows mem s t x i) (p : Option (ℕ × Span)) (e : bytes mem x ≡ got_of mem p) where
  pub lows_short : p ≡ None → i < length s → false ≡ t
  unfolding same
  lows_short h l = rw (e, h, here s i l) at inv.keeps

  pub lows_end : p ≡ None → length s ≤ i → true ≡ t
  unfolding same
  lows_end h l = rw (e, h, drop_of_length-le s {i = i} l) at inv.keeps

  module _ (a : ℕ) (u : Span) (h : p ≡ Some (a, u)) where
    pub lows_long : length s ≤ i → false ≡ t
    unfolding same
    lows_long l = rw (e, h, drop_of_length-le s {i = i} l) at inv.keeps

    module _ (d : ℕ) (f : d ≡ lower a) (l : i < length s) where
      pub lows_stop : (d ≡ get_or s i 0 → ⊥) → false ≡ t
      unfolding same
      lows_stop z = rw (e, h, ← f, here s i l, ne_eqb d (get_or s i 0) z) at inv.keeps

      pub lows_next : d ≡ get_or s i 0 → Lows mem s t u (i + 1)
      unfolding same
      lows_next z = record { keeps = rw (e, h, ← f, here s i l, eq-eqb d (get_or s i 0) z) at inv.keeps }

pub ruleset lows = (rules, lows_short, lows_end, lows_long, lows_stop, lows_next)

-- ---- one is written

pub record Puts (mem : Bytes) (w o : Out) (x : Name) : Type 0 where
  pub keeps : emit o (lowered (name_of mem x)) ≡ w

module _ (mem : Bytes) (w o : Out) (x : Name) (inv : Puts mem w o x) (p : Option (ℕ × Name)) (e : name_of mem x ≡ step_of mem p) where
  pub puts_end : p ≡ None → o ≡ w
  unfolding emit
  puts_end h = rw (e, h) at inv.keeps

  pub puts_step : (b d : ℕ) (u : Name) (o' : Out) → p ≡ Some (b, u) → d ≡ lower b → o' ≡ emit1 o d → Puts mem w o' u
  unfolding emit
  puts_step b d u o' h f g = record { keeps = rw (g, f) (rw (e, h) at inv.keeps) }

pub ruleset puts = (rules, shorter, puts_end, puts_step)

-- ---- the values

pub stored_named : (s : Stored) (w : Span) (r : Name) → w ≡ span_of s → r ≡ named (0 ⋯ 0) false w Word → r ≡ stored_name s
stored_named s w r e f = rw (f, e)

module _ (mem : Bytes) where
  -- a string was asked
  pub asked : (s : Stored) (v : Span) (w : Bytes) (b : Bool) → v ≡ span_of s → b ≡ same (lowered (bytes mem v)) w → b ≡ same (lowered (string mem s)) w
  asked s v w b e h = h ∙ rw e

  pub clamp_none : (m : Option Stored) → m ≡ None → Some Literal.Zero ≡ clamp_literal (lowered (or_else (maybe_of mem m) (ascii "0")))
  unfolding clamp_literal same
  clamp_none m h = rw h

  pub clamp_given : (m : Option Stored) (s : Stored) (r : Option Literal) → m ≡ Some s → r ≡ clamp_literal (lowered (string mem s)) → r ≡ clamp_literal (lowered (or_else (maybe_of mem m) (ascii "0")))
  clamp_given m s r h e = rw h e

  pub active_none : (m : Option Stored) → m ≡ None → false ≡ is_low (lowered (or_else (maybe_of mem m) (ascii "high")))
  unfolding is_low same
  active_none m h = rw h

  pub active_given : (m : Option Stored) (s : Stored) (r : Bool) → m ≡ Some s → r ≡ is_low (lowered (string mem s)) → r ≡ is_low (lowered (or_else (maybe_of mem m) (ascii "high")))
  active_given m s r h e = rw h e

  pub outputs_none : (m : Option Stored) → m ≡ None → true ≡ is_outputs (or_else (maybe_of mem m) (ascii "outputs"))
  unfolding same
  outputs_none m h = rw h

  pub outputs_given : (m : Option Stored) (s : Stored) (r : Bool) → m ≡ Some s → r ≡ is_outputs (string mem s) → r ≡ is_outputs (or_else (maybe_of mem m) (ascii "outputs"))
  outputs_given m s r h e = rw h e

  pub outputs_first : (s : Stored) (x : Span) (b : Bool) → x ≡ span_of s → b ≡ same (bytes mem x) (ascii "outputs") → b ≡ true → true ≡ is_outputs (string mem s)
  outputs_first s x b e f h = let g : same (string mem s) (ascii "outputs") ≡ true = sym (rw e at f) ∙ h in sym (rw g)

  pub outputs_second : (s : Stored) (x y : Span) (b r : Bool) → x ≡ span_of s → b ≡ same (bytes mem x) (ascii "outputs") → b ≡ false → y ≡ span_of s → r ≡ same (bytes mem y) (ascii "both") → r ≡ is_outputs (string mem s)
  outputs_second s x y b r e f h d g =
      let k : same (string mem s) (ascii "outputs") ≡ false = sym (rw e at f) ∙ h in
      rw k (rw d at g)

  -- the ladders
  module _ (s : Stored) (v : Span) (b : Bool) (e : v ≡ span_of s) where
    pub told_zero : b ≡ same (lowered (bytes mem v)) (ascii "0") → b ≡ true → Some Literal.Zero ≡ clamp_literal (lowered (string mem s))
    unfolding clamp_literal
    told_zero f h = let g : same (lowered (string mem s)) (ascii "0") ≡ true = sym (asked s v (ascii "0") b e f) ∙ h in rw g

    pub told_low : b ≡ same (lowered (bytes mem v)) (ascii "low") → b ≡ is_low (lowered (string mem s))
    unfolding is_low
    told_low f = asked s v (ascii "low") b e f

    module _ (f : b ≡ same (lowered (bytes mem v)) (ascii "0")) (h : b ≡ false) (b2 : Bool) (f2 : b2 ≡ same (lowered (bytes mem v)) (ascii "1")) where
      g1 : same (lowered (string mem s)) (ascii "0") ≡ false
      g1 = sym (asked s v (ascii "0") b e f) ∙ h

      pub told_one : b2 ≡ true → Some Literal.One ≡ clamp_literal (lowered (string mem s))
      unfolding clamp_literal
      told_one h2 = let g : same (lowered (string mem s)) (ascii "1") ≡ true = sym (asked s v (ascii "1") b2 e f2) ∙ h2 in rw (g1, g)

      module _ (h2 : b2 ≡ false) (b3 : Bool) (f3 : b3 ≡ same (lowered (bytes mem v)) (ascii "z")) where
        g2 : same (lowered (string mem s)) (ascii "1") ≡ false
        g2 = sym (asked s v (ascii "1") b2 e f2) ∙ h2

        pub told_z : b3 ≡ true → Some Literal.Z ≡ clamp_literal (lowered (string mem s))
        unfolding clamp_literal
        told_z h3 = let g : same (lowered (string mem s)) (ascii "z") ≡ true = sym (asked s v (ascii "z") b3 e f3) ∙ h3 in rw (g1, g2, g)

        pub told_none : b3 ≡ false → None ≡ clamp_literal (lowered (string mem s))
        unfolding clamp_literal
        told_none h3 = let g : same (lowered (string mem s)) (ascii "z") ≡ false = sym (asked s v (ascii "z") b3 e f3) ∙ h3 in rw (g1, g2, g)

pub ruleset tolds = (rules, told_zero, told_low, told_one, told_z, told_none)

pub ruleset values = (rules, stored_named, clamp_none, clamp_given, active_none, active_given, outputs_none, outputs_given, outputs_first, outputs_second)

module _ (low : Bool) where
  pub active_low : low ≡ true → Literal.BitZero ≡ active_literal low
  active_low h = rw h

  pub active_high : low ≡ false → Literal.BitOne ≡ active_literal low
  active_high h = rw h

pub ruleset actives = (rules, active_low, active_high)
