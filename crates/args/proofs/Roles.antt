-- What a word is, and what stands behind it: laws as the needs ask them. Assumes nothing.
use Rattle.std.specs.Prelude.{Option, Some, None}
use Prim.Native.Nat.{ℕ, ◌+◌, ◌-◌, ◌≤◌, ◌<◌}
use mathlib.Core.Path.{◌≡◌, refl, ◌∙◌}
use mathlib.Core.Bool.{Bool, true, false, cond, not}
use mathlib.Core.List.{List, [], ◌∷◌}
use native.Mathlib.Omega.{arith}
use borrow.Author.Rules.{rules}
use borrow.Author.Tests.{ne_eqb}
use Rattle.text.specs.Ascii.{Bytes, byte}
use Rattle.text.specs.Classes.{is_digit}
use Rattle.spans.specs.Span.{bytes, got_of, pair_at}
use Rattle.spans.specs.declared.span.Span.{Span}
use Rattle.tcl.specs.Arguments.{is_option, with_value, role_of}
use Rattle.tcl.specs.Arguments as arguments
use Rattle.args.specs.View.{words_from, role_as}
use Rattle.args.specs.Laws.{words_none, words_here}
use Rattle.args.specs.declared.role.Role.{Role}

-- ---- whether a word is like an option

module _ (mem w : Bytes) (p : Option (ℕ × Span)) (e : w ≡ got_of mem p) where
  pub no_byte : p ≡ None → false ≡ is_option w
  unfolding is_option
  no_byte h = rw (e, h)

  module _ (a : ℕ) (t : Span) (h : p ≡ Some (a, t)) where
    pub other_byte : (a ≡ byte "-" → ⊥) → false ≡ is_option w
    unfolding is_option
    other_byte g = rw (e, h) (go (bytes mem t))
      where
        go : (v : Bytes) → false ≡ is_option (a ∷ v)
        go [] = refl
        go (y ∷ v) = rw (ne_eqb a (byte "-") g)

    module _ (m : a ≡ byte "-") (q : Option (ℕ × Span)) (f : bytes mem t ≡ got_of mem q) where
      pub one_byte : q ≡ None → false ≡ is_option w
      unfolding is_option
      one_byte g = rw (e, h, f, g)

      pub two_bytes : (b : ℕ) (u : Span) (d : Bool) → q ≡ Some (b, u) → d ≡ is_digit b → not d ≡ is_option w
      unfolding is_option
      two_bytes b u d g i = rw (e, h, f, g, i, m)

pub ruleset optionals = (rules, no_byte, other_byte, one_byte, two_bytes)

-- ---- what it is

module _ (mem : Bytes) (words : List ℕ) (n i : ℕ) where
  pub last_word : (m : ℕ) → m ≡ n - i → m ≤ 1 → with_value (words_from mem words n (i + 1)) ≡ arguments.Role.flag
  last_word m e h = rw (words_none mem words n (i + 1) (omega arith))

  module _ (m : ℕ) (e : m ≡ n - i) (h : 1 < m) (s : Span) (z : s ≡ pair_at words (i + 1)) (o : Bool) (f : o ≡ is_option (bytes mem s)) where
    behind : with_value (words_from mem words n (i + 1)) ≡ cond o arguments.Role.flag (arguments.Role.option (bytes mem (pair_at words (i + 1))))
    behind = rw (words_here mem words n (i + 1) (omega arith), f, z)

    pub no_value : o ≡ true → with_value (words_from mem words n (i + 1)) ≡ arguments.Role.flag
    no_value t = behind ∙ rw t

    pub a_value : o ≡ false → with_value (words_from mem words n (i + 1)) ≡ arguments.Role.option (bytes mem (pair_at words (i + 1)))
    a_value t = behind ∙ rw t

  module _ (s : Span) (z : s ≡ pair_at words i) (o : Bool) (f : o ≡ is_option (bytes mem s)) where
    pub role_none : o ≡ false → role_of (bytes mem (pair_at words i)) (words_from mem words n (i + 1)) ≡ arguments.Role.positional
    unfolding role_of
    role_none t = rw (← z, ← f, t)

    pub role_some : (r : Role) → o ≡ true → with_value (words_from mem words n (i + 1)) ≡ role_as (bytes mem (pair_at words (i + 1))) r → role_of (bytes mem (pair_at words i)) (words_from mem words n (i + 1)) ≡ role_as (bytes mem (pair_at words (i + 1))) r
    unfolding role_of
    role_some r t g = rw (← z, ← f, t) g

pub ruleset values = (rules, last_word, no_value, a_value)

pub ruleset roles = (rules, role_none, role_some)
