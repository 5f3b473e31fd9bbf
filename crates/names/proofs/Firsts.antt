-- The first byte of a word or an entry and of a name, and a name below a scope: laws as the needs ask them. Assumes nothing.
use Rattle.std.specs.Prelude.{Option, Some, None}
use Prim.Native.Nat.{ℕ}
use mathlib.Core.Path.{◌≡◌, refl, sym, ◌∙◌}
use mathlib.Core.Bool.{Bool, true, false, ◌&&◌}
use mathlib.Core.List.{[], ◌∷◌, ◌++◌}
use native.Mathlib.Omega.{arith}
use lib.Dec.{eqb}
use borrow.Author.Rules.{rules}
use borrow.Author.Tests.{eq-eqb, ne_eqb}
use Rattle.text.specs.Ascii.{Bytes, ascii, byte}
use Rattle.text.specs.Compare.{same}
use Rattle.text.specs.Sames.{no_true}
use Rattle.spans.specs.Span.{◌⋯◌, bytes, got_of}
use Rattle.spans.specs.declared.span.Span.{Span}
use Rattle.entries.specs.Entry.{entry_bytes}
use Rattle.entries.specs.View.{entry_got}
use Rattle.names.specs.Scoped.{scoped}
use Rattle.names.specs.Name.{named, entry_of, stands, quotes, slash, name_of, form_got, step_of, Makes}
use Rattle.names.specs.declared.name.Name.{Name}
use Rattle.names.specs.declared.name.Form.{Form}
use Rattle.names.specs.declared.name.Form.TheVariants.{Word, Entry, Quoted}

-- ---- a word or an entry

module _ (mem : Bytes) (s : Span) (form : Form) where
  pub formed_plain : (r : Option (ℕ × Span)) → bytes mem s ≡ got_of mem r → form ≡ Word → entry_of form (bytes mem s) ≡ form_got form mem r
  formed_plain (Some (b, t)) e h = rw h e
  formed_plain None e h = rw h e

  pub formed_entry : (r : Option (ℕ × Span)) → entry_bytes false (bytes mem s) ≡ entry_got false mem r → form ≡ Entry → entry_of form (bytes mem s) ≡ form_got form mem r
  formed_entry (Some (b, t)) e h = rw h e
  formed_entry None e h = rw h e

  pub formed_quoted : (r : Option (ℕ × Span)) → entry_bytes true (bytes mem s) ≡ entry_got true mem r → form ≡ Quoted → entry_of form (bytes mem s) ≡ form_got form mem r
  formed_quoted (Some (b, t)) e h = rw h e
  formed_quoted None e h = rw h e

-- the same by a test, t, and where it fails by another, q
pub formed_first : (mem : Bytes) (s : Span) (form : Form) (t : Bool) (r : Option (ℕ × Span)) → t ≡ stands form → t ≡ true → bytes mem s ≡ got_of mem r → entry_of form (bytes mem s) ≡ form_got form mem r
formed_first mem s Word t (Some (b, u)) e h g = g
formed_first mem s Word t None e h g = g
formed_first mem s Entry t r e h g = absurd (no_true (sym e ∙ h))
formed_first mem s Quoted t r e h g = absurd (no_true (sym e ∙ h))

pub formed_listed : (mem : Bytes) (s : Span) (form : Form) (t q : Bool) (r : Option (ℕ × Span)) → t ≡ stands form → t ≡ false → q ≡ quotes form → entry_bytes q (bytes mem s) ≡ entry_got q mem r → entry_of form (bytes mem s) ≡ form_got form mem r
formed_listed mem s Word t q r e h k g = absurd (no_true (sym h ∙ e))
formed_listed mem s Entry t q (Some (b, u)) e h k g = rw k at g
formed_listed mem s Entry t q None e h k g = rw k at g
formed_listed mem s Quoted t q (Some (b, u)) e h k g = rw k at g
formed_listed mem s Quoted t q None e h k g = rw k at g

pub ruleset formed = (rules, formed_first, formed_listed)

-- ---- a name

module _ (mem : Bytes) (n : Name) where
  pub sep_byte : n.sep ≡ true → slash n.sep ++ entry_of n.form (bytes mem n.word) ≡ byte "/" ∷ name_of mem (named (0 ⋯ 0) false n.word n.form)
  unfolding name_of bytes
  sep_byte h = rw h

  module _ (p : Option (ℕ × Span)) (e : entry_of n.form (bytes mem n.word) ≡ form_got n.form mem p) where
    pub word_byte : (b : ℕ) (t : Span) → p ≡ Some (b, t) → n.sep ≡ false → slash n.sep ++ entry_of n.form (bytes mem n.word) ≡ b ∷ name_of mem (named (0 ⋯ 0) false t n.form)
    unfolding name_of bytes
    word_byte b t h g = rw (g, e, h)

    pub word_end : p ≡ None → n.sep ≡ false → slash n.sep ++ entry_of n.form (bytes mem n.word) ≡ []
    word_end h g = rw (g, e, h)

  module _ (p : Option (ℕ × Span)) (e : bytes mem n.scope ≡ got_of mem p) where
    pub scope_byte : (b : ℕ) (t : Span) → p ≡ Some (b, t) → name_of mem n ≡ b ∷ name_of mem (named t n.sep n.word n.form)
    unfolding name_of
    scope_byte b t h = rw (e, h)

    pub scope_end : (r : Option (ℕ × Name)) → slash n.sep ++ entry_of n.form (bytes mem n.word) ≡ step_of mem r → p ≡ None → name_of mem n ≡ step_of mem r
    unfolding name_of
    scope_end r f h = rw (e, h) f

pub ruleset steps = (rules, sep_byte, word_byte, word_end, scope_byte, scope_end)

-- ---- whether it is `.`

and_true : (t : Bool) → t ≡ t && true
and_true true = refl
and_true false = refl

and_false : (t : Bool) → false ≡ t && false
and_false true = refl
and_false false = refl

module _ (mem w : Bytes) (form : Form) (p : Option (ℕ × Span)) (e : w ≡ form_got form mem p) where
  pub dot_none : p ≡ None → false ≡ same w (ascii ".")
  unfolding same
  dot_none h = rw (e, h)

  module _ (b : ℕ) (t : Span) (h : p ≡ Some (b, t)) (q : Option (ℕ × Span)) (f : entry_of form (bytes mem t) ≡ form_got form mem q) where
    pub dot_one : q ≡ None → eqb b (byte ".") ≡ same w (ascii ".")
    unfolding same
    dot_one g = rw (e, h, f, g) (and_true (eqb b (byte ".")))

    pub dot_more : (c : ℕ) (u : Span) → q ≡ Some (c, u) → false ≡ same w (ascii ".")
    unfolding same
    dot_more c u g = rw (e, h, f, g) (and_false (eqb b (byte ".")))

pub ruleset dots = (rules, dot_none, dot_one, dot_more)

-- ---- a name below a scope

module _ (mem : Bytes) (s w : Span) (form : Form) (t : Bool) (f : t ≡ same (entry_of form (bytes mem w)) (ascii ".")) where
  pub scoped_dot : (r : Name) → r ≡ named (0 ⋯ 0) false s Word → t ≡ true → Makes mem s w form r
  unfolding scoped name_of bytes
  scoped_dot r g h = record { is = rw (← f, h, g); ends = rw g (omega arith) }

  module _ (p : Option (ℕ × Span)) (k : bytes mem s ≡ got_of mem p) (h : t ≡ false) where
    pub scoped_bare : (r : Name) → r ≡ named (0 ⋯ 0) false w form → p ≡ None → Makes mem s w form r
    unfolding scoped name_of bytes
    scoped_bare r e g = record { is = rw (← f, h, k, g, e); ends = rw e (omega arith) }

    pub scoped_under : (b : ℕ) (u : Span) → p ≡ Some (b, u) → Makes mem s w form (named s true w form)
    unfolding scoped name_of
    scoped_under b u g = record { is = rw (← f, h, k, g); ends = omega arith }

pub ruleset scopes = (rules, scoped_dot, scoped_bare, scoped_under)
