-- What a byte becomes, as the writers ask it: o' is what the one call of a way left. Assumes nothing.
use Prim.Native.Nat.{ℕ}
use Rattle.std.specs.Prelude.{Option, Some, None}
use mathlib.Core.Path.{◌≡◌, sym, ap, ◌∙◌}
use mathlib.Core.Bool.{Bool, true, false}
use mathlib.Core.List.{[], ◌∷◌}
use lib.ListN.{get_or}
use Rattle.std.proofs.Common.{Bor}
use borrow.Author.Rules.{rules}
use borrow.Author.Tests.{eq-eqb, ne_eqb}
use Rattle.text.specs.Ascii.{Bytes}
use Rattle.text.specs.Classes.{is_alnum}
use Rattle.out.specs.Emit.{Out, emit, emit1}
use Rattle.out.specs.Bytewise.{flat, mangled_byte, dotted_byte, sv_byte, becomes, flat_same}
use Rattle.out.specs.declared.bytewise.Mode.{Mode}
use Rattle.out.specs.Fill.{pick, arg, asked}
use Rattle.out.specs.Marks.{arg_named, arg_unnamed, asked_low, pick_of}
use Rattle.out.specs.Items.{unless}

module _ (o o' : Out) (b : ℕ) where
  module _ (f : Bool) (g : f ≡ is_alnum b) where
    pub mangled_kept : f ≡ true → o' ≡ emit1 o b → o' ≡ emit o (mangled_byte b)
    unfolding mangled_byte emit
    mangled_kept t e = rw (← g, t) e

    pub mangled_lost : f ≡ false → o' ≡ emit1 o 95 → o' ≡ emit o (mangled_byte b)
    unfolding mangled_byte emit
    mangled_lost t e = rw (← g, t) e

  pub dotted_slash : b ≡ 47 → o' ≡ emit1 o 46 → o' ≡ emit o (dotted_byte b)
  unfolding dotted_byte emit
  dotted_slash t e = rw (eq-eqb b 47 t) e

  pub dotted_other : (b ≡ 47 → ⊥) → o' ≡ emit1 o b → o' ≡ emit o (dotted_byte b)
  unfolding dotted_byte emit
  dotted_other t e = rw (ne_eqb b 47 t) e

  pub sv_back : b ≡ 92 → o' ≡ emit o (92 ∷ 92 ∷ []) → o' ≡ emit o (sv_byte b)
  unfolding sv_byte
  sv_back t e = rw (eq-eqb b 92 t) e

  pub sv_quote : (b ≡ 92 → ⊥) → b ≡ 34 → o' ≡ emit o (92 ∷ 34 ∷ []) → o' ≡ emit o (sv_byte b)
  unfolding sv_byte
  sv_quote u t e = rw (ne_eqb b 92 u, eq-eqb b 34 t) e

  pub sv_other : (b ≡ 92 → ⊥) → (b ≡ 34 → ⊥) → o' ≡ emit1 o b → o' ≡ emit o (sv_byte b)
  unfolding sv_byte emit
  sv_other u t e = rw (ne_eqb b 92 u, ne_eqb b 34 t) e

  module _ (m : Mode) where
    pub becomes_same : m ≡ Mode.Same → o' ≡ emit1 o b → o' ≡ emit o (becomes m b)
    unfolding becomes emit
    becomes_same t e = rw t e

    pub becomes_mangled : m ≡ Mode.Mangled → o' ≡ emit o (mangled_byte b) → o' ≡ emit o (becomes m b)
    unfolding becomes
    becomes_mangled t e = rw t e

    pub becomes_dotted : m ≡ Mode.Dotted → o' ≡ emit o (dotted_byte b) → o' ≡ emit o (becomes m b)
    unfolding becomes
    becomes_dotted t e = rw t e

    pub becomes_sv : m ≡ Mode.Quoted → o' ≡ emit o (sv_byte b) → o' ≡ emit o (becomes m b)
    unfolding becomes
    becomes_sv t e = rw t e

pub ruleset bytewise = (rules, mangled_kept, mangled_lost, dotted_slash, dotted_other, sv_back, sv_quote, sv_other, becomes_mangled, becomes_dotted, becomes_sv, becomes_same)

-- ---- joining

module _ (o o' : Out) (i : ℕ) (s : Bytes) where
  pub unless_none : i ≡ 0 → o ≡ emit o (unless i s)
  unfolding unless emit
  unless_none t = rw (eq-eqb i 0 t)

  pub unless_some : (i ≡ 0 → ⊥) → o' ≡ emit o s → o' ≡ emit o (unless i s)
  unfolding unless
  unless_some t e = rw (ne_eqb i 0 t) e

pub ruleset unlesses = (rules, unless_none, unless_some)

-- ---- the argument of a letter

pub arg_none : (o : Out) (a b c d e : Bytes) (k : ℕ) (q : Option (Mode × ℕ)) → q ≡ asked k → q ≡ None → o ≡ emit o (arg a b c d e k)
unfolding emit
arg_none o a b c d e k q h n = rw (arg_unnamed a b c d e k (sym h ∙ n))

module _ (o o' : Out) (k : ℕ) (q : Option (Mode × ℕ)) (eq : q ≡ asked k) (m : Mode) (j : ℕ) (eq' : q ≡ Some (m, j)) (a b c d e z : Bor Bytes) where
  one_of_five : (get_or (a ∷ b ∷ c ∷ d ∷ e ∷ []) j z).now ≡ pick j a.now b.now c.now d.now e.now
  one_of_five = pick_of (λ (r : Bor Bytes). r.now) a b c d e z j (asked_low k m j (sym eq ∙ eq'))

  pub arg_flat : o' ≡ emit o (flat (becomes m) (get_or (a ∷ b ∷ c ∷ d ∷ e ∷ []) j z).now) → o' ≡ emit o (arg a.now b.now c.now d.now e.now k)
  arg_flat w = w ∙ ap (emit o) (ap (flat (becomes m)) one_of_five ∙ sym (arg_named a.now b.now c.now d.now e.now k m j (sym eq ∙ eq')))

  pub arg_same : m ≡ Mode.Same → o' ≡ emit o (get_or (a ∷ b ∷ c ∷ d ∷ e ∷ []) j z).now → o' ≡ emit o (arg a.now b.now c.now d.now e.now k)
  arg_same h w = arg_flat (rw (h, flat_same) w)
