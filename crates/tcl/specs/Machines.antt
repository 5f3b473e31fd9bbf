-- Laws: the machine that finds where a word ends (the invariant keeps the answer a), and what begins with a byte. Assumes nothing.
use Rattle.std.specs.Prelude.{◌+◌, ◌<◌, ◌≤◌, suc, ℕ, List, [], ◌∷◌, ◌≡◌, refl, Bool, cond, false, true, ◌&&◌, ◌||◌, drop, get_or, length, eqb}
use Rattle.std.proofs.Common.{◌∙◌, add-zero, drop_of_length-le}
use Rattle.std.proofs.Math.Path.{sym}
use native.Mathlib.Omega.{arith}
use borrow.Author.Tests.{eq-eqb, ne_eqb, eqb-true}
use Rattle.text.specs.Scan.{Ends}
use Rattle.tcl.specs.Words.{span, kind_of, Kind}
use Rattle.text.specs.Lists.{here}
use Rattle.text.specs.Ascii.{byte}
use Rattle.text.specs.Classes.{ends_plain, within}
use Rattle.text.specs.Sames.{no_true}

-- a record, and no bare equation, so that `search` is quick to find it
pub record Spans (next : ℕ → ℕ → ℕ) (s : List ℕ) (a i d : ℕ) : Type 0 where
  pub keeps : a ≡ i + span next d (drop i s)

-- `d'` is the machine's state after the byte at i
module _ (next : ℕ → ℕ → ℕ) (s : List ℕ) (i a d : ℕ) (inv : Spans next s a i d) where
  pub span_end_lem : length s ≤ i → i ≤ length s → Ends a (length s) i
  unfolding span
  span_end_lem h g = record { is_at = sym (inv.keeps ∙ rw (drop_of_length-le s h, add-zero)); within = g }

  -- all of it is passed
  pub span_all : length s ≤ i → i ≤ length s → Ends a (length s) (length s)
  span_all h g = let e : i ≡ length s = omega arith in rw e at (span_end_lem h g)

  pub span_stop : (d' : ℕ) → d' ≡ 0 → d' ≡ next d (get_or s i 0) → i < length s → Ends a (length s) i
  unfolding span
  span_stop d' t e h = record { is_at = sym (inv.keeps ∙ rw (here s i h, ← e, eq-eqb d' 0 t, add-zero)); within = omega arith }

  module _ (d' : ℕ) (h : i < length s) (e : d' ≡ next d (get_or s i 0)) where
    pub span_step : (d' ≡ 0 → ⊥) → Spans next s a (i + 1) d'
    unfolding span
    span_step t = record { keeps = inv.keeps ∙ rw (here s i h, ← e, ne_eqb d' 0 t) (omega arith) }

-- it passes no more bytes than there are
pub span_le : (next : ℕ → ℕ → ℕ) (d : ℕ) (s : List ℕ) → span next d s ≤ length s
unfolding span
span_le next d [] = omega arith
span_le next d (x ∷ xs) = go (eqb (next d x) 0) (span_le next (next d x) xs)
  where
    go : (t : Bool) → span next (next d x) xs ≤ length xs → cond t 0 (suc (span next (next d x) xs)) ≤ suc (length xs)
    go true h = omega arith
    go false h = omega arith

-- a byte that ends no plain word begins a word: which one
pub word_kind : (x : ℕ) → ends_plain x ≡ false → kind_of false x ≡ cond (eqb x (byte "{")) Kind.brace (cond (eqb x (byte "\"")) Kind.quote (cond (eqb x (byte "[")) Kind.bracket Kind.other))
unfolding kind_of
word_kind x h =
    go (within 9 13 x) (eqb x 32) (eqb x (byte ";")) (eqb x (byte "\n")) (λ e. space x e) h
  where
    -- LF is white space
    space : (x : ℕ) → eqb x (byte "\n") ≡ true → within 9 13 x ≡ true
    space x e = let g : x ≡ 10 = eqb-true x 10 e in rw g

    go : (a b c d : Bool) → (d ≡ true → a ≡ true) → (a || b) || c ≡ false
        → cond (d || c) Kind.ends (cond (a || b) Kind.blank (cond (eqb x (byte "#") && false) Kind.comment (cond (eqb x (byte "{")) Kind.brace (cond (eqb x (byte "\"")) Kind.quote (cond (eqb x (byte "[")) Kind.bracket Kind.other)))))
        ≡ cond (eqb x (byte "{")) Kind.brace (cond (eqb x (byte "\"")) Kind.quote (cond (eqb x (byte "[")) Kind.bracket Kind.other))
    go true b c d e g = absurd (no_true (sym g))
    go false true c d e g = absurd (no_true (sym g))
    go false false true d e g = absurd (no_true (sym g))
    go false false false true e g = absurd (no_true (e refl))
    go false false false false e g = hash (eqb x (byte "#"))
      where
        hash : (t : Bool) → cond (t && false) Kind.comment (cond (eqb x (byte "{")) Kind.brace (cond (eqb x (byte "\"")) Kind.quote (cond (eqb x (byte "[")) Kind.bracket Kind.other))) ≡ cond (eqb x (byte "{")) Kind.brace (cond (eqb x (byte "\"")) Kind.quote (cond (eqb x (byte "[")) Kind.bracket Kind.other))
        hash true = refl
        hash false = refl
