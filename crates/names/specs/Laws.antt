-- Laws: a text with `/` as `.`, byte by byte, names that are words, and what is left of a name. Assumes nothing.
use Rattle.std.specs.Prelude.{Option, Some}
use Rattle.std.specs.Prelude.{ℕ, ◌<◌, ◌≡◌, refl, Bool, true, false, cond, not, [], ◌∷◌, ◌++◌, map, eqb, length}
use Rattle.std.proofs.Common.{ap, sym, arith, eqb-true, eq-eqb, ne_eqb}
use Rattle.text.specs.Ascii.{Bytes, byte}
use Rattle.text.specs.Classes.{dot_of}
use Rattle.text.specs.Sames.{both, no_true}
use Rattle.out.specs.Bytewise.{flat, dotted_byte, dotted}
use Rattle.spans.specs.Span.{bytes}
use Rattle.names.specs.Name.{name_of, stands, is_word, step_of}
use Rattle.names.specs.declared.name.Name.{Name}
use Rattle.names.specs.declared.name.Form.{Form}
use Rattle.names.specs.declared.name.Form.TheVariants.{Word, Entry, Quoted}

pub dot_slash : (b : ℕ) → b ≡ byte "/" → byte "." ≡ dot_of b
dot_slash b h = sym (rw (eq-eqb b (byte "/") h))

pub dot_other : (b : ℕ) → (b ≡ byte "/" → ⊥) → b ≡ dot_of b
dot_other b h = sym (rw (ne_eqb b (byte "/") h))

pub dotted_step : (b : ℕ) (p : Bytes) → dotted (b ∷ p) ≡ dot_of b ∷ dotted p
unfolding flat dotted_byte
dotted_step b p = go (eqb b (byte "/"))
  where
    go : (t : Bool) → cond t (byte "." ∷ []) (b ∷ []) ++ flat dotted_byte p ≡ cond t (byte ".") b ∷ flat dotted_byte p
    go true = refl
    go false = refl

pub dotted_none : dotted [] ≡ []
unfolding flat
dotted_none = refl

-- the same as a map
pub dotted_map : (p : Bytes) → dotted p ≡ map dot_of p
dotted_map [] = dotted_none
dotted_map (b ∷ p) = rw (dotted_step b p) (ap (λ (r : Bytes). dot_of b ∷ r) (dotted_map p))

pub stands_word : (f : Form) → stands f ≡ true → f ≡ Word
stands_word Word h = refl
stands_word Entry h = absurd (no_true h)
stands_word Quoted h = absurd (no_true h)

pub word_is : (mem : Bytes) (n : Name) → is_word n ≡ true → name_of mem n ≡ bytes mem n.word
unfolding name_of bytes
word_is mem n h =
    let a = both (eqb n.scope.len 0) _ h in
    let b = both (not n.sep) (stands n.form) a.1 in
    let e : n.scope.len ≡ 0 = eqb-true _ _ a.0 in
    rw (e, no_is n.sep b.0, stands_word n.form b.1)
  where
    no_is : (b : Bool) → not b ≡ true → b ≡ false
    no_is true g = absurd (no_true g)
    no_is false g = refl

-- what is left behind the first byte is shorter
pub shorter : (mem : Bytes) (x u : Name) (p : Option (ℕ × Name)) (b : ℕ) → name_of mem x ≡ step_of mem p → p ≡ Some (b, u) → length (name_of mem u) < length (name_of mem x)
shorter mem x u p b e h = rw (e, h) (omega arith)
