-- Laws: what a NAME is made of, for whoever has one.
-- Assumes nothing.
use Rattle.std.specs.Prelude.{◌≡◌, ℕ, suc, ◌≤◌, ◌<◌, Bool, ◌&&◌, ◌||◌, [], ◌∷◌, length, leb, ltb, eqb}
use Rattle.std.proofs.Math.Path.{refl}
use Rattle.std.proofs.Common.{ap, ◌∙◌, sym, arith, leb-true, ltb-true, ne_eqb}
use Rattle.std.proofs.Math.Bool.{true, false}
use Rattle.text.specs.Ascii.{Bytes, byte}
use Rattle.text.specs.Classes.{is_letter, is_digit, opens_name, in_name}
use Rattle.text.specs.Compare.{same}
use Rattle.text.specs.Scan.{before, up_to, all}
use Rattle.text.specs.Sames.{both, no_true, same_eq}
use Rattle.fields.specs.Fields.{is_name, is_net}

opened : (x : ℕ) → opens_name x ≡ true → in_name x ≡ true
opened x = go (is_letter x) (eqb x (byte "_")) (is_digit x) (eqb x (byte "$"))
  where
    go : (l u d s : Bool) → l || u ≡ true → ((l || d) || u) || s ≡ true
    go true u d s h = refl
    go false true true s h = refl
    go false true false s h = refl
    go false false d s h = absurd (no_true h)

-- every byte of a NAME is a letter, a digit, `_` or `$`
pub name_bytes : (w : Bytes) → is_name w ≡ true → all in_name w ≡ true
unfolding is_name all
name_bytes [] h = refl
name_bytes (x ∷ xs) h =
    let b = both (opens_name x) (all in_name xs && leb (suc (length xs)) 64) h in
    rw (opened x b.0) (both (all in_name xs) (leb (suc (length xs)) 64) b.1).0

-- it has 1 to 64 bytes
pub name_some : (w : Bytes) → is_name w ≡ true → 0 < length w
unfolding is_name
name_some [] h = absurd (no_true h)
name_some (x ∷ xs) h = omega arith

pub name_short : (w : Bytes) → is_name w ≡ true → length w ≤ 64
unfolding is_name
name_short [] h = absurd (no_true h)
name_short (x ∷ xs) h =
    let b = both (opens_name x) (all in_name xs && leb (suc (length xs)) 64) h in
    leb-true (suc (length xs)) 64 (both (all in_name xs) (leb (suc (length xs)) 64) b.1).1

-- a byte that no NAME has
pub all_without : (b : ℕ) (w : Bytes) → in_name b ≡ false → all in_name w ≡ true → up_to b w ≡ length w
unfolding all before
all_without b [] n h = refl
all_without b (x ∷ xs) n h =
    let t = both (in_name x) (all in_name xs) h in
    rw (ne_eqb x b (λ (e : x ≡ b). no_true (sym n ∙ (rw e at t.0)))) (ap suc (all_without b xs n t.1))

pub name_without : (b : ℕ) (w : Bytes) → in_name b ≡ false → is_name w ≡ true → up_to b w ≡ length w
name_without b w n h = all_without b w n (name_bytes w h)

-- so that what has the byte is no NAME, and no NET
module _ (b : ℕ) (w : Bytes) (n : in_name b ≡ false) (h : ltb (up_to b w) (length w) ≡ true) where
  pub name_not_with : is_name w ≡ false
  name_not_with = go (is_name w) refl
    where
      go : (q : Bool) → is_name w ≡ q → is_name w ≡ false
      go false e = e
      go true e = absurd (omega (arith, ltb-true (up_to b w) (length w) h, name_without b w n e))

  pub net_not_with : up_to b (byte "-" ∷ []) ≡ 1 → is_net w ≡ false
  unfolding is_net
  net_not_with d = rw name_not_with (go (same w (byte "-" ∷ [])) refl)
    where
      go : (q : Bool) → same w (byte "-" ∷ []) ≡ q → q ≡ false
      go false e = refl
      go true e = let z = rw (same_eq w (byte "-" ∷ []) e, d) at (ltb-true (up_to b w) (length w) h) in absurd (omega arith)
