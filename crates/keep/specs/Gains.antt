-- What a strategy gains from the ports that it aims at: ports that it keeps, lines of the report, and warnings. Assumes nothing.
use Rattle.std.specs.Prelude.{ℕ, ◌+◌, ◌≤◌, ◌≡◌, refl, Bool, true, false, cond, List, [], ◌∷◌, ◌++◌, length, Option, None, Some}
use Rattle.std.proofs.Common.{arith, sym, ap, ◌∙◌, append_assoc, append-nil, length-append}
use Rattle.text.specs.Ascii.{Bytes}
use Rattle.out.specs.Fill.{format2}
use Rattle.design.specs.Lists.{is_in}
use Rattle.isolated.specs.Table.{Kept, kept, keys_of}

-- a port that is aimed at: its key, and its net below the scope where it has a plain one
pub record Aim : Type 0 where
  pub key : Bytes
  pub net : Option Bytes

-- all ports that are kept then; the lines and the warnings that are new
pub record Gain : Type 0 where
  pub rows : List Kept
  pub report : Bytes
  pub remarks : List Bytes

-- by the ports that are kept already
abbrev pub stay : List Kept → Gain
stay l = record { rows = l; report = []; remarks = [] }

-- one behind the other
abbrev pub behind : Gain → Gain → Gain
behind a b = record { rows = b.rows; report = a.report ++ b.report; remarks = a.remarks ++ b.remarks }

-- the warning about a port without a plain net
abbrev pub not_plain : Bytes → Bytes → Bytes
not_plain name key = format2 "isolation strategy '{0}': port '{1}' actual is not a plain net; not simulated" name key

-- strategy n, of this name, aims at a port: "the first to cover a port keeps it"
abbrev pub gain_from : ℕ → Bytes → Bytes → List Kept → Option Bytes → Gain
gain_from n name key l None = record { rows = l; report = []; remarks = not_plain name key ∷ [] }
gain_from n name key l (Some w) = record { rows = l ++ (kept n key w ∷ []); report = []; remarks = [] }

unfoldable pub gain_of : ℕ → Bytes → Aim → List Kept → Gain
gain_of n name a l = cond (is_in a.key (keys_of l)) (stay l) (gain_from n name a.key l a.net)

-- one port after the other
unfoldable pub gains : ℕ → Bytes → List Aim → List Kept → Gain
gains n name [] l = stay l
gains n name (a ∷ xs) l = behind (gain_of n name a l) (gains n name xs (gain_of n name a l).rows)

-- ---- laws

pub behind_stay : (l : List Kept) (g : Gain) → behind (stay l) g ≡ g
behind_stay l g = refl

pub behind_assoc : (a b c : Gain) → behind (behind a b) c ≡ behind a (behind b c)
behind_assoc a b c = rw (append_assoc a.report b.report c.report, append_assoc a.remarks b.remarks c.remarks)

pub gains_none : (n : ℕ) (name : Bytes) (l : List Kept) → gains n name [] l ≡ stay l
unfolding gains
gains_none n name l = refl

pub gains_more : (n : ℕ) (name : Bytes) (a : Aim) (xs : List Aim) (l : List Kept) → gains n name (a ∷ xs) l ≡ behind (gain_of n name a l) (gains n name xs (gain_of n name a l).rows)
unfolding gains
gains_more n name a xs l = refl

pub gains_one : (n : ℕ) (name : Bytes) (a : Aim) (l : List Kept) → gains n name (a ∷ []) l ≡ gain_of n name a l
unfolding gains
gains_one n name a l = go (gain_of n name a l)
  where
    go : (g : Gain) → behind g (stay g.rows) ≡ g
    go g = rw (append-nil g.report, append-nil g.remarks)

pub gains_append : (n : ℕ) (name : Bytes) (xs bs : List Aim) (l : List Kept) → gains n name (xs ++ bs) l ≡ behind (gains n name xs l) (gains n name bs (gains n name xs l).rows)
unfolding gains
gains_append n name [] bs l = refl
gains_append n name (a ∷ xs) bs l =
    ap (behind (gain_of n name a l)) (gains_append n name xs bs (gain_of n name a l).rows)
    ∙ sym (behind_assoc (gain_of n name a l) (gains n name xs (gain_of n name a l).rows) (gains n name bs (gains n name xs (gain_of n name a l).rows).rows))

-- what is kept stays
one_grows : (n : ℕ) (name : Bytes) (a : Aim) (l : List Kept) → length l ≤ length (gain_of n name a l).rows
unfolding gain_of
one_grows n name a l = go (is_in a.key (keys_of l)) a.net
  where
    go : (b : Bool) (o : Option Bytes) → length l ≤ length (cond b (stay l) (gain_from n name a.key l o)).rows
    go true o = omega arith
    go false None = omega arith
    go false (Some w) = omega (arith, length-append l (kept n a.key w ∷ []))

pub gains_grow : (n : ℕ) (name : Bytes) (xs : List Aim) (l : List Kept) → length l ≤ length (gains n name xs l).rows
unfolding gains
gains_grow n name [] l = omega arith
gains_grow n name (a ∷ xs) l = omega (arith, one_grows n name a l, gains_grow n name xs (gain_of n name a l).rows)
