-- Laws: every port that is gained is of a strategy that is there, with a clamp value that is simulated. Assumes nothing.
use Rattle.std.specs.Prelude.{ℕ, suc, ◌+◌, ◌≤◌, ◌<◌, ◌≡◌, refl, Bool, cond, length, get_or, Option, None, Some}
use Rattle.std.proofs.Common.{arith, lt-ltb}
use Rattle.std.proofs.Math.Bool.{true, false}
use mathlib.Core.List.{List, [], ◌∷◌, ◌++◌, flat_map}
use Rattle.text.specs.Ascii.{Bytes}
use Rattle.text.specs.Scan.{all}
use Rattle.text.specs.Sames.{both}
use Rattle.joblines.specs.Job.{Module}
use Rattle.design.specs.Lists.{is_in}
use Rattle.model.specs.Records.{Domain, Isolation}
use Rattle.texts.specs.Isolation.{lowered, is_clamp, applies_to, is_outputs}
use Rattle.isolated.specs.Table.{Kept, kept, keys_of}
use Rattle.keep.specs.Gains.{Aim, stay, gain_from, gain_of, gains}
use Rattle.cover.specs.Aims.{output_aims, element_aims}
use Rattle.remarks.specs.Lines.{not_outputs, clamp_unknown}
use Rattle.strategies.specs.Gains.{remark_gain, covered_gain, domain_gain, found_gain, named, signal_gain, strategy_gain, chosen, round_gain, isolation_gain}
use Rattle.alike.specs.Ruled.{is_ruled}
use Rattle.isolation.specs.Turns.{turn_gain, round_none, round_more}

all_more : {A : Type 0} (p : A → Bool) (l : List A) (x : A) → all p l ≡ true → p x ≡ true → all p (l ++ (x ∷ [])) ≡ true
unfolding all
all_more p [] x h g = rw g
all_more p (y ∷ l) x h g = let b = both (p y) (all p l) h in rw b.0 (all_more p l x b.1 g)

-- ---- strategy n; f has the strategies by their numbers

module _ (f : ℕ → Isolation) (n : ℕ) (i : Isolation) where
  module _ (ok : (key w : Bytes) → is_ruled f (kept n key w) ≡ true) where
    one_ruled : (name : Bytes) (a : Aim) (l : List Kept) → all (is_ruled f) l ≡ true → all (is_ruled f) (gain_of n name a l).rows ≡ true
    unfolding gain_of
    one_ruled name a l h = go (is_in a.key (keys_of l)) a.net
      where
        go : (b : Bool) (o : Option Bytes) → all (is_ruled f) (cond b (stay l) (gain_from n name a.key l o)).rows ≡ true
        go true o = h
        go false None = h
        go false (Some w) = all_more (is_ruled f) l (kept n a.key w) h (ok a.key w)

    gains_ruled : (name : Bytes) (ps : List Aim) (l : List Kept) → all (is_ruled f) l ≡ true → all (is_ruled f) (gains n name ps l).rows ≡ true
    unfolding gains
    gains_ruled name [] l h = h
    gains_ruled name (a ∷ ps) l h = gains_ruled name ps (gain_of n name a l).rows (one_ruled name a l h)

    covered_ruled : (sig : Bytes) (ps : List Aim) (l : List Kept) → all (is_ruled f) l ≡ true → all (is_ruled f) (covered_gain n i sig ps l).rows ≡ true
    unfolding covered_gain
    covered_ruled sig ps l h = gains_ruled i.name ps l h

    domain_ruled : (d : List Module) (m : Module) (sig : Bytes) (x : Domain) (es : List Bytes) (l : List Kept) → all (is_ruled f) l ≡ true → all (is_ruled f) (domain_gain d m n i sig x es l).rows ≡ true
    domain_ruled d m sig x [] l h = go (is_outputs (applies_to i))
      where
        go : (b : Bool) → all (is_ruled f) (cond b (covered_gain n i sig (flat_map (output_aims d m) x.elements) l) (remark_gain (not_outputs i.name (applies_to i)) l)).rows ≡ true
        go true = covered_ruled sig (flat_map (output_aims d m) x.elements) l h
        go false = h
    domain_ruled d m sig x (e ∷ es) l h = covered_ruled sig (flat_map (element_aims d m) (e ∷ es)) l h

    found_ruled : (d : List Module) (m : Module) (sig : Bytes) (l : List Kept) (o : Option Domain) → all (is_ruled f) l ≡ true → all (is_ruled f) (found_gain d m n i sig l o).rows ≡ true
    found_ruled d m sig l None h = h
    found_ruled d m sig l (Some x) h = domain_ruled d m sig x i.elements l h

  module _ (e : f n ≡ i) (small : n < 32) (d : List Module) (m : Module) (xs : List Domain) where
    signal_ruled : (l : List Kept) (o : Option Bytes) → all (is_ruled f) l ≡ true → all (is_ruled f) (signal_gain d m xs n i l o).rows ≡ true
    signal_ruled l None h = h
    signal_ruled l (Some sig) h = go (is_clamp (lowered i.clamp)) refl
      where
        go : (b : Bool) → is_clamp (lowered i.clamp) ≡ b → all (is_ruled f) (cond b (found_gain d m n i sig l (named xs i.domain)) (remark_gain (clamp_unknown i.name (lowered i.clamp)) l)).rows ≡ true
        go true q = found_ruled (λ key w. rw (lt-ltb n 32 small, e, q)) d m sig l (named xs i.domain) h
        go false q = h

    turn_ruled : (having : Bool) (l : List Kept) → all (is_ruled f) l ≡ true → all (is_ruled f) (turn_gain d m xs having n i l).rows ≡ true
    unfolding turn_gain strategy_gain
    turn_ruled having l h = go (chosen having i)
      where
        go : (b : Bool) → all (is_ruled f) (cond b (signal_gain d m xs n i l i.signal) (stay l)).rows ≡ true
        go true = signal_ruled l i.signal h
        go false = h

-- ---- the strategies from n on

pub record From (f : ℕ → Isolation) (n : ℕ) (is : List Isolation) (z : Isolation) : Type 0 where
  pub at : (k : ℕ) → k < length is → f (n + k) ≡ get_or is k z

pub from_here : (f : ℕ → Isolation) (n : ℕ) (i : Isolation) (is : List Isolation) (z : Isolation) → From f n (i ∷ is) z → f n ≡ i
from_here f n i is z g = let e : n + 0 ≡ n = omega arith in rw e at (g.at 0 (omega arith))

pub from_next : (f : ℕ → Isolation) (n : ℕ) (i : Isolation) (is : List Isolation) (z : Isolation) → From f n (i ∷ is) z → From f (n + 1) is z
from_next f n i is z g = record { at = λ k h. let e : n + suc k ≡ n + 1 + k = omega arith in rw e at (g.at (suc k) (omega arith)) }

module _ (f : ℕ → Isolation) (z : Isolation) (d : List Module) (m : Module) (xs : List Domain) where
  round_ruled : (having : Bool) (n : ℕ) (is : List Isolation) → From f n is z → n + length is ≤ 32 → (l : List Kept) → all (is_ruled f) l ≡ true → all (is_ruled f) (round_gain d m xs having n is l).rows ≡ true
  round_ruled having n [] g few l h = rw (round_none d m xs having n l) h
  round_ruled having n (i ∷ is) g few l h =
      rw (round_more d m xs having n i is l)
      (round_ruled having (n + 1) is (from_next f n i is z g) (omega arith) (turn_gain d m xs having n i l).rows (turn_ruled f n i (from_here f n i is z g) (omega arith) d m xs having l h))

  -- ---- all of them
  pub all_ruled : (is : List Isolation) → From f 0 is z → length is ≤ 32 → all (is_ruled f) (isolation_gain d m xs is []).rows ≡ true
  unfolding isolation_gain all
  all_ruled is g few =
      round_ruled false 0 is g (omega arith) (round_gain d m xs true 0 is []).rows (round_ruled true 0 is g (omega arith) [] refl)
