-- One strategy after the other: what one comes to in a round, and what is asked of it. Laws: a round turn by turn; what is kept stays. Assumes nothing.
use Rattle.store.specs.declared.state.Few.{Few}
use Rattle.std.specs.Prelude.{ℕ, ◌+◌, ◌≤◌, ◌≡◌, Bool, take, Option, None, Some}
use native.Mathlib.Omega.{arith}
use Rattle.std.proofs.Math.Path.{refl}
use Rattle.std.proofs.Math.Bool.{true, false, cond}
use mathlib.Core.List.{List, [], ◌∷◌, ◌++◌, flat_map}
use Rattle.std.proofs.Math.ListN.{length}
use Rattle.text.specs.Ascii.{Bytes}
use Rattle.joblines.specs.Job.{Module}
use Rattle.model.specs.Records.{Domain as Domainʳ, Isolation as Isolationʳ}
use Rattle.store.specs.View.{domain_of}
use Rattle.store.specs.Order.{Within, of_domain}
use Rattle.store.specs.declared.state.Domain.{Domain}
use Rattle.store.specs.declared.state.Isolation.{Isolation}
use Rattle.made.specs.Made.{reach_of}
use Rattle.setting.specs.Orders.{Holds}
use Rattle.texts.specs.Isolation.{lowered, is_clamp, applies_to, is_outputs}
use Rattle.isolated.specs.Table.{Kept}
use Rattle.keep.specs.Gains.{Aim, Gain, stay, behind, gains_grow}
use Rattle.cover.specs.Aims.{output_aims, element_aims}
use Rattle.remarks.specs.Lines.{not_outputs, clamp_unknown}
use Rattle.strategies.specs.Gains.{remark_gain, covered_gain, domain_gain, found_gain, named, signal_gain, strategy_gain, chosen, round_gain}
use Rattle.indomain.specs.Asked.{OfOwn}

-- a strategy in a round
unfoldable pub turn_gain : List Module → Module → List Domainʳ → Bool → ℕ → Isolationʳ → List Kept → Gain
turn_gain d m xs having n i l = cond (chosen having i) (strategy_gain d m xs n i l) (stay l)

-- what is asked of a stored strategy, and of the domains
pub record OfOne (files area : Bytes) (x : Isolation) (xs : Few Domain) : Type 0 where
  pub own : OfOwn files area x
  pub domains : Holds (of_domain (reach_of (length files))) (length (files ++ area)) xs.n xs.all
  pub few : Within (λ (d : Domain). length (domain_of (files ++ area) d).elements) 65 (take xs.n xs.all)

-- ---- a round, turn by turn

module _ (d : List Module) (m : Module) (xs : List Domainʳ) (having : Bool) (n : ℕ) where
  pub round_none : (l : List Kept) → round_gain d m xs having n [] l ≡ stay l
  unfolding round_gain
  round_none l = refl

  pub round_more : (i : Isolationʳ) (is : List Isolationʳ) (l : List Kept) → round_gain d m xs having n (i ∷ is) l ≡ behind (turn_gain d m xs having n i l) (round_gain d m xs having (n + 1) is (turn_gain d m xs having n i l).rows)
  unfolding round_gain turn_gain
  round_more i is l = go (chosen having i)
    where
      go : (b : Bool) → cond b (behind (strategy_gain d m xs n i l) (round_gain d m xs having (n + 1) is (strategy_gain d m xs n i l).rows)) (round_gain d m xs having (n + 1) is l)
          ≡ behind (cond b (strategy_gain d m xs n i l) (stay l)) (round_gain d m xs having (n + 1) is (cond b (strategy_gain d m xs n i l) (stay l)).rows)
      go true = refl
      go false = refl

-- ---- what is kept stays

module _ (d : List Module) (m : Module) where
  covered_grow : (n : ℕ) (i : Isolationʳ) (sig : Bytes) (ps : List Aim) (l : List Kept) → length l ≤ length (covered_gain n i sig ps l).rows
  unfolding covered_gain
  covered_grow n i sig ps l = gains_grow n i.name ps l

  domain_grow : (n : ℕ) (i : Isolationʳ) (sig : Bytes) (x : Domainʳ) (es : List Bytes) (l : List Kept) → length l ≤ length (domain_gain d m n i sig x es l).rows
  domain_grow n i sig x [] l = go (is_outputs (applies_to i))
    where
      go : (b : Bool) → length l ≤ length (cond b (covered_gain n i sig (flat_map (output_aims d m) x.elements) l) (remark_gain (not_outputs i.name (applies_to i)) l)).rows
      go true = covered_grow n i sig (flat_map (output_aims d m) x.elements) l
      go false = omega arith
  domain_grow n i sig x (e ∷ es) l = covered_grow n i sig (flat_map (element_aims d m) (e ∷ es)) l

  found_grow : (n : ℕ) (i : Isolationʳ) (sig : Bytes) (l : List Kept) (o : Option Domainʳ) → length l ≤ length (found_gain d m n i sig l o).rows
  found_grow n i sig l None = omega arith
  found_grow n i sig l (Some x) = domain_grow n i sig x i.elements l

  module _ (xs : List Domainʳ) where
    signal_grow : (n : ℕ) (i : Isolationʳ) (l : List Kept) (o : Option Bytes) → length l ≤ length (signal_gain d m xs n i l o).rows
    signal_grow n i l None = omega arith
    signal_grow n i l (Some sig) = go (is_clamp (lowered i.clamp))
      where
        go : (b : Bool) → length l ≤ length (cond b (found_gain d m n i sig l (named xs i.domain)) (remark_gain (clamp_unknown i.name (lowered i.clamp)) l)).rows
        go true = found_grow n i sig l (named xs i.domain)
        go false = omega arith

    turn_grow : (having : Bool) (n : ℕ) (i : Isolationʳ) (l : List Kept) → length l ≤ length (turn_gain d m xs having n i l).rows
    unfolding turn_gain strategy_gain
    turn_grow having n i l = go (chosen having i)
      where
        go : (b : Bool) → length l ≤ length (cond b (signal_gain d m xs n i l i.signal) (stay l)).rows
        go true = signal_grow n i l i.signal
        go false = omega arith

    pub round_grow : (having : Bool) (n : ℕ) (is : List Isolationʳ) (l : List Kept) → length l ≤ length (round_gain d m xs having n is l).rows
    round_grow having n [] l = rw (round_none d m xs having n l) (omega arith)
    round_grow having n (i ∷ is) l =
        rw (round_more d m xs having n i is l)
        (omega (arith, turn_grow having n i l, round_grow having (n + 1) is (turn_gain d m xs having n i l).rows))
