-- A scan over a value whose lines are joined as it is read: the machine's answer from i on, in its state there, is the answer. Assumes nothing.
use Prim.Native.Nat.{ℕ, suc, ◌+◌, ◌≤◌, ◌<◌}
use mathlib.Core.Path.{◌≡◌, sym, ◌∙◌}
use mathlib.Core.Bool.{Bool, true, false, cond}
use native.Mathlib.Nat.{add-zero}
use native.Mathlib.Omega.{arith}
use lib.Dec.{eqb}
use lib.ListN.{length, drop, get_or}
use lib.Seq.{drop-drop}
use borrow.Author.Rules.{rules}
use borrow.Author.Tests.{eq-eqb, ne_eqb}
use Rattle.text.specs.Ascii.{Bytes, byte}
use Rattle.text.specs.Scan.{Ends}
use Rattle.tcl.specs.Join.{joint, joined_by, join}
use Rattle.text.specs.Cases.{if_eq, if_ne}
use Rattle.tcl.specs.Words.{span, quote_state}
use Rattle.entries.specs.Raw.{raw, until, join_here, join_end}

-- ---- the state

pub quote_low : (d b r : ℕ) → r ≡ quote_state d b → 1 ≤ d → r ≤ d + 1
unfolding quote_state
quote_low d b r e h = go (eqb d 2) (eqb b (byte "\"")) (eqb b (byte "\\")) e
  where
    go : (x y z : Bool) → r ≡ cond x 1 (cond y 0 (cond z 2 1)) → r ≤ d + 1
    go true y z g = omega arith
    go false true z g = omega arith
    go false false true g = omega arith
    go false false false g = omega arith

pub until_low : (t : Bool) (d r : ℕ) → r ≡ until t → r ≤ d + 1
unfolding until
until_low true d r e = omega arith
until_low false d r e = omega arith

pub until_told : (t u : Bool) (r : ℕ) → r ≡ until t → t ≡ u → r ≡ until u
until_told t u r e g = rw g at e

pub ruleset states = (rules, if_eq, if_ne, quote_low, until_low, until_told)

-- ---- the scan

pub record Scans (next : ℕ → ℕ → ℕ) (v : Bytes) (a i d : ℕ) : Type 0 where
  pub keeps : a ≡ i + raw (span next d (join (drop i v))) (drop i v)

-- `d'` is the machine's state after the joined byte at i
module _ (next : ℕ → ℕ → ℕ) (v : Bytes) (i a d : ℕ) (inv : Scans next v a i d) where
  pub scan_end : length v ≤ i → i ≤ length v → Ends a (length v) i
  unfolding span raw
  scan_end h g = record { is_at = sym (inv.keeps ∙ rw (join_end v i h, add-zero)); within = g }

  module _ (d' n b : ℕ) (t : d' ≡ next d b) (e : n ≡ joint (drop i v)) (g : b ≡ joined_by n (get_or v i 0)) (h : i < length v) where
    pub scan_stop : d' ≡ 0 → Ends a (length v) i
    unfolding span raw
    scan_stop z = record { is_at = sym (inv.keeps ∙ rw (join_here v i n b e g h, ← t, eq-eqb d' 0 z, add-zero)); within = omega arith }

    pub scan_step : (d' ≡ 0 → ⊥) → Scans next v a (i + 1 + n) d'
    unfolding span raw
    scan_step z =
        let q : i + suc n ≡ i + 1 + n = omega arith in
        let k : a ≡ i + raw (suc (span next d' (join (drop (i + 1 + n) v)))) (drop i v) = inv.keeps ∙ rw (join_here v i n b e g h, ← t, ne_eqb d' 0 z) in
        let l : drop (suc n) (drop i v) ≡ drop (i + 1 + n) v = drop-drop (suc n) i v ∙ rw q in
        record { keeps = k ∙ rw (← e, l) (omega arith) }

pub ruleset scans = (rules, scan_end, scan_stop, scan_step)
