-- Strategies one after the other, and the two rounds: each law is stated as a need asks it. Assumes nothing.
use Rattle.store.specs.declared.state.Few.{Few}
use Rattle.store.specs.declared.state.Domain.{Domain}
use Prim.Native.Nat.{ℕ, ◌+◌, ◌-◌, ◌≤◌, ◌<◌}
use native.Mathlib.Omega.{arith}
use mathlib.Core.Path.{◌≡◌, refl, sym}
use mathlib.Core.Bool.{Bool, true, false}
use mathlib.Core.List.{List, [], ◌++◌, map, append-nil}
use lib.ListN.{length, take, drop, get_or, length-append}
use Rattle.text.specs.Ascii.{Bytes}
use Rattle.joblines.specs.Job.{Module}
use Rattle.model.specs.Records.{Domain as Domainʳ, Isolation as Isolationʳ}
use Rattle.store.specs.Order.{of_isolation}
use Rattle.store.specs.Tables.{within_get}
use Rattle.store.specs.View.{isolation_of}
use Rattle.store.specs.declared.state.Isolation.{Isolation}
use Rattle.made.specs.Made.{reach_of}
use Rattle.setting.specs.Orders.{holds_few, holds_long, holds_at, holds_next, holds_end}
use Rattle.isolated.specs.Table.{Kept, kept_in}
use Rattle.isolated.specs.Laws.{kept_none}
use Rattle.keep.specs.Gains.{Gain, stay, behind}
use Rattle.keep.specs.Covered.{Ready, Answer}
use Rattle.keep.specs.Turns.{Turn, turn_start, turn_end, turn_stop, turn_next}
use Rattle.keep.specs.declared.Cover.{Cover}
use Rattle.cover.specs.Found.{Asks}
use Rattle.strategies.specs.Gains.{round_gain, isolation_gain}
use Rattle.isolation.specs.Asked.{OfIsolation, start_at}
use Rattle.isolation.specs.Turns.{turn_gain, OfOne, round_none, round_more, round_grow}

-- ---- a round: the strategies from i on are left

abbrev pub left_gain : Bytes → List Module → Module → List Domainʳ → Bool → Few Isolation → ℕ → List Kept → Gain
left_gain mem d m ds having t i = round_gain d m ds having i (map (isolation_of mem) (drop i (take t.n t.all)))

pub record Rounds (job mem : Bytes) (warn : Bool) (c₀ : Cover) (out₀ : Bytes) (ports₀ : List ℕ) (d : List Module) (m : Module) (ds : List Domainʳ) (having : Bool) (t : Few Isolation) (c : Cover) (out : Bytes) (ports : List ℕ) (i : ℕ) : Type 0 where
  pub before : i ≤ t.n
  pub turn : Turn job mem warn c₀ out₀ (round_gain d m ds having 0 (map (isolation_of mem) (take t.n t.all)) (kept_in job mem ports₀ c₀.ports)) c out ports (left_gain mem d m ds having t i)

module _ (job files area : Bytes) (count k : ℕ) (t : Few Isolation) (xs : Few Domain) (o : OfIsolation job files area count k t xs) where
  abbrev mem : Bytes
  mem = files ++ area

  abbrev of : Isolation → ℕ
  of = of_isolation (reach_of (length files))

  pub strategies_few : t.n ≤ 32
  strategies_few = holds_few of (length mem) t.n t.all o.strategies

  module _ (i : ℕ) (h : i < t.n) where
    pub strategy_asks : Asks job files area count k i
    strategy_asks = record { few = o.few; row = o.row; number_small = omega (arith, strategies_few); job_small = o.job_small; small = o.small }

    pub strategy_asked : (z : Isolation) → OfOne files area (get_or t.all i z) xs
    strategy_asked z =
        record {
          own = record {
            small = omega (arith, o.small, length-append files area);
            strings = holds_at of (length mem) t.n t.all o.strategies i z h;
            few = within_get (λ (x : Isolation). length (isolation_of mem x).elements) t.all t.n i z o.own_few h (holds_long of (length mem) t.n t.all o.strategies);
          };
          domains = o.domains;
          few = o.domains_few;
        }

  module _ (warn : Bool) (c₀ : Cover) (out₀ : Bytes) (ports₀ : List ℕ) (d : List Module) (m : Module) (ds : List Domainʳ) (having : Bool) where
    abbrev all : Gain
    all = round_gain d m ds having 0 (map (isolation_of mem) (take t.n t.all)) (kept_in job mem ports₀ c₀.ports)

    pub rounds_start : Ready c₀ ports₀ → Rounds job mem warn c₀ out₀ ports₀ d m ds having t c₀ out₀ ports₀ 0
    rounds_start r = record { before = omega arith; turn = turn_start job mem warn c₀ out₀ ports₀ (left_gain mem d m ds having t 0) r }

    module _ (c : Cover) (out : Bytes) (ports : List ℕ) (i : ℕ) (inv : Rounds job mem warn c₀ out₀ ports₀ d m ds having t c out ports i) where
      none_left : t.n ≤ i → (l : List Kept) → left_gain mem d m ds having t i l ≡ stay l
      none_left h l = rw (holds_end of (length mem) t.n t.all o.strategies i h) (round_none d m ds having i l)

      pub rounds_end : t.n ≤ i → Answer job mem warn c₀ out₀ all c out ports
      rounds_end h = turn_end job mem warn c₀ out₀ all c out ports (left_gain mem d m ds having t i) inv.turn (none_left h)

      module _ (z : Isolation) (h : i < t.n) (r : Cover) (out' : Bytes) (ports' : List ℕ) (a : Answer job mem warn c out (turn_gain d m ds having i (isolation_of mem (get_or t.all i z)) (kept_in job mem ports c.ports)) r out' ports') where
        abbrev own : Isolationʳ
        own = isolation_of mem (get_or t.all i z)

        split : (l : List Kept) → left_gain mem d m ds having t i l ≡ behind (turn_gain d m ds having i own l) (left_gain mem d m ds having t (i + 1) (turn_gain d m ds having i own l).rows)
        split l = rw (holds_next of (length mem) t.n t.all o.strategies i z h) (round_more d m ds having i own (map (isolation_of mem) (drop (i + 1) (take t.n t.all))) l)

        pub rounds_stop : r.over ≡ true → Answer job mem warn c₀ out₀ all r out' ports'
        rounds_stop q =
            turn_stop job mem warn c₀ out₀ all c out ports (left_gain mem d m ds having t i) inv.turn
            (turn_gain d m ds having i own) (left_gain mem d m ds having t (i + 1)) split r out' ports' a (λ l. round_grow d m ds having (i + 1) (map (isolation_of mem) (drop (i + 1) (take t.n t.all))) l) q

        pub rounds_next : r.over ≡ false → Rounds job mem warn c₀ out₀ ports₀ d m ds having t r out' ports' (i + 1)
        rounds_next q =
            record {
              before = omega arith;
              turn =
                  turn_next job mem warn c₀ out₀ all c out ports (left_gain mem d m ds having t i) inv.turn
                  (turn_gain d m ds having i own) (left_gain mem d m ds having t (i + 1)) split r out' ports' a q;
            }

-- ---- both rounds

pub start_ready : (at : ℕ) (ports : List ℕ) → 5120 ≤ length ports → Ready (start_at at) ports
start_ready at ports h = record { going = refl; few = omega arith; long = h }

module _ (job mem : Bytes) (warn : Bool) (at : ℕ) (out₀ : Bytes) (ports₀ : List ℕ) (room : 5120 ≤ length ports₀) (d : List Module) (m : Module) (ds : List Domainʳ) (is : List Isolationʳ)
    (c : Cover) (out : Bytes) (ports : List ℕ) (a : Answer job mem warn (start_at at) out₀ (round_gain d m ds true 0 is (kept_in job mem ports₀ 0)) c out ports) where
  in_two : (l : List Kept) → isolation_gain d m ds is l ≡ behind (round_gain d m ds true 0 is l) (round_gain d m ds false 0 is (round_gain d m ds true 0 is l).rows)
  unfolding isolation_gain
  in_two l = refl

  begins : Turn job mem warn (start_at at) out₀ (isolation_gain d m ds is []) (start_at at) out₀ ports₀ (isolation_gain d m ds is)
  begins = rw (kept_none job mem ports₀ 0) at (turn_start job mem warn (start_at at) out₀ ports₀ (isolation_gain d m ds is) (start_ready at ports₀ room))

  pub first_over : c.over ≡ true → Answer job mem warn (start_at at) out₀ (isolation_gain d m ds is []) c out ports
  first_over h =
      turn_stop job mem warn (start_at at) out₀ (isolation_gain d m ds is []) (start_at at) out₀ ports₀ (isolation_gain d m ds is) begins
      (round_gain d m ds true 0 is) (round_gain d m ds false 0 is) in_two c out ports a (λ l. round_grow d m ds false 0 is l) h

  module _ (h : c.over ≡ false) where
    then : Turn job mem warn (start_at at) out₀ (isolation_gain d m ds is []) c out ports (round_gain d m ds false 0 is)
    then =
        turn_next job mem warn (start_at at) out₀ (isolation_gain d m ds is []) (start_at at) out₀ ports₀ (isolation_gain d m ds is) begins
        (round_gain d m ds true 0 is) (round_gain d m ds false 0 is) in_two c out ports a h

    last : (l : List Kept) → round_gain d m ds false 0 is l ≡ behind (round_gain d m ds false 0 is l) (stay (round_gain d m ds false 0 is l).rows)
    last l = go (round_gain d m ds false 0 is l)
      where
        go : (g : Gain) → g ≡ behind g (stay g.rows)
        go g = sym (rw (append-nil g.report, append-nil g.remarks))

    pub both_rounds : (r : Cover) (out' : Bytes) (ports' : List ℕ) → Answer job mem warn c out (round_gain d m ds false 0 is (kept_in job mem ports c.ports)) r out' ports' → Answer job mem warn (start_at at) out₀ (isolation_gain d m ds is []) r out' ports'
    both_rounds r out' ports' b = go r.over refl
      where
        go : (q : Bool) → r.over ≡ q → Answer job mem warn (start_at at) out₀ (isolation_gain d m ds is []) r out' ports'
        go true e = turn_stop job mem warn (start_at at) out₀ (isolation_gain d m ds is []) c out ports (round_gain d m ds false 0 is) then (round_gain d m ds false 0 is) stay last r out' ports' b (λ l. omega arith) e
        go false e =
            turn_end job mem warn (start_at at) out₀ (isolation_gain d m ds is []) r out' ports' stay
            (turn_next job mem warn (start_at at) out₀ (isolation_gain d m ds is []) c out ports (round_gain d m ds false 0 is) then (round_gain d m ds false 0 is) stay last r out' ports' b e) (λ l. refl)

-- ---- no strategies

module _ (d : List Module) (m : Module) (ds : List Domainʳ) (mem : Bytes) (t : Few Isolation) (none : t.n ≡ 0) where
  gain_none : (l : List Kept) → isolation_gain d m ds (map (isolation_of mem) (take t.n t.all)) l ≡ stay l
  unfolding isolation_gain round_gain
  gain_none l = rw none

  pub without_strategies : (job : Bytes) (warn : Bool) (at : ℕ) (out : Bytes) (ports : List ℕ) → 5120 ≤ length ports → Answer job mem warn (start_at at) out (isolation_gain d m ds (map (isolation_of mem) (take t.n t.all)) []) (start_at at) out ports
  without_strategies job warn at out ports room =
      turn_end job mem warn (start_at at) out (isolation_gain d m ds (map (isolation_of mem) (take t.n t.all)) []) (start_at at) out ports (isolation_gain d m ds (map (isolation_of mem) (take t.n t.all)))
      (rw (kept_none job mem ports 0) at (turn_start job mem warn (start_at at) out ports (isolation_gain d m ds (map (isolation_of mem) (take t.n t.all))) (start_ready at ports room))) gain_none
