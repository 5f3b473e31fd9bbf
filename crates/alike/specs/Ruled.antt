-- What is asked of a table of isolated ports: each is of a strategy that is there, with a clamp value that is simulated. Assumes nothing.
use Rattle.store.specs.declared.state.Few.{Few}
use Rattle.store.specs.declared.state.Isolation.{Isolation}
use Rattle.std.specs.Prelude.{ℕ, zero, suc, ◌+◌, ◌≤◌, ◌<◌, ◌≡◌, Bool, true, ◌&&◌, List, ltb}
use Rattle.std.proofs.Common.{arith, zero-add, ltb-true}
use Rattle.text.specs.Ascii.{Bytes}
use Rattle.text.specs.Scan.{all}
use Rattle.text.specs.Sames.{both}
use Rattle.model.specs.Records.{Isolation as Isolationʳ}
use Rattle.texts.specs.Isolation.{lowered, is_clamp}
use Rattle.isolated.specs.Table.{port_row, Kept, kept_of, kept_from, kept_in}
use Rattle.isolated.specs.declared.Isolated.{Isolated}
use Rattle.alike.specs.Strategies.{strategy_at}

-- of the first n rows
pub record Ruled (mem : Bytes) (t : Few Isolation) (ports : List ℕ) (n : ℕ) : Type 0 where
  pub few : n ≤ 256
  pub strategies : (k : ℕ) → k < n → (port_row ports k).strategy < 32
  pub clamps : (k : ℕ) → k < n → is_clamp (lowered (strategy_at mem t (port_row ports k).strategy).clamp) ≡ true

-- ---- as it is where every kept port passes a test; f has the strategies by their numbers

abbrev pub is_ruled : (ℕ → Isolationʳ) → Kept → Bool
is_ruled f x = ltb x.strategy 32 && is_clamp (lowered (f x.strategy).clamp)

all_at : (f : ℕ → Isolationʳ) (job mem : Bytes) (ports : List ℕ) (i n k : ℕ) → all (is_ruled f) (kept_from job mem ports i n) ≡ true → k < n → ((port_row ports (i + k)).strategy < 32) × (is_clamp (lowered (f (port_row ports (i + k)).strategy).clamp) ≡ true)
unfolding all kept_from
all_at f job mem ports i zero k h l = absurd (omega arith)
all_at f job mem ports i (suc n) zero h l =
    let e : i + 0 ≡ i = omega arith in
    let b = both (is_ruled f (kept_of job mem (port_row ports i))) (all (is_ruled f) (kept_from job mem ports (i + 1) n)) h in
    let d = both (ltb (port_row ports i).strategy 32) (is_clamp (lowered (f (port_row ports i).strategy).clamp)) b.0 in
    rw e (ltb-true (port_row ports i).strategy 32 d.0, d.1)
all_at f job mem ports i (suc n) (suc k) h l =
    let e : i + suc k ≡ i + 1 + k = omega arith in
    let b = both (is_ruled f (kept_of job mem (port_row ports i))) (all (is_ruled f) (kept_from job mem ports (i + 1) n)) h in
    rw e (all_at f job mem ports (i + 1) n k b.1 (omega arith))

pub ruled_by : (job mem : Bytes) (t : Few Isolation) (ports : List ℕ) (n : ℕ) → n ≤ 256 → all (is_ruled (strategy_at mem t)) (kept_in job mem ports n) ≡ true → Ruled mem t ports n
ruled_by job mem t ports n few h =
    record {
      few = few;
      strategies = λ k l. rw zero-add at (all_at (strategy_at mem t) job mem ports 0 n k h l).0;
      clamps = λ k l. rw zero-add at (all_at (strategy_at mem t) job mem ports 0 n k h l).1;
    }

-- ---- row k, as it is read

module _ (mem : Bytes) (t : Few Isolation) (ports : List ℕ) (n : ℕ) (r : Ruled mem t ports n) (k : ℕ) (h : k < n) where
  pub row_small : k < 256
  row_small = omega (arith, r.few)

  pub row_strategy : (x : Isolated) → x ≡ port_row ports k → x.strategy < 32
  row_strategy x e = rw e (r.strategies k h)

  pub row_clamp : (x : Isolated) → x ≡ port_row ports k → is_clamp (lowered (strategy_at mem t x.strategy).clamp) ≡ true
  row_clamp x e = rw e (r.clamps k h)
