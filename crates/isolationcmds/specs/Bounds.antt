-- Laws: the strings of a strategy, each within a bound. Assumes nothing.
use Rattle.std.specs.Prelude.{ℕ, ◌≤◌, max}
use Rattle.std.proofs.Math.Nat.{max-le}
use Rattle.store.specs.Order.{of_maybe, of_isolation}
use Rattle.store.specs.declared.stored.Stored.{Stored}
use Rattle.store.specs.declared.state.Isolation.{Isolation}
use Rattle.store.specs.Frame.{max_first, max_rest}

pub record Bounds (e : Stored → ℕ) (x : Isolation) (n : ℕ) : Type 0 where
  pub name : e x.name ≤ n
  pub domain : e x.domain ≤ n
  pub applies : of_maybe e x.applies ≤ n
  pub scope : e x.scope ≤ n
  pub elements : e x.elements ≤ n
  pub clamp : of_maybe e x.clamp ≤ n
  pub signal : of_maybe e x.signal ≤ n
  pub sense : of_maybe e x.sense ≤ n
  pub power : of_maybe e x.power ≤ n
  pub ground_net : of_maybe e x.ground_net ≤ n

ten : (a b c d f g h i j k : ℕ) {n : ℕ} → a ≤ n → b ≤ n → c ≤ n → d ≤ n → f ≤ n → g ≤ n → h ≤ n → i ≤ n → j ≤ n → k ≤ n → max a (max b (max c (max d (max f (max g (max h (max i (max j k)))))))) ≤ n
ten a b c d f g h i j k p0 p1 p2 p3 p4 p5 p6 p7 p8 p9 =
    max-le p0 (max-le p1 (max-le p2 (max-le p3 (max-le p4 (max-le p5 (max-le p6 (max-le p7 (max-le p8 p9))))))))

pub all_bounds : (e : Stored → ℕ) (x : Isolation) (n : ℕ) → Bounds e x n → of_isolation e x ≤ n
all_bounds e x n b = ten (e x.name) (e x.domain) (of_maybe e x.applies) (e x.scope) (e x.elements) (of_maybe e x.clamp) (of_maybe e x.signal) (of_maybe e x.sense) (of_maybe e x.power) (of_maybe e x.ground_net) b.name b.domain b.applies b.scope b.elements b.clamp b.signal b.sense b.power b.ground_net

pub bounds_of : (e : Stored → ℕ) (x : Isolation) (n : ℕ) → of_isolation e x ≤ n → Bounds e x n
bounds_of e x n h =
    let h1 = max_rest (e x.name) _ h in
    let h2 = max_rest (e x.domain) _ h1 in
    let h3 = max_rest (of_maybe e x.applies) _ h2 in
    let h4 = max_rest (e x.scope) _ h3 in
    let h5 = max_rest (e x.elements) _ h4 in
    let h6 = max_rest (of_maybe e x.clamp) _ h5 in
    let h7 = max_rest (of_maybe e x.signal) _ h6 in
    let h8 = max_rest (of_maybe e x.sense) _ h7 in
    record {
      name = max_first (e x.name) _ h;
      domain = max_first (e x.domain) _ h1;
      applies = max_first (of_maybe e x.applies) _ h2;
      scope = max_first (e x.scope) _ h3;
      elements = max_first (e x.elements) _ h4;
      clamp = max_first (of_maybe e x.clamp) _ h5;
      signal = max_first (of_maybe e x.signal) _ h6;
      sense = max_first (of_maybe e x.sense) _ h7;
      power = max_first (of_maybe e x.power) _ h8;
      ground_net = max_rest (of_maybe e x.power) _ h8;
    }
