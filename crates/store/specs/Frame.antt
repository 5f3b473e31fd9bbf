-- What is written behind n leaves the view of every state whose strings end by n as it was: said once, over the whole state. Assumes nothing.
use Rattle.std.specs.Prelude.{Option, None}
use Prim.Native.Nat.{ℕ, zero, suc, ◌+◌, ◌*◌, ◌≤◌, ◌<◌, max}
use native.Mathlib.Omega.{arith}
use Rattle.std.proofs.Common.{zero-add, add-zero, ap}
use Rattle.std.specs.Prelude.{◌≡◌, Bool, cond, List, [], ◌∷◌, ◌++◌, map, eqb, leb, take, drop, Some}
use Rattle.std.proofs.Math.Path.{refl}
use Rattle.std.proofs.Math.Bool.{true, false}
use borrow.Author.Tests.{eqb-true}
use Rattle.text.specs.Ascii.{Bytes}
use Rattle.spans.specs.Span.{pair_at, pairs}
use Rattle.spans.specs.Frame.{bytes_same}
use Rattle.spans.specs.declared.span.Span.{Span}
use Rattle.substitution.specs.Stored.{variables}
use Rattle.store.specs.Strings.{string, span_of, maybe_of, below_of, maybe_below_of}
use Rattle.store.specs.View.{Store, domain_of, port_of, words_at, switch_of, isolation_of, retention_of, shifter_of, port_state_of, connections_of, states_of, warnings_in, warning_text, table_of, model_of}
use Rattle.store.specs.Order.{Within, none_left, one_more, end_of, of_maybe, of_below, of_maybe_below, of_domain, of_port, of_switch, of_isolation, of_retention, of_shifter, of_port_state, of_table, of_row, of_span, Bounded}
use Rattle.store.specs.Tables.{map_same, flat_same, numbered_same}
use Rattle.store.specs.declared.stored.Stored.{Stored}
use Rattle.store.specs.declared.stored.Below.{Below}
use Rattle.store.specs.declared.row.Row.{Row}
use Rattle.store.specs.declared.state.Domain.{Domain}
use Rattle.store.specs.declared.state.Port.{Port}
use Rattle.store.specs.declared.state.Switch.{Switch}
use Rattle.store.specs.declared.state.Isolation.{Isolation}
use Rattle.store.specs.declared.state.Retention.{Retention}
use Rattle.store.specs.declared.state.Shifter.{Shifter}
use Rattle.store.specs.declared.state.PortState.{PortState}
use Rattle.store.specs.declared.state.Table.{Table}
use Rattle.store.specs.declared.state.State.{State}

module _ {A : Type 0} (e : A → ℕ) where
  within_take : {n : ℕ} (k : ℕ) {l : List A} → Within e n l → Within e n (take k l)
  within_take zero none_left = none_left
  within_take (suc k) none_left = none_left
  within_take zero (one_more p b) = none_left
  within_take (suc k) (one_more p b) = one_more p (within_take k b)

  within_drop : {n : ℕ} (k : ℕ) {l : List A} → Within e n l → Within e n (drop k l)
  within_drop zero none_left = none_left
  within_drop (suc k) none_left = none_left
  within_drop zero (one_more p b) = one_more p b
  within_drop (suc k) (one_more p b) = within_drop k b

pair_within : (f : Span → ℕ) (l : List ℕ) (k m i : ℕ) {n : ℕ} → Within f n (pairs l k m) → i < m → f (pair_at l (k + i)) ≤ n
unfolding pairs
pair_within f l k zero i b h = absurd (omega arith)
pair_within f l k (suc m) zero (one_more p b) h = rw add-zero p
pair_within f l k (suc m) (suc i) (one_more p b) h =
    let e : k + suc i ≡ k + 1 + i = omega arith in
    rw e (pair_within f l (k + 1) m i b (omega arith))

pub max_first : (a b : ℕ) {n : ℕ} → max a b ≤ n → a ≤ n
max_first a b h = omega arith

pub max_rest : (a b : ℕ) {n : ℕ} → max a b ≤ n → b ≤ n
max_rest a b h = omega arith

warning_within : (f : Row → ℕ) (r : Row) {rs : List Row} {m : ℕ} → f r ≤ m → (t : Bool) → Within f m rs → Within f m (cond t (r ∷ []) [] ++ rs)
warning_within f r p true b = one_more p b
warning_within f r p false b = b

pub warnings_within : (f : Row → ℕ) {m : ℕ} {rs : List Row} → Within f m rs → Within f m (warnings_in rs)
unfolding warnings_in
warnings_within f none_left = none_left
warnings_within f (one_more {x = r} {xs = rs} p b) = warning_within f r p (leb 3 r.kind) (warnings_within f b)

module _ (n : ℕ) (mem mem' : Bytes) (e : take n mem' ≡ take n mem) where
  pub string_same : (s : Stored) → end_of s ≤ n → string mem' s ≡ string mem s
  string_same s h = bytes_same n mem mem' (span_of s) h e

  pub maybe_same : (m : Option Stored) → of_maybe end_of m ≤ n → maybe_of mem' m ≡ maybe_of mem m
  maybe_same None h = refl
  maybe_same (Some s) h = ap Some (string_same s h)

  pub below_same : (b : Below) → of_below end_of b ≤ n → below_of mem' b ≡ below_of mem b
  below_same b h =
      let p : end_of b.scope ≤ n = omega arith in
      let q : end_of b.word ≤ n = omega arith in
      rw (string_same b.scope p, string_same b.word q)

  pub maybe_below_same : (m : Option Below) → of_maybe_below end_of m ≤ n → maybe_below_of mem' m ≡ maybe_below_of mem m
  maybe_below_same None h = refl
  maybe_below_same (Some b) h = ap Some (below_same b h)

  domain_same : (d : Domain) → of_domain end_of d ≤ n → domain_of mem' d ≡ domain_of mem d
  unfolding domain_of
  domain_same d h =
      let a : end_of d.name ≤ n = omega arith in
      let b : end_of d.elements ≤ n = omega arith in
      let c : end_of d.scope ≤ n = omega arith in
      let p : of_maybe_below end_of d.power ≤ n = omega arith in
      let g : of_maybe_below end_of d.ground_net ≤ n = omega arith in
      rw (string_same d.name a, string_same d.elements b, string_same d.scope c, maybe_below_same d.power p, maybe_below_same d.ground_net g)

  port_same : (x : Port) → of_port end_of x ≤ n → port_of mem' x ≡ port_of mem x
  unfolding port_of
  port_same x h =
      let a : of_below end_of x.name ≤ n = omega arith in
      let b : of_maybe end_of x.direction ≤ n = omega arith in
      rw (below_same x.name a, maybe_same x.direction b)

  words_at_same : (ws : List Stored) (f c : ℕ) → Within end_of n ws → words_at mem' ws f c ≡ words_at mem ws f c
  words_at_same ws f c b = map_same (string mem) (string mem') end_of (within_take end_of c (within_drop end_of f b)) string_same

  switch_same : (ws : List Stored) → Within end_of n ws → (x : Switch) → of_switch end_of x ≤ n → switch_of mem' ws x ≡ switch_of mem ws x
  unfolding switch_of
  switch_same ws w x h =
      let a : end_of x.name ≤ n = omega arith in
      let b : of_maybe end_of x.domain ≤ n = omega arith in
      let c : end_of x.scope ≤ n = omega arith in
      let d : end_of x.input ≤ n = omega arith in
      let g : end_of x.output ≤ n = omega arith in
      let k : end_of x.controls ≤ n = omega arith in
      rw (string_same x.name a, maybe_same x.domain b, string_same x.scope c, string_same x.input d, string_same x.output g, string_same x.controls k, words_at_same ws x.first x.ons w, words_at_same ws (x.first + x.ons) x.offs w)

  isolation_same : (x : Isolation) → of_isolation end_of x ≤ n → isolation_of mem' x ≡ isolation_of mem x
  unfolding isolation_of
  isolation_same x h =
      let p0 : end_of x.name ≤ n = max_first (end_of x.name) (max (end_of x.domain) (max (of_maybe end_of x.applies) (max (end_of x.scope) (max (end_of x.elements) (max (of_maybe end_of x.clamp) (max (of_maybe end_of x.signal) (max (of_maybe end_of x.sense) (max (of_maybe end_of x.power) (of_maybe end_of x.ground_net))))))))) h in
      let h1 : max (end_of x.domain) (max (of_maybe end_of x.applies) (max (end_of x.scope) (max (end_of x.elements) (max (of_maybe end_of x.clamp) (max (of_maybe end_of x.signal) (max (of_maybe end_of x.sense) (max (of_maybe end_of x.power) (of_maybe end_of x.ground_net)))))))) ≤ n = max_rest (end_of x.name) (max (end_of x.domain) (max (of_maybe end_of x.applies) (max (end_of x.scope) (max (end_of x.elements) (max (of_maybe end_of x.clamp) (max (of_maybe end_of x.signal) (max (of_maybe end_of x.sense) (max (of_maybe end_of x.power) (of_maybe end_of x.ground_net))))))))) h in
      let p1 : end_of x.domain ≤ n = max_first (end_of x.domain) (max (of_maybe end_of x.applies) (max (end_of x.scope) (max (end_of x.elements) (max (of_maybe end_of x.clamp) (max (of_maybe end_of x.signal) (max (of_maybe end_of x.sense) (max (of_maybe end_of x.power) (of_maybe end_of x.ground_net)))))))) h1 in
      let h2 : max (of_maybe end_of x.applies) (max (end_of x.scope) (max (end_of x.elements) (max (of_maybe end_of x.clamp) (max (of_maybe end_of x.signal) (max (of_maybe end_of x.sense) (max (of_maybe end_of x.power) (of_maybe end_of x.ground_net))))))) ≤ n = max_rest (end_of x.domain) (max (of_maybe end_of x.applies) (max (end_of x.scope) (max (end_of x.elements) (max (of_maybe end_of x.clamp) (max (of_maybe end_of x.signal) (max (of_maybe end_of x.sense) (max (of_maybe end_of x.power) (of_maybe end_of x.ground_net)))))))) h1 in
      let p2 : of_maybe end_of x.applies ≤ n = max_first (of_maybe end_of x.applies) (max (end_of x.scope) (max (end_of x.elements) (max (of_maybe end_of x.clamp) (max (of_maybe end_of x.signal) (max (of_maybe end_of x.sense) (max (of_maybe end_of x.power) (of_maybe end_of x.ground_net))))))) h2 in
      let h3 : max (end_of x.scope) (max (end_of x.elements) (max (of_maybe end_of x.clamp) (max (of_maybe end_of x.signal) (max (of_maybe end_of x.sense) (max (of_maybe end_of x.power) (of_maybe end_of x.ground_net)))))) ≤ n = max_rest (of_maybe end_of x.applies) (max (end_of x.scope) (max (end_of x.elements) (max (of_maybe end_of x.clamp) (max (of_maybe end_of x.signal) (max (of_maybe end_of x.sense) (max (of_maybe end_of x.power) (of_maybe end_of x.ground_net))))))) h2 in
      let p3 : end_of x.scope ≤ n = max_first (end_of x.scope) (max (end_of x.elements) (max (of_maybe end_of x.clamp) (max (of_maybe end_of x.signal) (max (of_maybe end_of x.sense) (max (of_maybe end_of x.power) (of_maybe end_of x.ground_net)))))) h3 in
      let h4 : max (end_of x.elements) (max (of_maybe end_of x.clamp) (max (of_maybe end_of x.signal) (max (of_maybe end_of x.sense) (max (of_maybe end_of x.power) (of_maybe end_of x.ground_net))))) ≤ n = max_rest (end_of x.scope) (max (end_of x.elements) (max (of_maybe end_of x.clamp) (max (of_maybe end_of x.signal) (max (of_maybe end_of x.sense) (max (of_maybe end_of x.power) (of_maybe end_of x.ground_net)))))) h3 in
      let p4 : end_of x.elements ≤ n = max_first (end_of x.elements) (max (of_maybe end_of x.clamp) (max (of_maybe end_of x.signal) (max (of_maybe end_of x.sense) (max (of_maybe end_of x.power) (of_maybe end_of x.ground_net))))) h4 in
      let h5 : max (of_maybe end_of x.clamp) (max (of_maybe end_of x.signal) (max (of_maybe end_of x.sense) (max (of_maybe end_of x.power) (of_maybe end_of x.ground_net)))) ≤ n = max_rest (end_of x.elements) (max (of_maybe end_of x.clamp) (max (of_maybe end_of x.signal) (max (of_maybe end_of x.sense) (max (of_maybe end_of x.power) (of_maybe end_of x.ground_net))))) h4 in
      let p5 : of_maybe end_of x.clamp ≤ n = max_first (of_maybe end_of x.clamp) (max (of_maybe end_of x.signal) (max (of_maybe end_of x.sense) (max (of_maybe end_of x.power) (of_maybe end_of x.ground_net)))) h5 in
      let h6 : max (of_maybe end_of x.signal) (max (of_maybe end_of x.sense) (max (of_maybe end_of x.power) (of_maybe end_of x.ground_net))) ≤ n = max_rest (of_maybe end_of x.clamp) (max (of_maybe end_of x.signal) (max (of_maybe end_of x.sense) (max (of_maybe end_of x.power) (of_maybe end_of x.ground_net)))) h5 in
      let p6 : of_maybe end_of x.signal ≤ n = max_first (of_maybe end_of x.signal) (max (of_maybe end_of x.sense) (max (of_maybe end_of x.power) (of_maybe end_of x.ground_net))) h6 in
      let h7 : max (of_maybe end_of x.sense) (max (of_maybe end_of x.power) (of_maybe end_of x.ground_net)) ≤ n = max_rest (of_maybe end_of x.signal) (max (of_maybe end_of x.sense) (max (of_maybe end_of x.power) (of_maybe end_of x.ground_net))) h6 in
      let p7 : of_maybe end_of x.sense ≤ n = max_first (of_maybe end_of x.sense) (max (of_maybe end_of x.power) (of_maybe end_of x.ground_net)) h7 in
      let h8 : max (of_maybe end_of x.power) (of_maybe end_of x.ground_net) ≤ n = max_rest (of_maybe end_of x.sense) (max (of_maybe end_of x.power) (of_maybe end_of x.ground_net)) h7 in
      let p8 : of_maybe end_of x.power ≤ n = max_first (of_maybe end_of x.power) (of_maybe end_of x.ground_net) h8 in
      let h9 : of_maybe end_of x.ground_net ≤ n = max_rest (of_maybe end_of x.power) (of_maybe end_of x.ground_net) h8 in
      rw (string_same x.name p0, string_same x.domain p1, maybe_same x.applies p2, string_same x.scope p3, string_same x.elements p4, maybe_same x.clamp p5, maybe_same x.signal p6, maybe_same x.sense p7, maybe_same x.power p8, maybe_same x.ground_net h9)

  retention_same : (x : Retention) → of_retention end_of x ≤ n → retention_of mem' x ≡ retention_of mem x
  unfolding retention_of
  retention_same x h =
      let a : end_of x.name ≤ n = omega arith in
      let b : end_of x.domain ≤ n = omega arith in
      let c : end_of x.scope ≤ n = omega arith in
      let d : end_of x.elements ≤ n = omega arith in
      rw (string_same x.name a, string_same x.domain b, string_same x.scope c, string_same x.elements d)

  shifter_same : (x : Shifter) → of_shifter end_of x ≤ n → shifter_of mem' x ≡ shifter_of mem x
  unfolding shifter_of
  shifter_same x h =
      let a : end_of x.name ≤ n = omega arith in
      let b : end_of x.domain ≤ n = omega arith in
      rw (string_same x.name a, string_same x.domain b)

  port_state_same : (ws : List Stored) → Within end_of n ws → (x : PortState) → of_port_state end_of x ≤ n → port_state_of mem' ws x ≡ port_state_of mem ws x
  unfolding port_state_of
  port_state_same ws w x h = rw (below_same x.name h, words_at_same ws x.first x.count w)

  -- ---- rows

  connections_by : (r : Row) → of_row end_of r ≤ n → (b : Bool) → eqb r.kind 1 ≡ b → connections_of mem' r ≡ connections_of mem r
  unfolding connections_of
  connections_by r h false q = rw q
  connections_by r h true q =
      let k : r.kind ≡ 1 = eqb-true r.kind 1 q in
      let g : max (end_of r.scope) (max (end_of r.name) (end_of r.value)) ≤ n = rw k at h in
      let a : end_of r.scope ≤ n = omega arith in
      let b : end_of r.name ≤ n = omega arith in
      let c : end_of r.value ≤ n = omega arith in
      rw (string_same r.scope a, string_same r.name b, string_same r.value c)

  connections_same : (r : Row) → of_row end_of r ≤ n → connections_of mem' r ≡ connections_of mem r
  connections_same r h = connections_by r h (eqb r.kind 1) refl

  states_same : (k : ℕ) (r : Row) → of_row end_of r ≤ n → states_of mem' k r ≡ states_of mem k r
  unfolding states_of
  states_same k r h =
      let b : end_of r.name ≤ n = omega arith in
      let c : end_of r.value ≤ n = omega arith in
      rw (string_same r.name b, string_same r.value c)

  warning_same : (r : Row) → of_row end_of r ≤ n → warning_text mem' r ≡ warning_text mem r
  unfolding warning_text
  warning_same r h = let b : end_of r.name ≤ n = omega arith in rw (string_same r.name b)

  warnings_same : {rs : List Row} → Within (of_row end_of) n rs → map (warning_text mem') (warnings_in rs) ≡ map (warning_text mem) (warnings_in rs)
  warnings_same w = map_same (warning_text mem) (warning_text mem') (of_row end_of) (warnings_within (of_row end_of) w) warning_same

  table_same : (rs : List Row) → Within (of_row end_of) n rs → (k : ℕ) (t : Table) → of_table end_of t ≤ n → table_of mem' rs k t ≡ table_of mem rs k t
  unfolding table_of
  table_same rs w k t h =
      let a : end_of t.name ≤ n = omega arith in
      let b : end_of t.scope ≤ n = omega arith in
      let c : end_of t.supplies ≤ n = omega arith in
      rw (string_same t.name a, string_same t.scope b, string_same t.supplies c, flat_same (states_of mem k) (states_of mem' k) (of_row end_of) w (states_same k))

  variables_by : (vars : List ℕ) (k : ℕ) → ((i : ℕ) → i < 2 * k → (pair_at vars i).at + (pair_at vars i).len ≤ n) → variables mem' vars k ≡ variables mem vars k
  unfolding variables
  variables_by vars zero h = refl
  variables_by vars (suc k) h =
      rw (variables_by vars k (λ i q. h i (omega arith)), bytes_same n mem mem' (pair_at vars (2 * k)) (h (2 * k) (omega arith)) e, bytes_same n mem mem' (pair_at vars (2 * k + 1)) (h (2 * k + 1) (omega arith)) e)

  pub variables_same : (vars : List ℕ) (k : ℕ) → Within (of_span end_of) n (pairs vars 0 (2 * k)) → variables mem' vars k ≡ variables mem vars k
  variables_same vars k w = variables_by vars k (λ i q. rw zero-add at (pair_within (of_span end_of) vars 0 (2 * k) i w q))

  -- the whole state
  pub model_same : (st : Store) (s : State) (log : Bytes) → Bounded end_of n st s → model_of mem' st s log ≡ model_of mem st s log
  unfolding model_of
  model_same st s log v = λ i. record {
    design_top = maybe_same s.head.top v.top i;
    scope = string_same s.head.scope v.scope i;
    domains = map_same (domain_of mem) (domain_of mem') (of_domain end_of) v.domains domain_same i;
    nets = map_same (below_of mem) (below_of mem') (of_below end_of) v.nets below_same i;
    ports = map_same (port_of mem) (port_of mem') (of_port end_of) v.ports port_same i;
    connections = flat_same (connections_of mem) (connections_of mem') (of_row end_of) v.rows connections_same i;
    switches = map_same (switch_of mem st.words) (switch_of mem' st.words) (of_switch end_of) v.switches (switch_same st.words v.words) i;
    isolations = map_same (isolation_of mem) (isolation_of mem') (of_isolation end_of) v.isolations isolation_same i;
    retentions = map_same (retention_of mem) (retention_of mem') (of_retention end_of) v.retentions retention_same i;
    shifters = map_same (shifter_of mem) (shifter_of mem') (of_shifter end_of) v.shifters shifter_same i;
    port_states = map_same (port_state_of mem st.words) (port_state_of mem' st.words) (of_port_state end_of) v.portstates (port_state_same st.words v.words) i;
    tables = numbered_same (table_of mem st.rows) (table_of mem' st.rows) (of_table end_of) 0 v.tables (table_same st.rows v.rows) i;
    warnings = warnings_same v.rows i;
    variables = variables_same s.variables.all s.variables.n v.variables i;
    log = log;
  }
