-- Laws: the order of the state when the memory that is known grows, and by a smaller measure. Assumes nothing.
use Rattle.std.specs.Prelude.{Option, Some, None}
use Rattle.std.specs.Prelude.{ℕ, ◌≤◌, max, Bool, true, false, cond, List, eqb}
use Rattle.std.proofs.Common.{arith, le_trans}
use Rattle.spans.specs.Reach.{reach_end}
use Rattle.made.specs.Made.{reach_of}
use Rattle.store.specs.Strings.{span_of, stored_of}
use Rattle.store.specs.View.{Store}
use Rattle.store.specs.Order.{Within, none_left, one_more, end_of, of_maybe, of_below, of_maybe_below, of_domain, of_port, of_switch, of_isolation, of_retention, of_shifter, of_port_state, of_table, of_row, of_span, Bounded}
use Rattle.store.specs.declared.stored.Stored.{Stored}
use Rattle.store.specs.declared.stored.Below.{Below}
use Rattle.store.specs.declared.row.Row.{Row}
use Rattle.store.specs.declared.state.State.{State}

within_by : {A : Type 0} (f g : A → ℕ) {n m : ℕ} {l : List A} → ((x : A) → g x ≤ f x) → n ≤ m → Within f n l → Within g m l
within_by f g h k none_left = none_left
within_by f g h k (one_more {x = x} p w) = one_more (le_trans (h x) (le_trans p k)) (within_by f g h k w)

both_le : {a b c d : ℕ} → a ≤ c → b ≤ d → max a b ≤ max c d
both_le h k = omega arith

module _ (e f : Stored → ℕ) (h : (s : Stored) → f s ≤ e s) where
  maybe_le : (x : Option Stored) → of_maybe f x ≤ of_maybe e x
  maybe_le None = omega arith
  maybe_le (Some s) = h s

  below_le : (b : Below) → of_below f b ≤ of_below e b
  below_le b = both_le (h b.scope) (h b.word)

  maybe_below_le : (x : Option Below) → of_maybe_below f x ≤ of_maybe_below e x
  maybe_below_le None = omega arith
  maybe_below_le (Some b) = below_le b

  row_le : (r : Row) → of_row f r ≤ of_row e r
  row_le r = both_le (go (eqb r.kind 2)) (both_le (h r.name) (h r.value))
    where
      go : (b : Bool) → cond b 0 (f r.scope) ≤ cond b 0 (e r.scope)
      go true = omega arith
      go false = h r.scope

  pub bounded_by : (n m : ℕ) (st : Store) (s : State) → n ≤ m → Bounded e n st s → Bounded f m st s
  bounded_by n m st s k v =
      record {
        scope = le_trans (h s.head.scope) (le_trans v.scope k);
        top = le_trans (maybe_le s.head.top) (le_trans v.top k);
        domains = within_by (of_domain e) (of_domain f) (λ d. both_le (h d.name) (both_le (h d.elements) (both_le (maybe_below_le d.power) (both_le (maybe_below_le d.ground_net) (h d.scope))))) k v.domains;
        nets = within_by (of_below e) (of_below f) below_le k v.nets;
        ports = within_by (of_port e) (of_port f) (λ p. both_le (below_le p.name) (maybe_le p.direction)) k v.ports;
        switches = within_by (of_switch e) (of_switch f) (λ x. both_le (h x.name) (both_le (maybe_le x.domain) (both_le (h x.scope) (both_le (h x.input) (both_le (h x.output) (h x.controls)))))) k v.switches;
        isolations = within_by (of_isolation e) (of_isolation f) (λ x. both_le (h x.name) (both_le (h x.domain) (both_le (maybe_le x.applies) (both_le (h x.scope) (both_le (h x.elements) (both_le (maybe_le x.clamp) (both_le (maybe_le x.signal) (both_le (maybe_le x.sense) (both_le (maybe_le x.power) (maybe_le x.ground_net)))))))))) k v.isolations;
        retentions = within_by (of_retention e) (of_retention f) (λ x. both_le (h x.name) (both_le (h x.domain) (both_le (h x.scope) (h x.elements)))) k v.retentions;
        shifters = within_by (of_shifter e) (of_shifter f) (λ x. both_le (h x.name) (h x.domain)) k v.shifters;
        portstates = within_by (of_port_state e) (of_port_state f) (λ x. below_le x.name) k v.portstates;
        tables = within_by (of_table e) (of_table f) (λ x. both_le (h x.name) (both_le (h x.scope) (h x.supplies))) k v.tables;
        variables = within_by (of_span e) (of_span f) (λ x. h (stored_of x)) k v.variables;
        rows = within_by (of_row e) (of_row f) row_le k v.rows;
        words = within_by e f h k v.words;
      }

-- more memory is known
pub bounded_more : (e : Stored → ℕ) (n m : ℕ) (st : Store) (s : State) → n ≤ m → Bounded e n st s → Bounded e m st s
bounded_more e n m st s k v = bounded_by e e (λ x. omega arith) n m st s k v

-- what reaches no further ends there at the latest
pub bounded_ends : (long n : ℕ) (st : Store) (s : State) → Bounded (reach_of long) n st s → Bounded end_of n st s
bounded_ends long n st s v = bounded_by (reach_of long) end_of (λ x. reach_end long (span_of x)) n n st s (omega arith) v
