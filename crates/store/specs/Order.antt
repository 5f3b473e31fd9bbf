-- The state is in order: its arrays have their size, the counts are within them, what it says of the store is so, and every stored string is within a
-- bound by a measure (where it ends, say). Assumes nothing.
use Rattle.std.specs.Prelude.{Option, Some, None}
use Rattle.std.specs.Prelude.{ℕ, ◌+◌, ◌*◌, ◌≤◌, max, ◌≡◌, cond, List, [], ◌∷◌, eqb, length, take}
use Rattle.spans.specs.declared.span.Span.{Span}
use Rattle.spans.specs.Span.{pairs}
use Rattle.store.specs.Strings.{stored_of}
use Rattle.store.specs.View.{Store, warnings_in}
use Rattle.store.specs.declared.stored.Stored.{Stored}
use Rattle.store.specs.declared.stored.Below.{Below}
use Rattle.store.specs.declared.row.Row.{Row}
use Rattle.store.specs.declared.state.Domain.{Domain}
use Rattle.store.specs.declared.state.Port.{Port}
use Rattle.store.specs.declared.state.Switch.{Switch}
use Rattle.store.specs.declared.state.Isolation.{Isolation}
use Rattle.store.specs.declared.state.Retention.{Retention}
use Rattle.store.specs.declared.state.Shifter.{Shifter}
use Rattle.store.specs.declared.state.PortState.{PortState}
use Rattle.store.specs.declared.state.Table.{Table}
use Rattle.store.specs.declared.state.State.{State}

-- every element of the list has its number f at most n
pub data Within {A : Type 0} (f : A → ℕ) (n : ℕ) : List A → Type 0 where
  none_left : Within f n []
  one_more : {x : A} {xs : List A} → f x ≤ n → Within f n xs → Within f n (x ∷ xs)

-- where a string ends
abbrev pub end_of : Stored → ℕ
end_of s = s.at + s.len

-- the greatest measure of the strings of a record
module _ (e : Stored → ℕ) where
  abbrev pub of_maybe : Option Stored → ℕ
  of_maybe None = 0
  of_maybe (Some s) = e s

  abbrev pub of_below : Below → ℕ
  of_below b = max (e b.scope) (e b.word)

  abbrev pub of_maybe_below : Option Below → ℕ
  of_maybe_below None = 0
  of_maybe_below (Some b) = of_below b

  abbrev pub of_domain : Domain → ℕ
  of_domain d = max (e d.name) (max (e d.elements) (max (of_maybe_below d.power) (max (of_maybe_below d.ground_net) (e d.scope))))

  abbrev pub of_port : Port → ℕ
  of_port p = max (of_below p.name) (of_maybe p.direction)

  abbrev pub of_switch : Switch → ℕ
  of_switch x = max (e x.name) (max (of_maybe x.domain) (max (e x.scope) (max (e x.input) (max (e x.output) (e x.controls)))))

  abbrev pub of_isolation : Isolation → ℕ
  of_isolation x =
      max (e x.name) (max (e x.domain) (max (of_maybe x.applies) (max (e x.scope) (max (e x.elements)
      (max (of_maybe x.clamp) (max (of_maybe x.signal) (max (of_maybe x.sense) (max (of_maybe x.power) (of_maybe x.ground_net)))))))))

  abbrev pub of_retention : Retention → ℕ
  of_retention x = max (e x.name) (max (e x.domain) (max (e x.scope) (e x.elements)))

  abbrev pub of_shifter : Shifter → ℕ
  of_shifter x = max (e x.name) (e x.domain)

  abbrev pub of_port_state : PortState → ℕ
  of_port_state x = of_below x.name

  abbrev pub of_table : Table → ℕ
  of_table x = max (e x.name) (max (e x.scope) (e x.supplies))

  -- of a state of a table the scope is no string
  abbrev pub of_row : Row → ℕ
  of_row r = max (cond (eqb r.kind 2) 0 (e r.scope)) (max (e r.name) (e r.value))

  abbrev pub of_span : Span → ℕ
  of_span s = e (stored_of s)

-- ---- how the state and the store fit

-- where the words of a record end in the store
abbrev pub switch_words : Switch → ℕ
switch_words x = x.first + x.ons + x.offs

abbrev pub port_words : PortState → ℕ
port_words x = x.first + x.count

-- how many tables there must be for a row
abbrev pub row_table : Row → ℕ
row_table r = cond (eqb r.kind 2) (r.scope.at + 1) 0

-- an array of this size, and how many of its elements count
pub record Sized {A : Type 0} (size n : ℕ) (l : List A) : Type 0 where
  pub long : length l ≡ size
  pub count : n ≤ size

pub record Shaped (st : Store) (s : State) : Type 0 where
  pub scope : s.head.scope.len ≤ 512
  pub domains : Sized 32 s.domains.n s.domains.all
  pub nets : Sized 32 s.nets.n s.nets.all
  pub ports : Sized 32 s.ports.n s.ports.all
  pub switches : Sized 32 s.switches.n s.switches.all
  pub isolations : Sized 32 s.isolations.n s.isolations.all
  pub retentions : Sized 32 s.retentions.n s.retentions.all
  pub shifters : Sized 32 s.shifters.n s.shifters.all
  pub portstates : Sized 32 s.portstates.n s.portstates.all
  pub tables : Sized 32 s.tables.n s.tables.all
  pub long : length s.variables.all ≡ 256
  pub variables : s.variables.n ≤ 64
  pub switch_words : Within switch_words (length st.words) (take s.switches.n s.switches.all)
  pub port_words : Within port_words (length st.words) (take s.portstates.n s.portstates.all)
  pub row_tables : Within row_table s.tables.n st.rows
  pub rows : s.fill.rows ≡ length st.rows
  pub words : s.fill.words ≡ length st.words
  pub warnings : s.fill.warnings ≡ length (warnings_in st.rows)
  pub warned : s.fill.warnings ≤ 256

-- every string is within n
pub record Bounded (e : Stored → ℕ) (n : ℕ) (st : Store) (s : State) : Type 0 where
  pub scope : e s.head.scope ≤ n
  pub top : of_maybe e s.head.top ≤ n
  pub domains : Within (of_domain e) n (take s.domains.n s.domains.all)
  pub nets : Within (of_below e) n (take s.nets.n s.nets.all)
  pub ports : Within (of_port e) n (take s.ports.n s.ports.all)
  pub switches : Within (of_switch e) n (take s.switches.n s.switches.all)
  pub isolations : Within (of_isolation e) n (take s.isolations.n s.isolations.all)
  pub retentions : Within (of_retention e) n (take s.retentions.n s.retentions.all)
  pub shifters : Within (of_shifter e) n (take s.shifters.n s.shifters.all)
  pub portstates : Within (of_port_state e) n (take s.portstates.n s.portstates.all)
  pub tables : Within (of_table e) n (take s.tables.n s.tables.all)
  pub variables : Within (of_span e) n (pairs s.variables.all 0 (2 * s.variables.n))
  pub rows : Within (of_row e) n st.rows
  pub words : Within e n st.words
