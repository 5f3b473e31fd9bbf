-- The state before the first command: it stands for no records, and is in order. Assumes nothing.
use Rattle.std.specs.Prelude.{None}
use Rattle.std.specs.Prelude.{ℕ, ◌≤◌, ◌≡◌, length}
use Rattle.std.proofs.Common.{arith}
use mathlib.Core.List.{[], flat_map}
use Rattle.text.specs.Ascii.{Bytes}
use Rattle.spans.specs.Span.{bytes, pairs}
use Rattle.substitution.specs.Stored.{variables}
use Rattle.model.specs.Records.{no_records}
use Rattle.store.specs.Strings.{no_string}
use Rattle.store.specs.View.{Store, numbered, warnings_in, model_of}
use Rattle.store.specs.Order.{none_left, Shaped, Bounded}
use Rattle.store.specs.declared.stored.Stored.{Stored}
use Rattle.store.specs.declared.state.State.{State}

abbrev pub no_store : Store
no_store = record { rows = []; words = [] }

pub record Fresh (s : State) : Type 0 where
  pub head : s.head ≡ record { scope = no_string; top = None }
  pub count : s.count ≡ record { commands = 0; substituted = 0; scopes = 0; entries = 0 }
  pub fill : s.fill ≡ record { end = 0; log = 0; rows = 0; words = 0; warnings = 0 }
  pub domains : s.domains.n ≡ 0
  pub domains_long : length s.domains.all ≡ 32
  pub nets : s.nets.n ≡ 0
  pub nets_long : length s.nets.all ≡ 32
  pub ports : s.ports.n ≡ 0
  pub ports_long : length s.ports.all ≡ 32
  pub switches : s.switches.n ≡ 0
  pub switches_long : length s.switches.all ≡ 32
  pub isolations : s.isolations.n ≡ 0
  pub isolations_long : length s.isolations.all ≡ 32
  pub retentions : s.retentions.n ≡ 0
  pub retentions_long : length s.retentions.all ≡ 32
  pub shifters : s.shifters.n ≡ 0
  pub shifters_long : length s.shifters.all ≡ 32
  pub portstates : s.portstates.n ≡ 0
  pub portstates_long : length s.portstates.all ≡ 32
  pub tables : s.tables.n ≡ 0
  pub tables_long : length s.tables.all ≡ 32
  pub variables : s.variables.n ≡ 0
  pub variables_long : length s.variables.all ≡ 256

module _ (s : State) (f : Fresh s) where
  pub fresh_view : (mem : Bytes) → model_of mem no_store s [] ≡ no_records
  unfolding model_of numbered warnings_in variables bytes flat_map
  fresh_view mem = rw (f.head, f.domains, f.nets, f.ports, f.switches, f.isolations, f.retentions, f.shifters, f.portstates, f.tables, f.variables)

  pub fresh_shaped : Shaped no_store s
  unfolding warnings_in
  fresh_shaped =
      record {
        scope = rw f.head (omega arith);
        domains = record { long = f.domains_long; count = rw f.domains (omega arith) };
        nets = record { long = f.nets_long; count = rw f.nets (omega arith) };
        ports = record { long = f.ports_long; count = rw f.ports (omega arith) };
        switches = record { long = f.switches_long; count = rw f.switches (omega arith) };
        isolations = record { long = f.isolations_long; count = rw f.isolations (omega arith) };
        retentions = record { long = f.retentions_long; count = rw f.retentions (omega arith) };
        shifters = record { long = f.shifters_long; count = rw f.shifters (omega arith) };
        portstates = record { long = f.portstates_long; count = rw f.portstates (omega arith) };
        tables = record { long = f.tables_long; count = rw f.tables (omega arith) };
        long = f.variables_long;
        variables = rw f.variables (omega arith);
        switch_words = rw f.switches none_left;
        port_words = rw f.portstates none_left;
        row_tables = none_left;
        rows = rw f.fill;
        words = rw f.fill;
        warnings = rw f.fill;
        warned = rw f.fill (omega arith);
      }

  pub fresh_bounded : (e : Stored → ℕ) (n : ℕ) → e no_string ≤ n → Bounded e n no_store s
  unfolding pairs
  fresh_bounded e n h =
      record {
        scope = rw f.head h;
        top = rw f.head (omega arith);
        domains = rw f.domains none_left;
        nets = rw f.nets none_left;
        ports = rw f.ports none_left;
        switches = rw f.switches none_left;
        isolations = rw f.isolations none_left;
        retentions = rw f.retentions none_left;
        shifters = rw f.shifters none_left;
        portstates = rw f.portstates none_left;
        tables = rw f.tables none_left;
        variables = rw f.variables none_left;
        rows = none_left;
        words = none_left;
      }
