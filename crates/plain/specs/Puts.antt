-- `puts`, which writes to the log: what it writes, and what it comes to with the log written so far. Assumes nothing.
use Rattle.std.specs.Prelude.{Option, Some, None}
use Rattle.std.specs.Prelude.{ℕ, ◌+◌, ◌≤◌, ◌≡◌, refl, Bool, true, cond, List, ◌++◌, length}
use Rattle.std.proofs.Common.{arith, sym, ap, ◌∙◌}
use Rattle.text.specs.Ascii.{Bytes, ascii}
use Rattle.out.specs.Emit.{◌▸◌, emit, emit_append}
use Rattle.tcl.specs.Arguments.{last_positional}
use Rattle.args.specs.View.{words_from}
use Rattle.model.specs.Names.{Command, Named}
use Rattle.model.specs.Numbers.{named_by}
use Rattle.model.specs.Records.{Model}
use Rattle.model.specs.Commands.{puts_command}
use Rattle.model.specs.Within.{records_fit}
use Rattle.read.specs.Reading.{done, refused, line_of}
use Rattle.store.specs.View.{Store, model_of}
use Rattle.store.specs.Order.{Shaped, Bounded}
use Rattle.store.specs.Fits.{fits_all}
use Rattle.store.specs.Variables.{now_fits}
use Rattle.store.specs.Rows.{store_of}
use Rattle.store.specs.declared.stored.Stored.{Stored}
use Rattle.store.specs.declared.state.State.{State}
use Rattle.held.specs.Held.{mem_of, model_at, counted_of, Logged, Held, Ran, Comes}
use Rattle.held.specs.Laws.{lent_same}
use Rattle.loads.specs.Steps.{acted, line_at}
use Rattle.loads.specs.Scoped.{line_is_lem}
use Rattle.plain.specs.Asks.{Asks}
use Rattle.plain.specs.Reads.{steady, acted_is, reading_done, comes_at}

-- what it writes; ws are its words behind its name
abbrev pub saying : List Bytes → Bytes
saying ws = ascii "[UPF] " ++ (last_positional ws ++ ascii "\n")

-- the state with the log written up to e
abbrev pub log_set : State → ℕ → State
log_set s e =
    record {
      head = s.head;
      count = s.count;
      fill = record { end = s.fill.end; log = e; rows = s.fill.rows; words = s.fill.words; warnings = s.fill.warnings };
      domains = s.domains;
      nets = s.nets;
      ports = s.ports;
      switches = s.switches;
      isolations = s.isolations;
      retentions = s.retentions;
      shifters = s.shifters;
      portstates = s.portstates;
      tables = s.tables;
      variables = s.variables;
    }

log_shaped : (st : Store) (s : State) (e : ℕ) → Shaped st s → Shaped st (log_set s e)
log_shaped st s e v = record { scope = v.scope; domains = v.domains; nets = v.nets; ports = v.ports; switches = v.switches; isolations = v.isolations; retentions = v.retentions; shifters = v.shifters; portstates = v.portstates; tables = v.tables; long = v.long; variables = v.variables; switch_words = v.switch_words; port_words = v.port_words; row_tables = v.row_tables; rows = v.rows; words = v.words; warnings = v.warnings; warned = v.warned }

log_bounded : (f : Stored → ℕ) (n : ℕ) (st : Store) (s : State) (e : ℕ) → Bounded f n st s → Bounded f n st (log_set s e)
log_bounded f n st s e v = record { scope = v.scope; top = v.top; domains = v.domains; nets = v.nets; ports = v.ports; switches = v.switches; isolations = v.isolations; retentions = v.retentions; shifters = v.shifters; portstates = v.portstates; tables = v.tables; variables = v.variables; rows = v.rows; words = v.words }

log_held : (files area nums : List ℕ) (s : State) (e : ℕ) → Held files area nums 1 s → s.count.commands ≤ 1024 → Held files area nums 0 (log_set s e)
log_held files area nums s e v h =
    record {
      lends = v.lends;
      shaped = log_shaped (store_of nums s) s e v.shaped;
      bounded = log_bounded _ (length files + s.fill.end) (store_of nums s) s e v.bounded;
      commands = omega (arith, h);
      substituted = v.substituted;
      scopes = v.scopes;
      entries = v.entries;
      end = v.end;
      rows = omega (arith, v.rows);
      words = v.words;
    }

log_model : (mem : Bytes) (st : Store) (s : State) (e : ℕ) (text : Bytes) (ws : List Bytes) → model_of mem st (log_set s e) (text ++ (ascii "[UPF] " ++ (last_positional ws ++ ascii "\n"))) ≡ puts_command (model_of mem st s text) ws
unfolding model_of puts_command
log_model mem st s e text ws = refl

puts_log : (mem : Bytes) (st : Store) (s : State) (text : Bytes) (ws : List Bytes) → (puts_command (model_of mem st s text) ws).log ≡ text ++ (ascii "[UPF] " ++ (last_positional ws ++ ascii "\n"))
unfolding model_of puts_command
puts_log mem st s text ws = refl

puts_fits : (m : Model) (ws : List Bytes) → records_fit (puts_command m ws) ≡ records_fit m
unfolding puts_command
puts_fits m ws = refl

module _ (files area nums words : List ℕ) (n : ℕ) (s : State) (v : Asks files area nums words n 1 s) (log log' : Bytes) (e : ℕ) (g : log' ▸ e ≡ emit (log ▸ s.fill.log) (saying (words_from (mem_of files area s) words n 1))) where
  abbrev mem : Bytes
  mem = mem_of files area s

  abbrev ws : List Bytes
  ws = words_from mem words n 1

  abbrev left : Bytes → Model
  left text = puts_command (model_at files area nums s text) ws

  fits : (text : Bytes) → records_fit (left text) ≡ true
  fits text = puts_fits (model_at files area nums s text) ws ∙ fits_all (model_at files area nums s text) (now_fits mem (store_of nums s) s text v.held.shaped)

  acts : (text : Bytes) → acted (named_by 1) (line_at files area words n s) (counted_of s) (model_at files area nums s text) ≡ done (counted_of s) (left text)
  acts text =
      acted_is files area nums s (steady files area nums s v.held v.counted) (Named.other Command.puts) (line_at files area words n s) (model_at files area nums s text) refl
      ∙ ap (λ (l : List Bytes). cond (records_fit (puts_command (model_at files area nums s text) (line_of l).rest)) (done (counted_of s) (puts_command (model_at files area nums s text) (line_of l).rest)) (refused 10 s.count.commands)) (line_is_lem mem words n v.named)
      ∙ ap (λ (t : Bool). cond t (done (counted_of s) (left text)) (refused 10 s.count.commands)) (fits text)

  comes : (log₀ text : Bytes) → Logged log₀ log s.fill.log text → Comes files area nums log₀ log' (record { stop = None; state = log_set s e }) (done (counted_of s) (left text))
  comes log₀ text h =
      record {
        result = reading_done files area nums (left text).log (record { stop = None; state = log_set s e }) (counted_of s) (left text) refl refl
            (ap (model_of mem (store_of nums s) (log_set s e)) (puts_log mem (store_of nums s) s text ws) ∙ log_model mem (store_of nums s) s e text ws);
        logged = λ z. g ∙ ap (λ o. emit o (saying ws)) h ∙ sym (emit_append (log₀ ▸ 0) text (saying ws)) ∙ ap (emit (log₀ ▸ 0)) (sym (puts_log mem (store_of nums s) s text ws));
      }

  pub puts_ran : Ran files area area nums nums log log' s (record { stop = None; state = log_set s e }) (λ text. acted (named_by 1) (line_at files area words n s) (counted_of s) (model_at files area nums s text))
  puts_ran =
      record {
        held = λ z. log_held files area nums s e v.held v.counted;
        more = λ z. omega arith;
        lent = lent_same s.fill.end area nums;
        reads = λ log₀ text h. comes_at files area nums log₀ log' (record { stop = None; state = log_set s e }) (acted (named_by 1) (line_at files area words n s) (counted_of s) (model_at files area nums s text)) (done (counted_of s) (left text)) (acts text) (comes log₀ text h);
      }
