-- Laws: the invariant when a command begins, when its entries are counted, and behind a load; the records in the whole area. Assumes nothing.
use Rattle.std.specs.Prelude.{ℕ, ◌+◌, ◌-◌, ◌≤◌, ◌≡◌, List, ◌++◌, length, take}
use Rattle.std.proofs.Common.{arith, sym, ap, ◌∙◌, length-take, length-append, take-take, take_all}
use Rattle.std.proofs.Math.Path.{refl}
use Rattle.text.specs.Ascii.{Bytes}
use Rattle.spans.specs.Frame.{known_grows, known_front}
use Rattle.store.specs.View.{Store, model_of}
use Rattle.store.specs.Order.{Shaped, Bounded}
use Rattle.store.specs.Frame.{model_same}
use Rattle.store.specs.Rows.{store_of}
use Rattle.store.specs.declared.state.State.{State}
use Rattle.made.specs.Made.{reach_of}
use Rattle.held.specs.Grows.{bounded_more, bounded_ends}
use Rattle.held.specs.Held.{mem_of, model_at, Lends, Held, Lent}

-- the state with a command more, whose results end at e
abbrev pub begun_at : State → ℕ → State
begun_at s e =
    record {
      head = s.head;
      count = record { commands = s.count.commands + 1; substituted = s.count.substituted + (e - s.fill.end); scopes = s.count.scopes; entries = s.count.entries };
      fill = record { end = e; log = s.fill.log; rows = s.fill.rows; words = s.fill.words; warnings = s.fill.warnings };
      domains = s.domains;
      nets = s.nets;
      ports = s.ports;
      switches = s.switches;
      isolations = s.isolations;
      retentions = s.retentions;
      shifters = s.shifters;
      portstates = s.portstates;
      tables = s.tables;
      variables = s.variables;
    }

-- with this many entries counted
abbrev pub with_entries : State → ℕ → State
with_entries s k =
    record {
      head = s.head;
      count = record { commands = s.count.commands; substituted = s.count.substituted; scopes = s.count.scopes; entries = k };
      fill = s.fill;
      domains = s.domains;
      nets = s.nets;
      ports = s.ports;
      switches = s.switches;
      isolations = s.isolations;
      retentions = s.retentions;
      shifters = s.shifters;
      portstates = s.portstates;
      tables = s.tables;
      variables = s.variables;
    }

-- ---- the order looks at the records, the rows and the words alone
module _ (st : Store) (s : State) (v : Shaped st s) where
  pub begun_shaped : (e : ℕ) → Shaped st (begun_at s e)
  begun_shaped e = record { scope = v.scope; domains = v.domains; nets = v.nets; ports = v.ports; switches = v.switches; isolations = v.isolations; retentions = v.retentions; shifters = v.shifters; portstates = v.portstates; tables = v.tables; long = v.long; variables = v.variables; switch_words = v.switch_words; port_words = v.port_words; row_tables = v.row_tables; rows = v.rows; words = v.words; warnings = v.warnings; warned = v.warned }

  pub entries_shaped : (k : ℕ) → Shaped st (with_entries s k)
  entries_shaped k = record { scope = v.scope; domains = v.domains; nets = v.nets; ports = v.ports; switches = v.switches; isolations = v.isolations; retentions = v.retentions; shifters = v.shifters; portstates = v.portstates; tables = v.tables; long = v.long; variables = v.variables; switch_words = v.switch_words; port_words = v.port_words; row_tables = v.row_tables; rows = v.rows; words = v.words; warnings = v.warnings; warned = v.warned }

module _ (e : _ → ℕ) (n : ℕ) (st : Store) (s : State) (v : Bounded e n st s) where
  pub begun_bounded : (k : ℕ) → Bounded e n st (begun_at s k)
  begun_bounded k = record { scope = v.scope; top = v.top; domains = v.domains; nets = v.nets; ports = v.ports; switches = v.switches; isolations = v.isolations; retentions = v.retentions; shifters = v.shifters; portstates = v.portstates; tables = v.tables; variables = v.variables; rows = v.rows; words = v.words }

  pub entries_bounded : (k : ℕ) → Bounded e n st (with_entries s k)
  entries_bounded k = record { scope = v.scope; top = v.top; domains = v.domains; nets = v.nets; ports = v.ports; switches = v.switches; isolations = v.isolations; retentions = v.retentions; shifters = v.shifters; portstates = v.portstates; tables = v.tables; variables = v.variables; rows = v.rows; words = v.words }

-- ---- a command begins: the area has grown up to e
module _ (files area area' nums : List ℕ) (s : State) (e : ℕ) (v : Held files area nums 0 s) (l : Lends files area' nums) (h : s.fill.end ≤ e) (kept : take s.fill.end area' ≡ take s.fill.end area) where
  pub begun_held : s.count.substituted + (e - s.fill.end) ≤ 16384 → Held files area' nums 1 (begun_at s e)
  begun_held g =
      record {
        lends = l;
        shaped = begun_shaped (store_of nums s) s v.shaped e;
        bounded = begun_bounded (reach_of (length files)) (length files + e) (store_of nums s) s (bounded_more (reach_of (length files)) (length files + s.fill.end) (length files + e) (store_of nums s) s (omega arith) v.bounded) e;
        commands = omega (arith, v.commands);
        substituted = g;
        scopes = v.scopes;
        entries = v.entries;
        end = omega (arith, v.end);
        rows = omega (arith, v.rows);
        words = v.words;
      }

  begun_view : (mem : Bytes) (st : Store) (log : Bytes) → model_of mem st (begun_at s e) log ≡ model_of mem st s log
  unfolding model_of
  begun_view mem st log = refl

  pub begun_model : (log : Bytes) → model_at files area' nums (begun_at s e) log ≡ model_at files area nums s log
  begun_model log =
      begun_view (files ++ take e area') (store_of nums s) log
      ∙ model_same (length files + s.fill.end) (mem_of files area s) (files ++ take e area') (known_grows files area area' s.fill.end e h kept) (store_of nums s) s log
      (bounded_ends (length files) (length files + s.fill.end) (store_of nums s) s v.bounded)

-- ---- its entries are counted
module _ (files area nums : List ℕ) (s : State) (k : ℕ) where
  pub entries_held : k ≤ 1024 → Held files area nums 1 s → Held files area nums 1 (with_entries s k)
  entries_held h v =
      record {
        lends = v.lends;
        shaped = entries_shaped (store_of nums s) s v.shaped k;
        bounded = entries_bounded (reach_of (length files)) (length files + s.fill.end) (store_of nums s) s v.bounded k;
        commands = v.commands;
        substituted = v.substituted;
        scopes = v.scopes;
        entries = h;
        end = v.end;
        rows = v.rows;
        words = v.words;
      }

  pub entries_model : (log : Bytes) → model_at files area nums (with_entries s k) log ≡ model_at files area nums s log
  unfolding model_of
  entries_model log = refl

-- ---- what is lent, one after the other
pub lent_same : (o : ℕ) (area nums : List ℕ) → Lent o area area nums nums
lent_same o area nums = record { kept = refl; back = refl; low = refl; high = refl }

front_on : (o m : ℕ) (l₀ l₁ l₂ : List ℕ) → o ≤ m → take m l₂ ≡ take m l₁ → take o l₂ ≡ take o l₁
front_on o m l₀ l₁ l₂ h e = sym (take-take o m l₂ h) ∙ ap (take o) e ∙ take-take o m l₁ h

pub lent_two : (o m : ℕ) (a₀ a₁ a₂ n₀ n₁ n₂ : List ℕ) → o ≤ m → Lent o a₀ a₁ n₀ n₁ → Lent m a₁ a₂ n₁ n₂ → Lent o a₀ a₂ n₀ n₂
lent_two o m a₀ a₁ a₂ n₀ n₁ n₂ h v w =
    record {
      kept = front_on o m a₀ a₁ a₂ h w.kept ∙ v.kept;
      back = w.back ∙ v.back;
      low = w.low ∙ v.low;
      high = w.high ∙ v.high;
    }

-- ---- the records in the whole area
module _ (files area nums : List ℕ) (s : State) (v : Held files area nums 0 s) where
  pub end_low : s.fill.end ≤ length area
  end_low = omega (arith, v.end, v.substituted, v.scopes, v.lends.area_long)

  -- what lies behind the memory that is used changes no record
  pub whole_model : (log : Bytes) → model_of (files ++ area) (store_of nums s) s log ≡ model_at files area nums s log
  whole_model log =
      let n = length files + s.fill.end in
      let k : take n (mem_of files area s) ≡ mem_of files area s = take_all n (mem_of files area s) (omega (arith, length-append files (take s.fill.end area), length-take s.fill.end area)) in
      model_same n (mem_of files area s) (files ++ area) (known_front files area s.fill.end ∙ sym k) (store_of nums s) s log (bounded_ends (length files) n (store_of nums s) s v.bounded)
