-- The report lines by the texts that stand in them, and as those of the records that are stored. Assumes nothing.
use Rattle.std.specs.Prelude.{ℕ, zero, suc, ◌+◌, ◌≡◌, refl, List, [], map, length, take}
use Rattle.std.proofs.Math.Path.{sym}
use Rattle.std.proofs.Common.{ap, ◌∙◌}
use Rattle.std.proofs.lemmas.List.{length-map}
use Rattle.text.specs.Ascii.{Bytes, ascii}
use Rattle.out.specs.Fill.{fill, format2, format4}
use Rattle.out.specs.Items.{each, joined}
use Rattle.out.specs.Number.{decimal}
use Rattle.nametable.specs.Table.{names_from, table_names}
use Rattle.format.specs.Args.{rooted}
use Rattle.texts.specs.Setting.{Setting}
use Rattle.texts.specs.Supplies.{supply_nets}
use Rattle.texts.specs.Texts.{scope_line, shifter_line, warning_line}
use Rattle.store.specs.View.{Store, shifter_of, warnings_in, warning_text, model_of}
use Rattle.store.specs.Order.{Shaped}
use Rattle.store.specs.declared.state.State.{State}

-- the scope's path and its module
abbrev pub head_text : Bytes → List Bytes → Bytes → Bytes
head_text top scope name = format2 "scope {0} ({1}), " (rooted top scope []) name

-- and its n nets
abbrev pub scope_text : Bytes → List Bytes → Bytes → ℕ → List Bytes → Bytes
scope_text top scope name n nets = format4 "scope {0} ({1}), {2} supply nets: {3}\n" (rooted top scope []) name (decimal n) (joined (ascii ", ") nets)

-- ---- laws: these are the lines of the report

names_length : (mem : Bytes) (t : List ℕ) (k n : ℕ) → length (names_from mem t k n) ≡ n
unfolding names_from
names_length mem t k zero = refl
names_length mem t k (suc n) = ap suc (names_length mem t (k + 1) n)

pub scope_is_lem : (s : Setting) (mem : Bytes) (table : List ℕ) (n : ℕ) → table_names mem table n ≡ supply_nets s.records → scope_text s.top s.scope s.base.name n (table_names mem table n) ≡ scope_line s
scope_is_lem s mem table n e =
    let z : n ≡ length (supply_nets s.records) = sym (names_length mem table 0 n) ∙ ap length e in
    rw (e, z)

module _ (mem : Bytes) (st : Store) (s : State) (log : Bytes) (t : Setting) (e : t.records ≡ model_of mem st s log) where
  pub shifters_seen : each shifter_line (map (shifter_of mem) (take s.shifters.n s.shifters.all)) ≡ each shifter_line t.records.shifters
  unfolding model_of
  shifters_seen = rw e

  pub warnings_seen : each warning_line (map (warning_text mem) (warnings_in st.rows)) ≡ each warning_line t.records.warnings
  unfolding model_of
  warnings_seen = rw e

  -- how many there are
  pub warnings_count : Shaped st s → length t.records.warnings ≡ s.fill.warnings
  unfolding model_of
  warnings_count h = rw e (length-map (warnings_in st.rows) (warning_text mem) ∙ sym h.warnings)
