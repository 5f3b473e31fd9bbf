-- A deed carried out, as the code does it: whether it is refused, how many rows and warnings there are with it, the row in the store, the record in its
-- table; and that this is what the deed comes to. Assumes nothing.
use Rattle.std.specs.Prelude.{ℕ, ◌+◌, ◌≡◌, refl, Bool, true, false, cond, List, leb}
use Rattle.std.proofs.Common.{sym}
use Rattle.text.specs.Sames.{no_true}
use Rattle.store.specs.Rows.{row_put_lem}
use Rattle.store.specs.Added.{domain_added, net_added, port_added, switch_added, isolation_added, retention_added, shifter_added, portstate_added, table_added, variable_added, domain_set, isolation_set, top_set, warning_counted}
use Rattle.store.specs.declared.row.Row.{Row}
use Rattle.store.specs.declared.state.State.{State}
use Rattle.made.specs.declared.Deed.{Deed}
use Rattle.made.specs.declared.Deed.TheVariants as deed
use Rattle.made.specs.Made.{no_row, full_made, warning_row, words_set, done_by, Fits}

-- where there are so many warnings a limit is passed
abbrev pub refused_by : ℕ → Deed → Bool
refused_by w deed.Nothing = false
refused_by w deed.Full = true
refused_by w (deed.Warning kind name) = leb 256 w
refused_by w (deed.Row r) = false
refused_by w (deed.Variable a b) = false
refused_by w (deed.Top t) = false
refused_by w (deed.Domain x) = false
refused_by w (deed.Supplied i x) = false
refused_by w (deed.Net x) = false
refused_by w (deed.Port x) = false
refused_by w (deed.Isolation x) = false
refused_by w (deed.Controlled i x) = false
refused_by w (deed.Retention x) = false
refused_by w (deed.Shifter x) = false
refused_by w (deed.Table x) = false
refused_by w (deed.Switch x e) = false
refused_by w (deed.PortState x e) = false

-- so many rows there are with it
abbrev pub rows_by : Deed → ℕ → ℕ
rows_by deed.Nothing k = k
rows_by deed.Full k = k
rows_by (deed.Warning kind name) k = k + 1
rows_by (deed.Row r) k = k + 1
rows_by (deed.Variable a b) k = k
rows_by (deed.Top t) k = k
rows_by (deed.Domain x) k = k
rows_by (deed.Supplied i x) k = k
rows_by (deed.Net x) k = k
rows_by (deed.Port x) k = k
rows_by (deed.Isolation x) k = k
rows_by (deed.Controlled i x) k = k
rows_by (deed.Retention x) k = k
rows_by (deed.Shifter x) k = k
rows_by (deed.Table x) k = k
rows_by (deed.Switch x e) k = k
rows_by (deed.PortState x e) k = k

-- so many warnings there are with it
abbrev pub warnings_by : Deed → ℕ → ℕ
warnings_by deed.Nothing k = k
warnings_by deed.Full k = k
warnings_by (deed.Warning kind name) k = k + 1
warnings_by (deed.Row r) k = k
warnings_by (deed.Variable a b) k = k
warnings_by (deed.Top t) k = k
warnings_by (deed.Domain x) k = k
warnings_by (deed.Supplied i x) k = k
warnings_by (deed.Net x) k = k
warnings_by (deed.Port x) k = k
warnings_by (deed.Isolation x) k = k
warnings_by (deed.Controlled i x) k = k
warnings_by (deed.Retention x) k = k
warnings_by (deed.Shifter x) k = k
warnings_by (deed.Table x) k = k
warnings_by (deed.Switch x e) k = k
warnings_by (deed.PortState x e) k = k

-- its row; none of kind 0
abbrev pub row_by : ℕ → Deed → Row
row_by w deed.Nothing = no_row
row_by w deed.Full = no_row
row_by w (deed.Warning kind name) = cond (leb 256 w) no_row (warning_row kind name)
row_by w (deed.Row r) = r
row_by w (deed.Variable a b) = no_row
row_by w (deed.Top t) = no_row
row_by w (deed.Domain x) = no_row
row_by w (deed.Supplied i x) = no_row
row_by w (deed.Net x) = no_row
row_by w (deed.Port x) = no_row
row_by w (deed.Isolation x) = no_row
row_by w (deed.Controlled i x) = no_row
row_by w (deed.Retention x) = no_row
row_by w (deed.Shifter x) = no_row
row_by w (deed.Table x) = no_row
row_by w (deed.Switch x e) = no_row
row_by w (deed.PortState x e) = no_row

-- the numbers with its row
abbrev pub deed_put : List ℕ → ℕ → ℕ → Deed → List ℕ
deed_put l k w deed.Nothing = l
deed_put l k w deed.Full = l
deed_put l k w (deed.Warning kind name) = cond (leb 256 w) l (row_put_lem l k (warning_row kind name))
deed_put l k w (deed.Row r) = row_put_lem l k r
deed_put l k w (deed.Variable a b) = l
deed_put l k w (deed.Top t) = l
deed_put l k w (deed.Domain x) = l
deed_put l k w (deed.Supplied i x) = l
deed_put l k w (deed.Net x) = l
deed_put l k w (deed.Port x) = l
deed_put l k w (deed.Isolation x) = l
deed_put l k w (deed.Controlled i x) = l
deed_put l k w (deed.Retention x) = l
deed_put l k w (deed.Shifter x) = l
deed_put l k w (deed.Table x) = l
deed_put l k w (deed.Switch x e) = l
deed_put l k w (deed.PortState x e) = l

-- the state with its record
abbrev pub record_by : State → Deed → State
record_by s deed.Nothing = s
record_by s deed.Full = s
record_by s (deed.Warning kind name) = s
record_by s (deed.Row r) = s
record_by s (deed.Variable a b) = variable_added s a b
record_by s (deed.Top t) = top_set s t
record_by s (deed.Domain x) = domain_added s x
record_by s (deed.Supplied i x) = domain_set s i x
record_by s (deed.Net x) = net_added s x
record_by s (deed.Port x) = port_added s x
record_by s (deed.Isolation x) = isolation_added s x
record_by s (deed.Controlled i x) = isolation_set s i x
record_by s (deed.Retention x) = retention_added s x
record_by s (deed.Shifter x) = shifter_added s x
record_by s (deed.Table x) = table_added s x
record_by s (deed.Switch x e) = words_set (switch_added s x) e
record_by s (deed.PortState x e) = words_set (portstate_added s x) e

-- the state with its rows and warnings counted
abbrev pub counted_by : State → Deed → State
counted_by s d =
    record {
      head = s.head;
      count = s.count;
      fill = record { end = s.fill.end; log = s.fill.log; rows = rows_by d s.fill.rows; words = s.fill.words; warnings = warnings_by d s.fill.warnings };
      domains = s.domains;
      nets = s.nets;
      ports = s.ports;
      switches = s.switches;
      isolations = s.isolations;
      retentions = s.retentions;
      shifters = s.shifters;
      portstates = s.portstates;
      tables = s.tables;
      variables = s.variables;
    }

-- ---- the parts are the whole
pub refused_is : (s : State) (d : Deed) → refused_by s.fill.warnings d ≡ true → done_by s d ≡ full_made s
refused_is s deed.Nothing h = absurd (no_true h)
refused_is s deed.Full h = refl
refused_is s (deed.Warning kind name) h = rw h
refused_is s (deed.Row r) h = absurd (no_true h)
refused_is s (deed.Variable a b) h = absurd (no_true h)
refused_is s (deed.Top t) h = absurd (no_true h)
refused_is s (deed.Domain x) h = absurd (no_true h)
refused_is s (deed.Supplied i x) h = absurd (no_true h)
refused_is s (deed.Net x) h = absurd (no_true h)
refused_is s (deed.Port x) h = absurd (no_true h)
refused_is s (deed.Isolation x) h = absurd (no_true h)
refused_is s (deed.Controlled i x) h = absurd (no_true h)
refused_is s (deed.Retention x) h = absurd (no_true h)
refused_is s (deed.Shifter x) h = absurd (no_true h)
refused_is s (deed.Table x) h = absurd (no_true h)
refused_is s (deed.Switch x e) h = absurd (no_true h)
refused_is s (deed.PortState x e) h = absurd (no_true h)

pub taken_tag : (s : State) (d : Deed) → refused_by s.fill.warnings d ≡ false → (done_by s d).tag ≡ 0
taken_tag s deed.Nothing h = refl
taken_tag s deed.Full h = absurd (no_true (sym h))
taken_tag s (deed.Warning kind name) h = rw h
taken_tag s (deed.Row r) h = refl
taken_tag s (deed.Variable a b) h = refl
taken_tag s (deed.Top t) h = refl
taken_tag s (deed.Domain x) h = refl
taken_tag s (deed.Supplied i x) h = refl
taken_tag s (deed.Net x) h = refl
taken_tag s (deed.Port x) h = refl
taken_tag s (deed.Isolation x) h = refl
taken_tag s (deed.Controlled i x) h = refl
taken_tag s (deed.Retention x) h = refl
taken_tag s (deed.Shifter x) h = refl
taken_tag s (deed.Table x) h = refl
taken_tag s (deed.Switch x e) h = refl
taken_tag s (deed.PortState x e) h = refl

pub taken_is : (s : State) (d : Deed) → refused_by s.fill.warnings d ≡ false → (done_by s d).state ≡ record_by (counted_by s d) d
taken_is s deed.Nothing h = refl
taken_is s deed.Full h = refl
taken_is s (deed.Warning kind name) h = rw h
taken_is s (deed.Row r) h = refl
taken_is s (deed.Variable a b) h = refl
taken_is s (deed.Top t) h = refl
taken_is s (deed.Domain x) h = refl
taken_is s (deed.Supplied i x) h = refl
taken_is s (deed.Net x) h = refl
taken_is s (deed.Port x) h = refl
taken_is s (deed.Isolation x) h = refl
taken_is s (deed.Controlled i x) h = refl
taken_is s (deed.Retention x) h = refl
taken_is s (deed.Shifter x) h = refl
taken_is s (deed.Table x) h = refl
taken_is s (deed.Switch x e) h = refl
taken_is s (deed.PortState x e) h = refl

pub fits_counted : (s : State) (d : Deed) → Fits s d → Fits (counted_by s d) d
fits_counted s deed.Nothing h = h
fits_counted s deed.Full h = h
fits_counted s (deed.Warning kind name) h = h
fits_counted s (deed.Row r) h = h
fits_counted s (deed.Variable a b) h = h
fits_counted s (deed.Top t) h = h
fits_counted s (deed.Domain x) h = h
fits_counted s (deed.Supplied i x) h = h
fits_counted s (deed.Net x) h = h
fits_counted s (deed.Port x) h = h
fits_counted s (deed.Isolation x) h = h
fits_counted s (deed.Controlled i x) h = h
fits_counted s (deed.Retention x) h = h
fits_counted s (deed.Shifter x) h = h
fits_counted s (deed.Table x) h = h
fits_counted s (deed.Switch x e) h = h
fits_counted s (deed.PortState x e) h = h

pub row_is_lem : (s : State) (d : Deed) → (done_by s d).row ≡ row_by s.fill.warnings d
row_is_lem s deed.Nothing = refl
row_is_lem s deed.Full = refl
row_is_lem s (deed.Warning kind name) = go (leb 256 s.fill.warnings)
  where
    go : (b : Bool) → (cond b (full_made s) (record { tag = 0; state = warning_counted s; row = warning_row kind name })).row ≡ cond b no_row (warning_row kind name)
    go true = refl
    go false = refl
row_is_lem s (deed.Row r) = refl
row_is_lem s (deed.Variable a b) = refl
row_is_lem s (deed.Top t) = refl
row_is_lem s (deed.Domain x) = refl
row_is_lem s (deed.Supplied i x) = refl
row_is_lem s (deed.Net x) = refl
row_is_lem s (deed.Port x) = refl
row_is_lem s (deed.Isolation x) = refl
row_is_lem s (deed.Controlled i x) = refl
row_is_lem s (deed.Retention x) = refl
row_is_lem s (deed.Shifter x) = refl
row_is_lem s (deed.Table x) = refl
row_is_lem s (deed.Switch x e) = refl
row_is_lem s (deed.PortState x e) = refl
