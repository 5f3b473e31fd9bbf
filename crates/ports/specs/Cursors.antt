-- The names of a module that come behind a cursor.
-- Assumes nothing.
use Rattle.std.specs.Prelude.{Option, Some, None}
use Rattle.std.specs.Prelude.{ℕ, ◌+◌, ◌≡◌, false, cond, not, List, [], ◌∷◌, ◌++◌, eqb}
use Rattle.text.specs.Ascii.{Bytes}
use Rattle.joblines.specs.Sections.{ports_in, decls_in}
use Rattle.jobindex.specs.Index.{num, row_at, section, module_row}
use Rattle.design.specs.Lists.{those, is_in}
use Rattle.design.specs.Ports.{input_ports}
use Rattle.lines.specs.Cursors.{spanned}
use Rattle.lines.specs.Steps.{Passed}
use Rattle.ports.specs.declared.NameAt.{NameAt}
use Rattle.ports.specs.declared.Cursor.{Cursor}
use Rattle.ports.specs.declared.Cursor.TheVariants as cursor
use Rattle.ports.specs.declared.Step.{Step}
use Rattle.ports.specs.declared.body.Pick.TheVariants as pick
use Rattle.ports.specs.Headers.{outputs_by, others_by}
use Rattle.ports.specs.Bodies.{picked}
use Rattle.ports.specs.Fresh.{fresh}

-- ---- where the lines of module k are
abbrev pub ports_from : List ℕ → ℕ → ℕ
ports_from index k = num index (row_at k + 3)

abbrev pub decls_from : List ℕ → ℕ → ℕ
decls_from index k = num index (row_at k + 4)

abbrev pub decls_end : List ℕ → ℕ → ℕ
decls_end index k = num index (row_at k + 5)

-- the header has ports only in style ansi
abbrev pub header_end : List ℕ → ℕ → ℕ
header_end index k = cond (eqb (num index (row_at k + 2)) 0) (decls_from index k) (ports_from index k)

-- ---- names by sections
abbrev pub headed : Bytes → List ℕ → ℕ → List Bytes
headed job index k = outputs_by false (ports_in (section job (ports_from index k) (header_end index k)))

abbrev pub bodied : Bytes → ℕ → ℕ → List Bytes
bodied job a e = picked pick.Output (decls_in (section job a e))

-- the new output ports of the body from `at` on
abbrev pub fresh_from : Bytes → List ℕ → ℕ → ℕ → List Bytes
fresh_from job index k at = fresh (headed job index k ++ bodied job (decls_from index k) at) (bodied job at (decls_end index k))

-- `at` is where a declaration line begins
abbrev pub BodyAt : Bytes → List ℕ → ℕ → ℕ → Type 0
BodyAt job index k at = Passed job (decls_from index k) at

abbrev pub fresh_left : Bytes → List ℕ → ℕ → Option NameAt → List Bytes
fresh_left job index k None = []
fresh_left job index k (Some r) = spanned job r.name ∷ fresh_from job index k r.next

abbrev pub BodyOn : Bytes → List ℕ → ℕ → Option NameAt → Type 0
BodyOn job index k None = Unit {0}
BodyOn job index k (Some r) = BodyAt job index k r.next

pub record FreshSeen (job : Bytes) (index : List ℕ) (k at : ℕ) (r : Option NameAt) : Type 0 where
  pub says : fresh_left job index k r ≡ fresh_from job index k at
  pub goes : BodyOn job index k r

-- ---- what is behind a cursor
-- output ports
abbrev pub outputs_from : Bytes → List ℕ → ℕ → Cursor → List Bytes
outputs_from job index k (cursor.Header at out) = outputs_by out (ports_in (section job at (header_end index k))) ++ fresh_from job index k (decls_from index k)
outputs_from job index k (cursor.Body at) = fresh_from job index k at
outputs_from job index k (cursor.Signals at) = []

-- `net` and `data` without dimensions
abbrev pub signals_from : Bytes → List ℕ → ℕ → Cursor → List Bytes
signals_from job index k (cursor.Header at out) = picked pick.Signal (decls_in (section job (decls_from index k) (decls_end index k)))
signals_from job index k (cursor.Body at) = picked pick.Signal (decls_in (section job (decls_from index k) (decls_end index k)))
signals_from job index k (cursor.Signals at) = picked pick.Signal (decls_in (section job at (decls_end index k)))

abbrev pub candidates_from : Bytes → List ℕ → ℕ → Cursor → List Bytes
candidates_from job index k c = outputs_from job index k c ++ signals_from job index k c

-- the names that can be lost
abbrev pub losable_from : Bytes → List ℕ → ℕ → Cursor → List Bytes
losable_from job index k c = those (λ n. not (is_in n (input_ports (module_row job index k)))) (candidates_from job index k c)

-- the non-output ports, from a cursor among the ports that stands behind one of them or at the first line
abbrev pub inputs_from : Bytes → List ℕ → ℕ → Cursor → List Bytes
inputs_from job index k (cursor.Header at out) = others_by false (ports_in (section job at (header_end index k))) ++ picked pick.Other (decls_in (section job (decls_from index k) (decls_end index k)))
inputs_from job index k (cursor.Body at) = picked pick.Other (decls_in (section job at (decls_end index k)))
inputs_from job index k (cursor.Signals at) = []

-- ---- cursors that stand where a line begins
abbrev pub CursorAt : Bytes → List ℕ → ℕ → Cursor → Type 0
CursorAt job index k (cursor.Header at out) = Unit {0}
CursorAt job index k (cursor.Body at) = BodyAt job index k at
CursorAt job index k (cursor.Signals at) = Unit {0}

abbrev pub AmongPorts : Cursor → Type 0
AmongPorts (cursor.Header at out) = Unit {0}
AmongPorts (cursor.Body at) = Unit {0}
AmongPorts (cursor.Signals at) = ⊥

-- ---- a step: the names behind the cursor are none, or the step's name and those behind its cursor
abbrev pub stepped : Bytes → (Cursor → List Bytes) → Option Step → List Bytes
stepped job from None = []
stepped job from (Some r) = spanned job r.name ∷ from r.next

abbrev pub StepOn : Bytes → List ℕ → ℕ → Option Step → Type 0
StepOn job index k None = Unit {0}
StepOn job index k (Some r) = CursorAt job index k r.next

-- an output port's cursor is among the ports
abbrev pub StepPorts : Option Step → Type 0
StepPorts None = Unit {0}
StepPorts (Some r) = AmongPorts r.next

pub record OutputSeen (job : Bytes) (index : List ℕ) (k : ℕ) (c : Cursor) (r : Option Step) : Type 0 where
  pub says : stepped job (outputs_from job index k) r ≡ outputs_from job index k c
  pub goes : StepOn job index k r
  pub ports : StepPorts r

pub record CandidateSeen (job : Bytes) (index : List ℕ) (k : ℕ) (c : Cursor) (r : Option Step) : Type 0 where
  pub says : stepped job (candidates_from job index k) r ≡ candidates_from job index k c
  pub goes : StepOn job index k r

pub record LosableSeen (job : Bytes) (index : List ℕ) (k : ℕ) (c : Cursor) (r : Option Step) : Type 0 where
  pub says : stepped job (losable_from job index k) r ≡ losable_from job index k c
  pub goes : StepOn job index k r

pub record InputSeen (job : Bytes) (index : List ℕ) (k : ℕ) (c : Cursor) (r : Option Step) : Type 0 where
  pub says : stepped job (inputs_from job index k) r ≡ inputs_from job index k c
