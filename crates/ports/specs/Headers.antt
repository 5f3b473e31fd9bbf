-- The output ports of a header and all others, as they come line by line: all that counts of the last direction is whether it is output.
-- Assumes nothing.
use Rattle.std.specs.Prelude.{Option, Some, None}
use Rattle.std.specs.Prelude.{ℕ, ◌≡◌, refl, Bool, true, false, cond, List, [], ◌∷◌}
use Rattle.std.proofs.Common.{ap, ◌∙◌}
use Rattle.text.specs.Ascii.{Bytes}
use Rattle.fields.specs.Fields.{Dir}
use Rattle.joblines.specs.Job.{Port}
use Rattle.joblines.specs.Lines.{is_none}
use Rattle.joblines.specs.Sections.{ports_in}
use Rattle.jobindex.specs.Index.{section}
use Rattle.design.specs.Lists.{those}
use Rattle.design.specs.Ports.{taken, directed, is_output, outputs, others}
use Rattle.lines.specs.Cursors.{spanned, Stepped}
use Rattle.ports.specs.declared.NameAt.{NameAt}

-- a port is an output, behind one that is or is not
abbrev pub out_by : Bool → Dir → Bool
out_by out dir = cond (is_none dir) out (is_output dir)

unfoldable pub outputs_by : Bool → List Port → List Bytes
outputs_by out [] = []
outputs_by out (p ∷ ps) = cond (out_by out p.dir) (p.name ∷ outputs_by true ps) (outputs_by false ps)

unfoldable pub others_by : Bool → List Port → List Bytes
others_by out [] = []
others_by out (p ∷ ps) = cond (out_by out p.dir) (others_by true ps) (p.name ∷ others_by false ps)

-- they are those of the definitions
out_taken : (last dir : Dir) → is_output (taken last dir) ≡ out_by (is_output last) dir
out_taken last Dir.input = refl
out_taken last Dir.output = refl
out_taken last Dir.inout = refl
out_taken last Dir.ref = refl
out_taken last Dir.undirected = refl

pub outputs_by_lem : (last : Dir) (ps : List Port) → outputs (directed last ps) ≡ outputs_by (is_output last) ps
unfolding directed those outputs_by
outputs_by_lem last [] = refl
outputs_by_lem last (p ∷ ps) = go (out_by (is_output last) p.dir) (out_taken last p.dir) (outputs_by_lem (taken last p.dir) ps)
  where
    go : (b : Bool) → is_output (taken last p.dir) ≡ b → outputs (directed (taken last p.dir) ps) ≡ outputs_by (is_output (taken last p.dir)) ps
        → outputs (directed last (p ∷ ps)) ≡ cond b (p.name ∷ outputs_by true ps) (outputs_by false ps)
    go true e f = rw e (ap (λ (l : List Bytes). p.name ∷ l) (f ∙ ap (λ b. outputs_by b ps) e))
    go false e f = rw e (f ∙ ap (λ b. outputs_by b ps) e)

pub others_by_lem : (last : Dir) (ps : List Port) → others (directed last ps) ≡ others_by (is_output last) ps
unfolding directed those others_by
others_by_lem last [] = refl
others_by_lem last (p ∷ ps) = go (out_by (is_output last) p.dir) (out_taken last p.dir) (others_by_lem (taken last p.dir) ps)
  where
    go : (b : Bool) → is_output (taken last p.dir) ≡ b → others (directed (taken last p.dir) ps) ≡ others_by (is_output (taken last p.dir)) ps
        → others (directed last (p ∷ ps)) ≡ cond b (others_by true ps) (p.name ∷ others_by false ps)
    go true e f = rw e (f ∙ ap (λ b. others_by b ps) e)
    go false e f = rw e (ap (λ (l : List Bytes). p.name ∷ l) (f ∙ ap (λ b. others_by b ps) e))

-- ---- a step along them
abbrev pub header_left : Bytes → ℕ → Option NameAt → List Bytes
header_left job end None = []
header_left job end (Some r) = spanned job r.name ∷ outputs_by true (ports_in (section job r.next end))

abbrev pub NameOn : Bytes → ℕ → ℕ → Option NameAt → Type 0
NameOn job at end None = Unit {0}
NameOn job at end (Some r) = Stepped job at end r.next

pub record HeaderSeen (job : Bytes) (at end : ℕ) (out : Bool) (r : Option NameAt) : Type 0 where
  pub says : header_left job end r ≡ outputs_by out (ports_in (section job at end))
  pub goes : NameOn job at end r

-- ---- a step along the others: behind one of them the last direction is not output
abbrev pub other_left : Bytes → ℕ → Option NameAt → List Bytes
other_left job end None = []
other_left job end (Some r) = spanned job r.name ∷ others_by false (ports_in (section job r.next end))

pub record OtherSeen (job : Bytes) (at end : ℕ) (r : Option NameAt) : Type 0 where
  pub says : other_left job end r ≡ others_by false (ports_in (section job at end))
