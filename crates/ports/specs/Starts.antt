-- Laws: what is behind the first cursor of a module's row is what the definitions list of the module.
-- Assumes nothing.
use Rattle.std.specs.Prelude.{ℕ, ◌+◌, ◌≡◌, Bool, cond, not, List, [], ◌++◌, eqb}
use Rattle.std.proofs.Common.{arith, ap, ap₂, ◌∙◌, sym, append-nil}
use Rattle.std.proofs.Math.Path.{refl}
use Rattle.std.proofs.Math.Bool.{true, false}
use Rattle.text.specs.Ascii.{Bytes}
use Rattle.fields.specs.Fields.{ansi, nonansi, empty, input}
use Rattle.fields.specs.Meant.{style_at}
use Rattle.joblines.specs.Job.{Port, Module}
use Rattle.joblines.specs.Sections.{lines_in, gather, ports_in, decls_in}
use Rattle.jobindex.specs.Index.{num, row_at, section, module_row}
use Rattle.design.specs.Lists.{those, is_in, add_all}
use Rattle.design.specs.Ports.{header_ports, body_ports, outputs, others, output_ports, input_ports, signals, losable}
use Rattle.lines.specs.Steps.{section_none, no_ports}
use Rattle.ports.specs.declared.Cursor.TheVariants as cursor
use Rattle.ports.specs.declared.body.Pick.TheVariants as pick
use Rattle.ports.specs.Headers.{outputs_by, others_by, outputs_by_lem, others_by_lem}
use Rattle.ports.specs.Bodies.{picked, picked_outputs, picked_others, picked_signals}
use Rattle.ports.specs.Fresh.{added}
use Rattle.ports.specs.Cursors.{ports_from, decls_from, decls_end, header_end, headed, bodied, outputs_from, inputs_from, losable_from}

-- no style but ansi has header ports
unstyled : (b : Bool) (ps : List Port) → header_ports (cond b nonansi empty) ps ≡ []
unstyled true ps = refl
unstyled false ps = refl

module _ (job : Bytes) (index : List ℕ) (k : ℕ) where
  abbrev row : Module
  row = module_row job index k

  pub header_outputs : outputs (header_ports row.style row.ports) ≡ headed job index k
  unfolding module_row style_at outputs_by those
  header_outputs = go (eqb (num index (row_at k + 2)) 0)
    where
      go : (b : Bool) → outputs (header_ports (cond b ansi (cond (eqb (num index (row_at k + 2)) 1) nonansi empty)) (ports_in (section job (ports_from index k) (decls_from index k))))
          ≡ outputs_by false (ports_in (section job (ports_from index k) (cond b (decls_from index k) (ports_from index k))))
      go true = outputs_by_lem input (ports_in (section job (ports_from index k) (decls_from index k)))
      go false = rw (unstyled (eqb (num index (row_at k + 2)) 1) (ports_in (section job (ports_from index k) (decls_from index k))), no_ports job (ports_from index k)) refl

  pub header_others : others (header_ports row.style row.ports) ≡ others_by false (ports_in (section job (ports_from index k) (header_end index k)))
  unfolding module_row style_at others_by those
  header_others = go (eqb (num index (row_at k + 2)) 0)
    where
      go : (b : Bool) → others (header_ports (cond b ansi (cond (eqb (num index (row_at k + 2)) 1) nonansi empty)) (ports_in (section job (ports_from index k) (decls_from index k))))
          ≡ others_by false (ports_in (section job (ports_from index k) (cond b (decls_from index k) (ports_from index k))))
      go true = others_by_lem input (ports_in (section job (ports_from index k) (decls_from index k)))
      go false = rw (unstyled (eqb (num index (row_at k + 2)) 1) (ports_in (section job (ports_from index k) (decls_from index k))), no_ports job (ports_from index k)) refl

  decls_are : row.decls ≡ decls_in (section job (decls_from index k) (decls_end index k))
  unfolding module_row
  decls_are = refl

  pub inputs_are : input_ports row ≡ others_by false (ports_in (section job (ports_from index k) (header_end index k))) ++ picked pick.Other (decls_in (section job (decls_from index k) (decls_end index k)))
  inputs_are = ap₂ (λ (a b : List Bytes). a ++ b) header_others (ap (λ ds. others (body_ports ds)) decls_are ∙ picked_others (decls_in (section job (decls_from index k) (decls_end index k))))

  pub inputs_start : inputs_from job index k (cursor.Header (ports_from index k) false) ≡ input_ports row
  inputs_start = sym inputs_are

  no_bodied : bodied job (decls_from index k) (decls_from index k) ≡ []
  unfolding lines_in gather picked
  no_bodied = rw (section_none job (decls_from index k) (decls_from index k) (omega arith))

  -- output ports
  pub outputs_start : outputs_from job index k (cursor.Header (ports_from index k) false) ≡ output_ports row
  outputs_start =
      let b : outputs (body_ports row.decls) ≡ bodied job (decls_from index k) (decls_end index k) = ap (λ ds. outputs (body_ports ds)) decls_are ∙ picked_outputs (decls_in (section job (decls_from index k) (decls_end index k))) in
      rw (no_bodied, append-nil (headed job index k)) (sym (ap₂ (λ (x y : List Bytes). add_all x y) header_outputs b ∙ added (headed job index k) (bodied job (decls_from index k) (decls_end index k))))

  -- the names that can be lost
  pub losable_start : losable_from job index k (cursor.Header (ports_from index k) false) ≡ losable row
  losable_start =
      let s : signals row.decls ≡ picked pick.Signal (decls_in (section job (decls_from index k) (decls_end index k))) = ap signals decls_are ∙ picked_signals (decls_in (section job (decls_from index k) (decls_end index k))) in
      ap₂ (λ (x y : List Bytes). those (λ n. not (is_in n (input_ports row))) (x ++ y)) outputs_start (sym s)
