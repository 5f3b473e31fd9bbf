-- Of an accepted job and its index: a module loses at most 192 names, has at most 192 non-output ports and 64 instances, so the table of its modules can be made.
-- Assumes nothing.
use Rattle.std.specs.Prelude.{ℕ, suc, ◌+◌, ◌≤◌, ◌<◌, ◌≡◌, refl, Bool, true, false, cond, not, ◌&&◌, length}
use Rattle.std.proofs.Common.{ap, arith, length-append}
use mathlib.Core.List.{List, [], ◌∷◌, ◌++◌, flat_map}
use mathlib.Core.List.Memᴰ.{head as here}
use mathlib.Core.List.Memᴰ.{tail as there}
use mathlib.Core.List.{Memᴰ as Mem}
use Rattle.std.proofs.lemmas.List.{length-map}
use Rattle.text.specs.Ascii.{Bytes}
use Rattle.fields.specs.Fields.{Dir, input, Style, ansi, nonansi, empty, Kind}
use Rattle.joblines.specs.Job.{Port, Decl, Module, Job}
use Rattle.joblines.specs.Parse.{accepted, parse}
use Rattle.jobfacts.specs.WellFormed.{All, GoodModule}
use Rattle.jobfacts.proofs.Accepted.{accepted_good}
use Rattle.jobindex.specs.Index.{module_row, Indexed}
use Rattle.jobindex.specs.declared.Header.{Header}
use Rattle.design.specs.Lists.{those, is_in, add_new, add_all}
use Rattle.design.specs.Ports.{taken, directed, header_ports, body_port, body_ports, is_output, outputs, others, is_signal, signals, input_ports, output_ports, losable}
use Rattle.modtable.specs.Making.{Limited}
use Rattle.walkfits.specs.Accepted.{row_in}

-- ---- fewer

those_fewer : {A : Type 0} (p : A → Bool) (l : List A) → length (those p l) ≤ length l
unfolding those
those_fewer p [] = omega arith
those_fewer p (x ∷ l) = go (p x) (those_fewer p l)
  where
    go : (b : Bool) → length (those p l) ≤ length l → length (cond b (x ∷ those p l) (those p l)) ≤ suc (length l)
    go true h = omega arith
    go false h = omega arith

new_fewer : (l : List Bytes) (q : Bytes) → length (add_new l q) ≤ length l + 1
unfolding add_new
new_fewer l q = go (is_in q l)
  where
    go : (b : Bool) → length (cond b l (l ++ (q ∷ []))) ≤ length l + 1
    go true = omega arith
    go false = omega (arith, length-append l (q ∷ []))

added_fewer : (l qs : List Bytes) → length (add_all l qs) ≤ length l + length qs
unfolding add_all
added_fewer l [] = omega arith
added_fewer l (q ∷ qs) = omega (arith, added_fewer (add_new l q) qs, new_fewer l q)

-- ---- ports and declarations

directed_long : (last : Dir) (ps : List Port) → length (directed last ps) ≡ length ps
unfolding directed
directed_long last [] = refl
directed_long last (p ∷ ps) = ap suc (directed_long (taken last p.dir) ps)

header_fewer : (s : Style) (ps : List Port) → length (header_ports s ps) ≤ length ps
header_fewer Style.ansi ps = omega (arith, directed_long input ps)
header_fewer Style.nonansi ps = omega arith
header_fewer Style.empty ps = omega arith

outputs_fewer : (ps : List Port) → length (outputs ps) ≤ length ps
outputs_fewer ps = omega (arith, length-map (those (λ (p : Port). is_output p.dir) ps) (λ (p : Port). p.name), those_fewer (λ (p : Port). is_output p.dir) ps)

others_fewer : (ps : List Port) → length (others ps) ≤ length ps
others_fewer ps = omega (arith, length-map (those (λ (p : Port). not (is_output p.dir)) ps) (λ (p : Port). p.name), those_fewer (λ (p : Port). not (is_output p.dir)) ps)

-- a declaration is a port or a signal, or neither
decls_fewer : (ds : List Decl) → length (body_ports ds) + length (those (λ (d : Decl). is_signal d.kind && not d.dims) ds) ≤ length ds
unfolding those flat_map
decls_fewer [] = omega arith
decls_fewer (x ∷ ds) = go x.kind x.dims (decls_fewer ds)
  where
    go : (k : Kind) (b : Bool) → length (body_ports ds) + length (those (λ (d : Decl). is_signal d.kind && not d.dims) ds) ≤ length ds
        → length (body_port k x.name ++ body_ports ds) + length (cond (is_signal k && not b) (x ∷ those (λ (d : Decl). is_signal d.kind && not d.dims) ds) (those (λ (d : Decl). is_signal d.kind && not d.dims) ds)) ≤ suc (length ds)
    go Kind.net true h = omega arith
    go Kind.net false h = omega arith
    go Kind.variable true h = omega arith
    go Kind.variable false h = omega arith
    go Kind.odd b h = omega arith
    go (Kind.body dir) b h = omega arith

losable_few : (m : Module) → length (losable m) ≤ length m.ports + length m.decls
losable_few m =
    omega (
      arith,
      those_fewer (λ n. not (is_in n (input_ports m))) (output_ports m ++ signals m.decls),
      length-append (output_ports m) (signals m.decls),
      added_fewer (outputs (header_ports m.style m.ports)) (outputs (body_ports m.decls)),
      outputs_fewer (header_ports m.style m.ports),
      header_fewer m.style m.ports,
      outputs_fewer (body_ports m.decls),
      length-map (those (λ (d : Decl). is_signal d.kind && not d.dims) m.decls) (λ (d : Decl). d.name),
      decls_fewer m.decls,
    )

inputs_few : (m : Module) → length (input_ports m) ≤ length m.ports + length m.decls
inputs_few m =
    omega (
      arith,
      length-append (others (header_ports m.style m.ports)) (others (body_ports m.decls)),
      others_fewer (header_ports m.style m.ports),
      header_fewer m.style m.ports,
      others_fewer (body_ports m.decls),
      decls_fewer m.decls,
    )

-- ---- an accepted job

all_at : {A : Type 0} (P : A → Type 0) (l : List A) → All P l → {x : A} → Mem x l → P x
all_at {A = A} P [] h x4 = elim x4 [ ]
all_at P (y ∷ l) h (here e) = rw e h.0
all_at P (y ∷ l) h (there m) = all_at P l h.1 m

module _ (job : Bytes) (index : List ℕ) (head : Header) (j : Job) (ix : Indexed job index head j) (ok : parse job ≡ accepted j) where
  pub accepted_limited : (k : ℕ) → k < head.modules → Limited job index k
  accepted_limited k h =
      let g : GoodModule (module_row job index k) = all_at GoodModule j.modules (accepted_good job j ok).lists.modules (row_in job index head j ix ok k h) in
      record { inputs_few = omega (arith, inputs_few (module_row job index k), g.ports_few, g.decls_few); names_few = omega (arith, losable_few (module_row job index k), g.ports_few, g.decls_few); insts_few = g.insts_few }
