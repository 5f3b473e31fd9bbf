-- Laws: what is losable, said by membership; a lookup stays in the module lines.
-- Assumes nothing.
use Rattle.std.specs.Prelude.{◌≡◌, refl, ◌⊎◌, ◌↔◌, Bool, not, ◌&&◌, List, [], ◌∷◌, ◌++◌, None, Some}
use Rattle.std.proofs.Common.{ap, ◌∙◌, inl, inr, ⊎_elim}
use mathlib.Core.List.Memᴰ.{cases_cons}
use mathlib.Core.List.Memᴰ.{head as here}
use mathlib.Core.List.Memᴰ.{not-nil}
use mathlib.Core.List.Memᴰ.{tail as there}
use mathlib.Core.List.{Memᴰ as Mem}
use mathlib.Core.List.Memᴰ.{append_cases}
use mathlib.Core.List.Memᴰ.{append_left as on-left}
use mathlib.Core.List.Memᴰ.{append_right as on-right}
use mathlib.Core.List.Memᴰ.{cast}
use mathlib.Core.List.Memᴰ.{eq_of_singleton as eq-single}
use mathlib.Core.List.Memᴰ.{map as mem-map}
use Rattle.text.specs.Ascii.{Bytes}
use Rattle.text.specs.Compare.{same}
use Rattle.fields.specs.Fields.{Dir, input, output, Style, Kind, net, variable, body}
use Rattle.joblines.specs.Job.{Port, Decl, Inst, Module}
use Rattle.design.specs.Lists.{on_some, those, is_in}
use Rattle.design.specs.Lookup.{module_named, instance_named, module_at}
use Rattle.design.specs.Ports.{taken, directed, header_ports, body_port, body_ports, is_output, outputs, output_ports, input_ports, is_signal, signals, losable}
use Rattle.design.specs.Laws.{is_in_out, out_is_in, map_mem, mem_flat, flat_mem, those_mem, mem_those, first_mem, some_of, add_all_new, add_all_inv}
use Rattle.std.proofs.lemmas.Bool.{not-true}

-- "Losable in a module: output ports, and `net` and `data` names with D 0; never a name that is also a non-output port."
pub losable_iff : (m : Module) (n : Bytes) → Mem n (losable m) ↔ ((Mem n (output_ports m) ⊎ Mem n (signals m.decls)) × (Mem n (input_ports m) → ⊥))
losable_iff m n = (
  λ h. let r = those_mem kept all h in (append_cases (output_ports m) r.0, is_in_out n (input_ports m) (not-true (is_in n (input_ports m)) r.1)),
  λ h. mem_those kept all (⊎_elim (λ o. on-left (signals m.decls) o) (λ s. on-right (output_ports m) s) h.0) (ap not (out_is_in n (input_ports m) h.1)),
)
  where
    kept : Bytes → Bool
    kept k = not (is_in k (input_ports m))

    all : List Bytes
    all = output_ports m ++ signals m.decls

-- "output ports (header or body, any dimension or type)": a body's `out` is one, whatever its D
pub body_output : (m : Module) (d : Decl) → Mem d m.decls → d.kind ≡ body output → Mem d.name (output_ports m)
body_output m d at k =
    add_all_new (outputs (header_ports m.style m.ports)) (outputs (body_ports m.decls))
    (mem-map (λ (p : Port). p.name) {a = port}
    (mem_those (λ (p : Port). is_output p.dir) (body_ports m.decls)
    (mem_flat (λ (e : Decl). body_port e.kind e.name) at one) refl))
  where
    port : Port
    port = record { dir = output; name = d.name }

    one : Mem port (body_port d.kind d.name)
    one = rw k (here refl)

-- ---- where the names come from

directed_name : (last : Dir) (ps : List Port) {p : Port} → Mem p (directed last ps) → (o : Port) × Mem o ps × (p.name ≡ o.name)
unfolding directed
directed_name last [] at = absurd (not-nil at)
directed_name last (o ∷ ps) {p} at = go (cases_cons at) (directed_name (taken last o.dir) ps)
  where
    go : (p ≡ record { dir = taken last o.dir; name = o.name }) ⊎ Mem p (directed (taken last o.dir) ps) → (Mem p (directed (taken last o.dir) ps) → (o : Port) × Mem o ps × (p.name ≡ o.name)) → (k : Port) × Mem k (o ∷ ps) × (p.name ≡ k.name)
    go (inl e) ih = (o, here refl, ap (λ (x : Port). x.name) e)
    go (inr n) ih = let r = ih n in (r.0, there r.1, r.2)

header_name : (s : Style) (ps : List Port) {p : Port} → Mem p (header_ports s ps) → (o : Port) × Mem o ps × (p.name ≡ o.name)
header_name Style.ansi ps at = directed_name input ps at
header_name Style.nonansi ps at = absurd (not-nil at)
header_name Style.empty ps at = absurd (not-nil at)

body_name : (k : Kind) (n : Bytes) {p : Port} → Mem p (body_port k n) → p.name ≡ n
body_name Kind.net n at = absurd (not-nil at)
body_name Kind.variable n at = absurd (not-nil at)
body_name Kind.odd n at = absurd (not-nil at)
body_name (Kind.body dir) n at = ap (λ (x : Port). x.name) (eq-single at)

-- a losable name is the name of a port line or of a declaration
pub losable_name : (m : Module) (n : Bytes) → Mem n (losable m) → ((p : Port) × Mem p m.ports × (n ≡ p.name)) ⊎ ((d : Decl) × Mem d m.decls × (n ≡ d.name))
losable_name m n h = ⊎_elim port signal ((losable_iff m n).0 h).0
  where
    Goal : Type 0
    Goal = ((p : Port) × Mem p m.ports × (n ≡ p.name)) ⊎ ((d : Decl) × Mem d m.decls × (n ≡ d.name))

    named : {ps : List Port} → Mem n (outputs ps) → (p : Port) × Mem p ps × (n ≡ p.name)
    named {ps} at =
        let r = map_mem (λ (p : Port). p.name) (those (λ (p : Port). is_output p.dir) ps) at in
        (r.0, (those_mem (λ (p : Port). is_output p.dir) ps r.1).0, r.2)

    header : Mem n (outputs (header_ports m.style m.ports)) → Goal
    header at =
        let r = named at in
        let o = header_name m.style m.ports r.1 in
        inl (o.0, o.1, r.2 ∙ o.2)

    inner : Mem n (outputs (body_ports m.decls)) → Goal
    inner at =
        let r = named at in
        let d = flat_mem (λ (e : Decl). body_port e.kind e.name) m.decls r.1 in
        inr (d.0, d.1, r.2 ∙ body_name d.0.kind d.0.name d.2)

    port : Mem n (output_ports m) → Goal
    port at = ⊎_elim header inner (add_all_inv (outputs (header_ports m.style m.ports)) (outputs (body_ports m.decls)) at)

    signal : Mem n (signals m.decls) → Goal
    signal at =
        let r = map_mem (λ (d : Decl). d.name) (those (λ (d : Decl). is_signal d.kind && not d.dims) m.decls) at in
        inr (r.0, (those_mem (λ (d : Decl). is_signal d.kind && not d.dims) m.decls r.1).0, r.2)

-- ---- a lookup finds a module of the module lines

pub named_mem : (d : List Module) (n : Bytes) {m : Module} → module_named d n ≡ Some m → Mem m d
named_mem d n e = first_mem (λ (m : Module). same m.name n) d e

pub module_at_mem : (d : List Module) (m : Module) (ns : List Bytes) {m' : Module} → Mem m d → module_at d m ns ≡ Some m' → Mem m' d
unfolding module_at
module_at_mem d m [] {m'} at e = cast {a = m'} {b = m} (cc) at
module_at_mem d m (n ∷ ns) at e =
    let i = some_of (instance_named m n) (λ (i : Inst). on_some (module_named d i.type) None (λ m'. module_at d m' ns)) e in
    let k = some_of (module_named d i.0.type) (λ m'. module_at d m' ns) i.2 in
    module_at_mem d k.0 ns (named_mem d i.0.type k.1) k.2
