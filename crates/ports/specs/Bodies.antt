-- The names of declarations, by what is asked for: output ports, other ports, or `net` and `data` without dimensions.
-- Assumes nothing.
use Rattle.std.specs.Prelude.{Option, Some, None}
use Rattle.std.specs.Prelude.{ℕ, ◌≡◌, refl, Bool, true, false, cond, not, ◌&&◌, eqb}
use Rattle.std.proofs.Common.{ap}
use mathlib.Core.List.{List, [], ◌∷◌, ◌++◌, map, flat_map}
use Rattle.text.specs.Ascii.{Bytes, byte}
use Rattle.fields.specs.Fields.{Dir, Kind}
use Rattle.joblines.specs.Job.{Decl}
use Rattle.joblines.specs.Sections.{decls_in}
use Rattle.jobindex.specs.Index.{section}
use Rattle.design.specs.Lists.{those}
use Rattle.design.specs.Ports.{body_ports, is_output, outputs, others, is_signal, signals}
use Rattle.lines.specs.Cursors.{spanned}
use Rattle.ports.specs.declared.NameAt.{NameAt}
use Rattle.ports.specs.declared.body.Pick.{Pick}
use Rattle.ports.specs.declared.body.Pick.TheVariants as pick
use Rattle.ports.specs.Headers.{NameOn}

abbrev pub body_out : Kind → Bool
body_out Kind.net = false
body_out Kind.variable = false
body_out Kind.odd = false
body_out (Kind.body dir) = is_output dir

abbrev pub body_other : Kind → Bool
body_other Kind.net = false
body_other Kind.variable = false
body_other Kind.odd = false
body_other (Kind.body dir) = not (is_output dir)

abbrev pub pick_is : Pick → Kind → Bool → Bool
pick_is pick.Output k d = body_out k
pick_is pick.Other k d = body_other k
pick_is pick.Signal k d = is_signal k && not d

-- no spelling of a kind that is asked for begins with b
abbrev pub is_off : Pick → ℕ → Bool
is_off pick.Output b = not (eqb b (byte "o"))
is_off pick.Other b = not (eqb b (byte "i")) && not (eqb b (byte "r"))
is_off pick.Signal b = not (eqb b (byte "n")) && not (eqb b (byte "d"))

unfoldable pub picked : Pick → List Decl → List Bytes
picked p [] = []
picked p (d ∷ ds) = cond (pick_is p d.kind d.dims) (d.name ∷ picked p ds) (picked p ds)

-- they are those of the definitions
pub picked_outputs : (ds : List Decl) → outputs (body_ports ds) ≡ picked pick.Output ds
unfolding those picked flat_map
picked_outputs [] = refl
picked_outputs (d ∷ ds) = go d.kind (picked_outputs ds)
  where
    go : (k : Kind) → outputs (body_ports ds) ≡ picked pick.Output ds → outputs (body_ports (record { kind = k; dims = d.dims; name = d.name } ∷ ds)) ≡ cond (body_out k) (d.name ∷ picked pick.Output ds) (picked pick.Output ds)
    go Kind.net e = e
    go Kind.variable e = e
    go Kind.odd e = e
    go (Kind.body Dir.input) e = e
    go (Kind.body Dir.output) e = rw e
    go (Kind.body Dir.inout) e = e
    go (Kind.body Dir.ref) e = e
    go (Kind.body Dir.undirected) e = e

pub picked_others : (ds : List Decl) → others (body_ports ds) ≡ picked pick.Other ds
unfolding those picked flat_map
picked_others [] = refl
picked_others (d ∷ ds) = go d.kind (picked_others ds)
  where
    go : (k : Kind) → others (body_ports ds) ≡ picked pick.Other ds → others (body_ports (record { kind = k; dims = d.dims; name = d.name } ∷ ds)) ≡ cond (body_other k) (d.name ∷ picked pick.Other ds) (picked pick.Other ds)
    go Kind.net e = e
    go Kind.variable e = e
    go Kind.odd e = e
    go (Kind.body Dir.input) e = rw e
    go (Kind.body Dir.output) e = e
    go (Kind.body Dir.inout) e = rw e
    go (Kind.body Dir.ref) e = rw e
    go (Kind.body Dir.undirected) e = rw e

pub picked_signals : (ds : List Decl) → signals ds ≡ picked pick.Signal ds
unfolding those picked
picked_signals [] = refl
picked_signals (d ∷ ds) = go (is_signal d.kind && not d.dims) (picked_signals ds)
  where
    go : (b : Bool) → signals ds ≡ picked pick.Signal ds → map (λ (d : Decl). d.name) (cond b (d ∷ those (λ (d : Decl). is_signal d.kind && not d.dims) ds) (those (λ (d : Decl). is_signal d.kind && not d.dims) ds)) ≡ cond b (d.name ∷ picked pick.Signal ds) (picked pick.Signal ds)
    go true e = ap (λ (l : List Bytes). d.name ∷ l) e
    go false e = e

pub picked_append : (p : Pick) (xs ys : List Decl) → picked p (xs ++ ys) ≡ picked p xs ++ picked p ys
unfolding picked
picked_append p [] ys = refl
picked_append p (d ∷ xs) ys = go (pick_is p d.kind d.dims) (picked_append p xs ys)
  where
    go : (b : Bool) → picked p (xs ++ ys) ≡ picked p xs ++ picked p ys → cond b (d.name ∷ picked p (xs ++ ys)) (picked p (xs ++ ys)) ≡ cond b (d.name ∷ picked p xs) (picked p xs) ++ picked p ys
    go true e = ap (λ (l : List Bytes). d.name ∷ l) e
    go false e = e

-- ---- a step along them
abbrev pub body_left : Bytes → ℕ → Pick → Option NameAt → List Bytes
body_left job end p None = []
body_left job end p (Some r) = spanned job r.name ∷ picked p (decls_in (section job r.next end))

pub record BodySeen (job : Bytes) (at end : ℕ) (p : Pick) (r : Option NameAt) : Type 0 where
  pub says : body_left job end p r ≡ picked p (decls_in (section job at end))
  pub goes : NameOn job at end r
