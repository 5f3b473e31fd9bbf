-- An instance below a module, by the parts of a text: what isolation asks of it. Assumes nothing.
use Rattle.std.specs.Prelude.{ℕ, ◌≡◌, length, Option, None, Some}
use Rattle.std.proofs.Common.{arith, ap}
use Rattle.std.proofs.Math.Path.{refl}
use mathlib.Core.List.{List, [], ◌∷◌, map}
use Rattle.text.specs.Ascii.{Bytes, byte}
use Rattle.joblines.specs.Job.{Conn, Inst, Module}
use Rattle.design.specs.Lists.{on_some}
use Rattle.design.specs.Lookup.{module_named, instance_named, module_at}
use Rattle.design.specs.Ports.{output_ports}
use Rattle.design.specs.Paths.{parts}
use Rattle.names.specs.Parts.{first_part, others, parts_some}
use Rattle.actual.specs.Nets.{actual_of}
use Rattle.texts.specs.Setting.{Setting}
use Rattle.texts.specs.Isolation.{Target, last_part, front_parts, outputs_of, Resolved, below_parent, resolved}

-- its parent, its connections, its own module
pub record Instance : Type 0 where
  pub parent : Module
  pub conns : List Conn
  pub sub : Module

-- the last part names it, the parts before lead to its parent
unfoldable pub instance_at : List Module → Module → List Bytes → Option Instance
instance_at d m [] = None
instance_at d m (p ∷ []) = on_some (instance_named m p) None λ i. on_some (module_named d i.type) None λ s. Some (record { parent = m; conns = i.conns; sub = s })
instance_at d m (p ∷ q ∷ ps) = on_some (instance_named m p) None λ i. on_some (module_named d i.type) None λ m'. instance_at d m' (q ∷ ps)

abbrev pub found : Module → Inst → Module → Instance
found m i s = record { parent = m; conns = i.conns; sub = s }

-- ---- laws: what a target comes to, by its instance

abbrev sub_of : Option Instance → Option Module
sub_of None = None
sub_of (Some x) = Some x.sub

at_sub : (d : List Module) (m : Module) (p : Bytes) (ps : List Bytes) → module_at d m (p ∷ ps) ≡ sub_of (instance_at d m (p ∷ ps))
unfolding module_at instance_at
at_sub d m p [] = go (instance_named m p)
  where
    down : (o : Option Module) (i : Inst) → on_some o None (λ m'. Some m') ≡ sub_of (on_some o None λ s. Some (found m i s))
    down None i = refl
    down (Some m') i = refl

    go : (o : Option Inst) → on_some o None (λ i. on_some (module_named d i.type) None λ m'. Some m') ≡ sub_of (on_some o None λ i. on_some (module_named d i.type) None λ s. Some (found m i s))
    go None = refl
    go (Some i) = down (module_named d i.type) i
at_sub d m p (q ∷ ps) = go (instance_named m p) (λ m'. at_sub d m' q ps)
  where
    down : (o : Option Module) → ((m' : Module) → module_at d m' (q ∷ ps) ≡ sub_of (instance_at d m' (q ∷ ps))) → on_some o None (λ m'. module_at d m' (q ∷ ps)) ≡ sub_of (on_some o None λ m'. instance_at d m' (q ∷ ps))
    down None h = refl
    down (Some m') h = h m'

    go : (o : Option Inst) → ((m' : Module) → module_at d m' (q ∷ ps) ≡ sub_of (instance_at d m' (q ∷ ps))) → on_some o None (λ i. on_some (module_named d i.type) None λ m'. module_at d m' (q ∷ ps)) ≡ sub_of (on_some o None λ i. on_some (module_named d i.type) None λ m'. instance_at d m' (q ∷ ps))
    go None h = refl
    go (Some i) h = down (module_named d i.type) h

-- what is made of the parent, the instance and its module is made of the instance that is found
module _ {A : Type 0} (z : A) (f : List Conn → Module → A) (d : List Module) where
  abbrev asked : Module → List Bytes → A
  asked m ps = on_some (module_at d m (front_parts ps)) z λ parent. on_some (module_at d m ps) z λ sub. on_some (instance_named parent (last_part ps)) z λ i. f i.conns sub

  abbrev told : Module → List Bytes → A
  told m ps = on_some (instance_at d m ps) z λ x. f x.conns x.sub

  asked_told : (m : Module) (p : Bytes) (ps : List Bytes) → asked m (p ∷ ps) ≡ told m (p ∷ ps)
  unfolding module_at instance_at
  asked_told m p [] = go (instance_named m p) refl
    where
      down : (i : Inst) → instance_named m p ≡ Some i → (o : Option Module)
          → on_some (on_some o None λ m'. Some m') z (λ sub. on_some (instance_named m p) z λ j. f j.conns sub) ≡ on_some (on_some o None λ s. Some (found m i s)) z (λ x. f x.conns x.sub)
      down i e None = refl
      down i e (Some m') = rw e

      go : (o : Option Inst) → instance_named m p ≡ o
          → on_some (on_some o None λ i. on_some (module_named d i.type) None λ m'. Some m') z (λ sub. on_some (instance_named m p) z λ j. f j.conns sub)
          ≡ on_some (on_some o None λ i. on_some (module_named d i.type) None λ s. Some (found m i s)) z (λ x. f x.conns x.sub)
      go None e = refl
      go (Some i) e = down i e (module_named d i.type)
  asked_told m p (q ∷ ps) = go (instance_named m p) (λ m'. asked_told m' q ps)
    where
      down : (o : Option Module) → ((m' : Module) → asked m' (q ∷ ps) ≡ told m' (q ∷ ps))
          → on_some (on_some o None λ m'. module_at d m' (front_parts (q ∷ ps))) z (λ parent. on_some (on_some o None λ m'. module_at d m' (q ∷ ps)) z λ sub. on_some (instance_named parent (last_part (q ∷ ps))) z λ i. f i.conns sub)
          ≡ on_some (on_some o None λ m'. instance_at d m' (q ∷ ps)) z (λ x. f x.conns x.sub)
      down None h = refl
      down (Some m') h = h m'

      go : (o : Option Inst) → ((m' : Module) → asked m' (q ∷ ps) ≡ told m' (q ∷ ps))
          → on_some (on_some o None λ i. on_some (module_named d i.type) None λ m'. module_at d m' (front_parts (q ∷ ps))) z (λ parent. on_some (on_some o None λ i. on_some (module_named d i.type) None λ m'. module_at d m' (q ∷ ps)) z λ sub. on_some (instance_named parent (last_part (q ∷ ps))) z λ i. f i.conns sub)
          ≡ on_some (on_some o None λ i. on_some (module_named d i.type) None λ m'. instance_at d m' (q ∷ ps)) z (λ x. f x.conns x.sub)
      go None h = refl
      go (Some i) h = down (module_named d i.type) h

-- what a target comes to
abbrev pub comes : List Bytes → Bytes → List Conn → Module → Resolved
comes ps port conns sub = on_some (actual_of conns sub port) Resolved.not_plain_lem λ n. Resolved.net (below_parent (front_parts ps) n)

pub resolved_is : (s : Setting) (t : Target) → resolved s t ≡ on_some (instance_at s.design s.base (parts t.inst)) Resolved.absent λ x. comes (parts t.inst) t.port x.conns x.sub
unfolding resolved
resolved_is s t = go (parts t.inst) (parts_some (byte "/") t.inst)
  where
    go : (ps : List Bytes) → ps ≡ first_part ps ∷ others ps
        → (on_some (module_at s.design s.base (front_parts ps)) Resolved.absent λ parent. on_some (module_at s.design s.base ps) Resolved.absent λ sub. on_some (instance_named parent (last_part ps)) Resolved.absent λ i. comes ps t.port i.conns sub)
        ≡ (on_some (instance_at s.design s.base ps) Resolved.absent λ x. comes ps t.port x.conns x.sub)
    go [] e = absurd (let z : ◌≡◌ {A = ℕ} 0 1 = ap (λ (l : List Bytes). length l) e in omega arith)
    go (p ∷ ps) e = asked_told Resolved.absent (comes (p ∷ ps) t.port) s.design s.base p ps

abbrev pub aimed : Bytes → Bytes → Target
aimed e p = record { inst = e; port = p }

-- and the output ports of an element
pub outputs_is : (s : Setting) (e : Bytes) → outputs_of s e ≡ on_some (instance_at s.design s.base (parts e)) [] λ x. map (λ p. aimed e p) (output_ports x.sub)
outputs_is s e = go (parts e) (parts_some (byte "/") e)
  where
    on : (o : Option Instance) → on_some (sub_of o) [] (λ m. map (λ p. aimed e p) (output_ports m)) ≡ on_some o [] λ x. map (λ p. aimed e p) (output_ports x.sub)
    on None = refl
    on (Some x) = refl

    go : (ps : List Bytes) → ps ≡ first_part ps ∷ others ps
        → (on_some (module_at s.design s.base ps) [] λ m. map (λ (p : Bytes). aimed e p) (output_ports m)) ≡ on_some (instance_at s.design s.base ps) [] λ x. map (λ (p : Bytes). aimed e p) (output_ports x.sub)
    go [] d = absurd (let z : ◌≡◌ {A = ℕ} 0 1 = ap (λ (l : List Bytes). length l) d in omega arith)
    go (p ∷ ps) d = rw (at_sub s.design s.base p ps) (on (instance_at s.design s.base (p ∷ ps)))
