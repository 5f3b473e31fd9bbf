-- Theorem: what the definitions cover is what is gained from the ports that are aimed at. Assumes nothing.
use Rattle.std.specs.Prelude.{ℕ, ◌≡◌, Bool, true, false, cond, Option, None, Some}
use Rattle.std.proofs.Math.Path.{refl, sym, ap, ap₂}
use Rattle.std.proofs.Common.{◌∙◌}
use mathlib.Core.List.{List, [], ◌∷◌, ◌++◌, map, flat_map, append_assoc, append-nil}
use Rattle.text.specs.Ascii.{Bytes, ascii, byte}
use Rattle.text.specs.Scan.{any, is}
use Rattle.out.specs.Fill.{format3, fill, filled, adds, turns, arg, pick}
use Rattle.design.specs.Lists.{on_some, is_in}
use Rattle.design.specs.Ports.{output_ports}
use Rattle.design.specs.Paths.{parts}
use Rattle.model.specs.Records.{Isolation}
use Rattle.model.specs.Scope.{up}
use Rattle.actual.specs.Nets.{actual_of}
use Rattle.texts.specs.Setting.{Setting}
use Rattle.texts.specs.Isolation.{Isolated, Target, last_part, front_parts, below_parent, outputs_of, element_targets, Resolved, resolved, key_of, Cover, isolated_by, kept as kept_by, covering}
use Rattle.targets.specs.Instance.{Instance, instance_at, comes, aimed, resolved_is, outputs_is}
use Rattle.targets.specs.Textual.{up_is}
use Rattle.isolated.specs.Table.{Kept, kept, keys_of}
use Rattle.keep.specs.Gains.{Aim, Gain, stay, behind, not_plain, gain_of, gains, gains_none, gains_append}
use Rattle.cover.specs.Aims.{net_below, port_aim, port_aims, output_aims, slash_aims, element_aims}

-- ---- the ports that targets come to

abbrev pub aims_by : Bytes → Resolved → List Aim
aims_by key Resolved.absent = []
aims_by key Resolved.not_plain_lem = record { key = key; net = None } ∷ []
aims_by key (Resolved.net n) = record { key = key; net = Some n } ∷ []

unfoldable pub target_aims : Setting → List Target → List Aim
target_aims s [] = []
target_aims s (t ∷ ts) = aims_by (key_of t) (resolved s t) ++ target_aims s ts

pub aims_append : (s : Setting) (ts us : List Target) → target_aims s (ts ++ us) ≡ target_aims s ts ++ target_aims s us
unfolding target_aims
aims_append s [] us = refl
aims_append s (t ∷ ts) us = ap (λ (l : List Aim). aims_by (key_of t) (resolved s t) ++ l) (aims_append s ts us) ∙ sym (append_assoc (aims_by (key_of t) (resolved s t)) (target_aims s ts) (target_aims s us))

-- ---- of an element

module _ (s : Setting) where
  comes_aims : (key : Bytes) (ps : List Bytes) (o : Option Bytes) → aims_by key (on_some o Resolved.not_plain_lem λ n. Resolved.net (below_parent (front_parts ps) n)) ≡ record { key = key; net = net_below ps o } ∷ []
  comes_aims key ps None = refl
  comes_aims key ps (Some n) = refl

  ports_aims : (e : Bytes) (x : Instance) → instance_at s.design s.base (parts e) ≡ Some x → (ps : List Bytes) → target_aims s (map (λ p. aimed e p) ps) ≡ port_aims e x.conns x.sub ps
  unfolding target_aims
  ports_aims e x h [] = refl
  ports_aims e x h (p ∷ ps) =
      let r : resolved s (aimed e p) ≡ comes (parts e) p x.conns x.sub = resolved_is s (aimed e p) ∙ rw h in
      rw (r, comes_aims (key_of (aimed e p)) (parts e) (actual_of x.conns x.sub p)) (ap (λ (l : List Aim). port_aim (parts e) (key_of (aimed e p)) x.conns x.sub p ∷ l) (ports_aims e x h ps))

  pub outputs_aims : (e : Bytes) → target_aims s (outputs_of s e) ≡ output_aims s.design s.base e
  unfolding target_aims
  outputs_aims e = ap (target_aims s) (outputs_is s e) ∙ go (instance_at s.design s.base (parts e)) refl
    where
      go : (o : Option Instance) → instance_at s.design s.base (parts e) ≡ o → target_aims s (on_some o [] λ x. map (λ p. aimed e p) (output_ports x.sub)) ≡ on_some o [] λ x. port_aims e x.conns x.sub (output_ports x.sub)
      go None h = refl
      go (Some x) h = ports_aims e x h (output_ports x.sub)

  slash_aims_lem : (e : Bytes) → any (is (byte "/")) e ≡ true → target_aims s (aimed (up e) (last_part (parts e)) ∷ []) ≡ slash_aims s.design s.base e
  unfolding target_aims
  slash_aims_lem e h =
      let k : key_of (aimed (up e) (last_part (parts e))) ≡ e = up_is e h in
      rw (append-nil (aims_by (key_of (aimed (up e) (last_part (parts e)))) (resolved s (aimed (up e) (last_part (parts e))))), k, resolved_is s (aimed (up e) (last_part (parts e)))) (go (instance_at s.design s.base (parts (up e))))
    where
      go : (o : Option Instance) → aims_by e (on_some o Resolved.absent λ x. comes (parts (up e)) (last_part (parts e)) x.conns x.sub) ≡ on_some o [] λ x. port_aim (parts (up e)) e x.conns x.sub (last_part (parts e)) ∷ []
      go None = refl
      go (Some x) = comes_aims e (parts (up e)) (actual_of x.conns x.sub (last_part (parts e)))

  pub element_aims_lem : (e : Bytes) → target_aims s (element_targets s e) ≡ element_aims s.design s.base e
  element_aims_lem e = go (any (is (byte "/")) e) refl
    where
      go : (b : Bool) → any (is (byte "/")) e ≡ b → target_aims s (cond b (aimed (up e) (last_part (parts e)) ∷ []) (outputs_of s e)) ≡ cond b (slash_aims s.design s.base e) (output_aims s.design s.base e)
      go true h = slash_aims_lem e h
      go false h = outputs_aims e

  -- of several
  pub flat_aims : (g : Bytes → List Target) (h : Bytes → List Aim) → ((e : Bytes) → target_aims s (g e) ≡ h e) → (es : List Bytes) → target_aims s (flat_map g es) ≡ flat_map h es
  unfolding flat_map target_aims
  flat_aims g h k [] = refl
  flat_aims g h k (e ∷ es) = aims_append s (g e) (flat_map g es) ∙ ap₂ (λ (a b : List Aim). a ++ b) (k e) (flat_aims g h k es)

-- ---- what is gained, shown as the definitions have it: f shows a port that is kept

abbrev pub shown : (Kept → Isolated) → Cover → Gain → Cover
shown f c g = record { keys = keys_of g.rows; ports = map f g.rows; report = c.report ++ g.report; warnings = c.warnings ++ g.remarks }

-- the definitions' state stands for the ports that are kept
pub record Shows (f : Kept → Isolated) (c : Cover) (l : List Kept) : Type 0 where
  pub keys : c.keys ≡ keys_of l
  pub ports : c.ports ≡ map f l

pub shown_shows : (f : Kept → Isolated) (c : Cover) (g : Gain) → Shows f (shown f c g) g.rows
shown_shows f c g = record { keys = refl; ports = refl }

pub shown_stay : (f : Kept → Isolated) (c : Cover) (l : List Kept) → Shows f c l → shown f c (stay l) ≡ c
shown_stay f c l h = rw (append-nil c.report, append-nil c.warnings, ← h.keys, ← h.ports)

pub shown_behind : (f : Kept → Isolated) (c : Cover) (g h : Gain) → shown f (shown f c g) h ≡ shown f c (behind g h)
shown_behind f c g h = rw (append_assoc c.report g.report h.report, append_assoc c.warnings g.remarks h.remarks)

map_push : {A B : Type 0} (f : A → B) (l : List A) (x : A) → map f (l ++ (x ∷ [])) ≡ map f l ++ (f x ∷ [])
map_push f [] x = refl
map_push f (y ∷ l) x = ap (λ m. f y ∷ m) (map_push f l x)

plain_text : (name inst port : Bytes) → format3 "isolation strategy '{0}': port '{1}/{2}' actual is not a plain net; not simulated" name inst port ≡ not_plain name (inst ++ (ascii "/" ++ port))
unfolding fill filled adds turns arg pick
plain_text name inst port = rw append_assoc

module _ (s : Setting) (i : Isolation) (sig : Bytes) (n : ℕ) (f : Kept → Isolated) (by : (t : Target) (w : Bytes) → f (kept n (key_of t) w) ≡ isolated_by s i sig t w) where
  one_is : (t : Target) (c : Cover) (l : List Kept) → Shows f c l → (r : Resolved) → cond (is_in (key_of t) c.keys) c (kept_by s i sig t c r) ≡ shown f c (gains n i.name (aims_by (key_of t) r) l)
  unfolding gain_of gains
  one_is t c l h r = go r (is_in (key_of t) (keys_of l)) refl
    where
      same_keys : is_in (key_of t) c.keys ≡ is_in (key_of t) (keys_of l)
      same_keys = ap (is_in (key_of t)) h.keys

      go : (r : Resolved) (b : Bool) → is_in (key_of t) (keys_of l) ≡ b → cond (is_in (key_of t) c.keys) c (kept_by s i sig t c r) ≡ shown f c (gains n i.name (aims_by (key_of t) r) l)
      go Resolved.absent b e = go' (is_in (key_of t) c.keys) ∙ sym (shown_stay f c l h)
        where
          go' : (d : Bool) → cond d c c ≡ c
          go' true = refl
          go' false = refl
      go Resolved.not_plain_lem true e = rw (same_keys, e) (sym (shown_stay f c l h))
      go Resolved.not_plain_lem false e = rw (same_keys, e, plain_text i.name t.inst t.port, h.keys, h.ports, append-nil c.report)
      go (Resolved.net w) true e = rw (same_keys, e) (sym (shown_stay f c l h))
      go (Resolved.net w) false e =
          rw (same_keys, e, h.keys, h.ports, append-nil c.report, append-nil c.warnings, map_push f l (kept n (key_of t) w), map_push (λ (x : Kept). x.key) l (kept n (key_of t) w), by t w)

  pub covering_is : (ts : List Target) (c : Cover) (l : List Kept) → Shows f c l → covering s i sig ts c ≡ shown f c (gains n i.name (target_aims s ts) l)
  unfolding covering target_aims
  covering_is [] c l h = sym (shown_stay f c l h) ∙ ap (shown f c) (sym (gains_none n i.name l))
  covering_is (t ∷ ts) c l h =
      let xs = aims_by (key_of t) (resolved s t) in
      let g = gains n i.name xs l in
      ap (covering s i sig ts) (one_is t c l h (resolved s t))
      ∙ covering_is ts (shown f c g) g.rows (shown_shows f c g)
      ∙ shown_behind f c g (gains n i.name (target_aims s ts) g.rows)
      ∙ ap (shown f c) (sym (gains_append n i.name xs (target_aims s ts) l))
