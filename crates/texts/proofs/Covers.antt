-- "Strategies with elements go first, otherwise in order of creation; the first to cover a port keeps it.": what holds of the isolated ports.
-- Assumes nothing.
use Rattle.std.specs.Prelude.{◌≡◌, Bool, cond, not, Option, None, Some}
use Rattle.std.proofs.Math.Path.{refl, ap}
use Rattle.std.proofs.Common.{sym, ◌∙◌, ⊎_elim}
use Rattle.std.proofs.Math.Bool.{true, false}
use mathlib.Core.List.{List, [], ◌∷◌, ◌++◌, map, flat_map, append_assoc, append-nil, map-append}
use mathlib.Core.List.Memᴰ.{append_cases}
use mathlib.Core.List.Memᴰ.{eq_of_singleton as eq-single}
use mathlib.Core.List.Memᴰ.{head as here}
use mathlib.Core.List.Memᴰ.{not-nil}
use mathlib.Core.List.Memᴰ.{tail as there}
use mathlib.Core.List.{Memᴰ as Mem}
use Rattle.text.specs.Ascii.{Bytes}
use Rattle.out.specs.Fill.{format2}
use Rattle.design.specs.Lists.{is_in}
use Rattle.design.specs.Laws.{is_in_out}
use Rattle.walk.specs.Reach.{Distinct}
use Rattle.model.specs.Records.{Domain, Isolation}
use Rattle.texts.specs.Setting.{Setting, slash_path}
use Rattle.texts.specs.Isolation.{Isolated, Target, Resolved, Cover, no_cover, lowered, is_clamp, domain_named, outputs_of, element_targets, resolved, key_of, isolated_by, remarked, reported, kept, covering, covered, isolation_line, applies_to, is_outputs, in_domain, with_domain, with_signal, strategies, in_rounds, isolation}

-- ---- strategy after strategy

-- P holds of what has been isolated so far, and stays: with a warning more, with a report line more, and with a port more that a strategy of the
-- list keeps, which was not covered before
module _ (s : Setting) (P : Cover → Type 0)
    (remark : (c : Cover) (t : Bytes) → P c → P (remarked c t))
    (line : (c : Cover) (t : Bytes) → P c → P (reported c t)) where
  module _ (i : Isolation) (sig : Bytes) (keep : (t : Target) (c : Cover) (n : Bytes) → is_in (key_of t) c.keys ≡ false → P c → P (kept s i sig t c (Resolved.net n))) where
    kept_holds : (t : Target) (c : Cover) (r : Resolved) → is_in (key_of t) c.keys ≡ false → P c → P (kept s i sig t c r)
    kept_holds t c Resolved.absent new h = h
    kept_holds t c Resolved.not_plain_lem new h = remark c _ h
    kept_holds t c (Resolved.net n) new h = keep t c n new h

    covering_holds : (ts : List Target) (c : Cover) → P c → P (covering s i sig ts c)
    unfolding covering
    covering_holds [] c h = h
    covering_holds (t ∷ ts) c h = covering_holds ts (cond (is_in (key_of t) c.keys) c (kept s i sig t c (resolved s t))) (go (is_in (key_of t) c.keys) refl)
      where
        go : (b : Bool) → is_in (key_of t) c.keys ≡ b → P (cond b c (kept s i sig t c (resolved s t)))
        go true e = h
        go false e = kept_holds t c (resolved s t) e h

    covered_holds : (ts : List Target) (c : Cover) → P c → P (covered s i sig ts c)
    covered_holds ts c h = line (covering s i sig ts c) (isolation_line i sig) (covering_holds ts c h)

    domain_holds : (d : Domain) (c : Cover) (es : List Bytes) → P c → P (in_domain s i sig d c es)
    domain_holds d c [] h = go (is_outputs (applies_to i))
      where
        go : (b : Bool) → P (cond b (covered s i sig (flat_map (outputs_of s) d.elements) c) (remarked c (format2 "isolation strategy '{0}': -applies_to {1} not simulated (outputs only)" i.name (applies_to i))))
        go true = covered_holds (flat_map (outputs_of s) d.elements) c h
        go false = remark c _ h
    domain_holds d c (e ∷ es) h = covered_holds (flat_map (element_targets s) (e ∷ es)) c h

    with_domain_holds : (c : Cover) (o : Option Domain) → P c → P (with_domain s i sig c o)
    with_domain_holds c None h = remark c _ h
    with_domain_holds c (Some d) h = domain_holds d c i.elements h

    clamped_holds : (c : Cover) → P c → P (with_signal s i c (Some sig))
    clamped_holds c h = go (is_clamp (lowered i.clamp))
      where
        go : (b : Bool) → P (cond b (with_domain s i sig c (domain_named s.records i.domain)) (remarked c (format2 "isolation strategy '{0}': clamp value '{1}' not simulated" i.name (lowered i.clamp))))
        go true = with_domain_holds c (domain_named s.records i.domain) h
        go false = remark c _ h

  module _ (Q : Isolation → Type 0) (keep : (i : Isolation) (sig : Bytes) (t : Target) (c : Cover) (n : Bytes) → Q i → i.signal ≡ Some sig → is_in (key_of t) c.keys ≡ false → P c → P (kept s i sig t c (Resolved.net n))) where
    signal_holds : (i : Isolation) (c : Cover) (o : Option Bytes) → Q i → i.signal ≡ o → P c → P (with_signal s i c o)
    signal_holds i c None q e h = remark c _ h
    signal_holds i c (Some sig) q e h = clamped_holds i sig (λ t c n new h. keep i sig t c n q e new h) c h

    pub strategies_hold : (is : List Isolation) (c : Cover) → ((i : Isolation) → Mem i is → Q i) → P c → P (strategies s is c)
    unfolding strategies
    strategies_hold [] c q h = h
    strategies_hold (i ∷ is) c q h = strategies_hold is (with_signal s i c i.signal) (λ k m. q k (there m)) (signal_holds i c i.signal (q i (here refl)) refl h)

-- ---- no port twice

distinct_snoc : (l : List Bytes) (q : Bytes) → Distinct l → (Mem q l → ⊥) → Distinct (l ++ (q ∷ []))
distinct_snoc [] q h out = (not-nil, tt)
distinct_snoc (x ∷ l) q h out = (go, distinct_snoc l q h.1 (λ m. out (there m)))
  where
    go : Mem x (l ++ (q ∷ [])) → ⊥
    go m = ⊎_elim h.0 (λ n. out (here (sym (eq-single n)))) (append_cases l m)

module _ (s : Setting) where
  -- the keys are different, and the ports are theirs
  abbrev Once : Cover → Type 0
  Once c = Distinct c.keys × (map (λ (p : Isolated). p.port) c.ports ≡ map (slash_path s) c.keys)

  once : (is : List Isolation) → Once (strategies s is no_cover)
  once is =
      strategies_hold s Once (λ c t h. h) (λ c t h. h) (λ i. Unit {0})
      (λ i sig t c n q e new h. (
        distinct_snoc c.keys (key_of t) h.0 (is_in_out (key_of t) c.keys new),
        map-append (λ (p : Isolated). p.port) c.ports (isolated_by s i sig t n ∷ []) ∙ ap (λ (l : List Bytes). l ++ (slash_path s (key_of t) ∷ [])) h.1 ∙ sym (map-append (slash_path s) c.keys (key_of t ∷ [])),
      ))
      is no_cover (λ i m. tt) (tt, refl)

  -- a port, instance and port as written, is isolated one time
  pub covered_once : Distinct (isolation s).keys
  unfolding isolation
  covered_once = (once (in_rounds s.records.isolations)).0

  pub covered_ports : map (λ (p : Isolated). p.port) (isolation s).ports ≡ map (slash_path s) (isolation s).keys
  unfolding isolation
  covered_ports = (once (in_rounds s.records.isolations)).1

  -- ---- what is kept stays

  abbrev From : List Isolated → Cover → Type 0
  From ps c = (more : List Isolated) × (c.ports ≡ ps ++ more)

  stays : (is : List Isolation) (c : Cover) → From c.ports (strategies s is c)
  stays is c =
      strategies_hold s (From c.ports) (λ c t h. h) (λ c t h. h) (λ i. Unit {0})
      (λ i sig t k n q e new h. (h.0 ++ (isolated_by s i sig t n ∷ []), ap (λ (l : List Isolated). l ++ (isolated_by s i sig t n ∷ [])) h.1 ∙ append_assoc c.ports h.0 (isolated_by s i sig t n ∷ [])))
      is c (λ i m. tt) ([], sym (append-nil c.ports))

  in_turn : (front back : List Isolation) (c : Cover) → strategies s (front ++ back) c ≡ strategies s back (strategies s front c)
  unfolding strategies
  in_turn [] back c = refl
  in_turn (i ∷ front) back c = in_turn front back (with_signal s i c i.signal)

  -- "the first to cover a port keeps it": what the strategies in front have kept stays, whatever comes behind them
  pub first_keeps : (front back : List Isolation) → in_rounds s.records.isolations ≡ front ++ back → (more : List Isolated) × ((isolation s).ports ≡ (strategies s front no_cover).ports ++ more)
  unfolding isolation
  first_keeps front back e =
      let r = stays back (strategies s front no_cover) in
      (r.0, ap (λ (is : List Isolation). (strategies s is no_cover).ports) e ∙ ap (λ (c : Cover). c.ports) (in_turn front back no_cover) ∙ r.1)
