-- Laws: the paths that a domain loses have no LF, and the checks in its block have none where the names in the records have none.
-- A listed path is made of NAMEs and of an element that leads to a module, whose parts are NAMEs or empty.
-- Assumes nothing.
use Rattle.std.specs.Prelude.{ℕ, ◌≡◌, Bool, false, cond, ◌&&◌, eqb, leb, length, None, Some}
use Rattle.std.proofs.Math.Path.{refl, subst}
use Rattle.std.proofs.Common.{sym, ap, ◌∙◌, ⊎_elim, eqb-true, ne_eqb}
use Rattle.std.proofs.Math.Bool.{true, not}
use mathlib.Core.List.Memᴰ.{cast}
use mathlib.Core.List.{List, [], ◌∷◌, flat_map, Memᴰ as Mem}
use Rattle.text.specs.Ascii.{Bytes, ascii, byte}
use Rattle.text.specs.Classes.{opens_name, in_name}
use Rattle.text.specs.Compare.{same}
use Rattle.text.specs.Scan.{all, split_at, onto}
use Rattle.text.specs.Sames.{both, no_true, same_eq}
use Rattle.fields.specs.Limits.{most_name}
use Rattle.fields.specs.Fields.{is_name}
use Rattle.joblines.specs.Job.{Inst, Module}
use Rattle.design.specs.Lists.{on_some, those, is_in}
use Rattle.design.specs.Lookup.{instances, instance_named, module_named, module_at}
use Rattle.design.specs.Paths.{child_path, scope_path, dotted, element_path, parts, filled_parts}
use Rattle.design.specs.Laws.{some_of, first_mem, first_passes}
use Rattle.design.specs.Ports.{losable}
use Rattle.design.specs.Losables.{named_mem, module_at_mem, losable_name}
use Rattle.design.specs.AcceptedNames.{AllNamed}
use Rattle.walk.specs.Walk.{domain_list}
use Rattle.walk.specs.Reach.{Leads, end_of, DomainReaches}
use Rattle.walk.proofs.Listed.{listed_reached}
use Rattle.model.specs.Records.{Domain, Isolation}
use Rattle.texts.specs.Setting.{Setting}
use Rattle.texts.specs.Isolation.{Isolated, Target, Resolved, Cover, no_cover, lowered, active_of, key_of, isolated_by, kept, strategies, has_elements, in_rounds, isolation}
use Rattle.texts.specs.Domains.{Check, check_of, checks}
use Rattle.texts.proofs.Covers.{strategies_hold}
use Rattle.texts.proofs.Sorted.{checks_are}
use Rattle.texts.specs.Laws.{all_append, all_at, all_of, all_those, all_weaker}
use Rattle.texts.specs.ForceLines.{on_one_line}
use Rattle.texts.specs.Cuts.{check_on_one_line}

-- ---- NAMEs

abbrev not_lf : ℕ → Bool
not_lf b = not (eqb b (byte "\n"))

-- a class of bytes without LF
apart : (t : ℕ → Bool) → t (byte "\n") ≡ false → (b : ℕ) → t b ≡ true → not_lf b ≡ true
apart t f b e = rw (ne_eqb b (byte "\n") (λ z. no_true (sym f ∙ ap t (sym z) ∙ e)))

pub name_one : (n : Bytes) → is_name n ≡ true → on_one_line n ≡ true
unfolding is_name all
name_one [] e = refl
name_one (b ∷ n) e =
    let h = both (opens_name b) (all in_name n && leb (length (b ∷ n)) most_name) e in
    let r = both (all in_name n) (leb (length (b ∷ n)) most_name) h.1 in
    rw (apart opens_name refl b h.0) (all_weaker in_name not_lf (apart in_name refl) n r.0)

-- ---- paths

child_one : (p n : Bytes) → on_one_line p ≡ true → on_one_line n ≡ true → on_one_line (child_path p n) ≡ true
unfolding all
child_one [] n h g = g
child_one (b ∷ p) n h g = all_append not_lf (b ∷ p) (byte "." ∷ n) h g

behind_one : (ns : List Bytes) → all on_one_line ns ≡ true → on_one_line (flat_map (λ (m : Bytes). byte "." ∷ m) ns) ≡ true
unfolding all flat_map
behind_one [] h = refl
behind_one (n ∷ ns) h =
    let b = both (on_one_line n) (all on_one_line ns) h in
    all_append not_lf (byte "." ∷ n) (flat_map (λ (m : Bytes). byte "." ∷ m) ns) b.0 (behind_one ns b.1)

scope_one : (ns : List Bytes) → all on_one_line ns ≡ true → on_one_line (scope_path ns) ≡ true
unfolding all
scope_one [] h = refl
scope_one (n ∷ ns) h =
    let b = both (on_one_line n) (all on_one_line ns) h in
    all_append not_lf n (flat_map (λ (m : Bytes). byte "." ∷ m) ns) b.0 (behind_one ns b.1)

-- `/` as `.` brings no LF
dotted_one : (e : Bytes) → on_one_line e ≡ true → on_one_line (dotted e) ≡ true
unfolding all
dotted_one [] h = refl
dotted_one (b ∷ e) h =
    let r = both (not_lf b) (on_one_line e) h in
    go (eqb b (byte "/")) r.0 (dotted_one e r.1)
  where
    go : (s : Bool) → not_lf b ≡ true → on_one_line (dotted e) ≡ true → not_lf (cond s (byte ".") b) && on_one_line (dotted e) ≡ true
    go true x g = g
    go false x g = rw x g

pub element_one : (scope : List Bytes) (e : Bytes) → all on_one_line scope ≡ true → on_one_line e ≡ true → on_one_line (element_path scope e) ≡ true
element_one scope [] s h = scope_one scope s
element_one scope (b ∷ e) s h = child_one (scope_path scope) (dotted (b ∷ e)) (scope_one scope s) (dotted_one (b ∷ e) h)

-- ---- an element and its parts

onto_one : (x : ℕ) (ps : List Bytes) → all on_one_line (onto x ps) ≡ not_lf x && all on_one_line ps
unfolding all
onto_one x [] = go (not_lf x)
  where
    go : (b : Bool) → (b && true) && true ≡ b && true
    go true = refl
    go false = refl
onto_one x (p ∷ ps) = go (not_lf x)
  where
    go : (b : Bool) → (b && on_one_line p) && all on_one_line ps ≡ b && (on_one_line p && all on_one_line ps)
    go true = refl
    go false = refl

parts_one : (e : Bytes) → all on_one_line (parts e) ≡ on_one_line e
unfolding all split_at
parts_one [] = refl
parts_one (x ∷ e) = go (eqb x (byte "/")) refl (parts_one e)
  where
    go : (b : Bool) → eqb x (byte "/") ≡ b → all on_one_line (parts e) ≡ on_one_line e → all on_one_line (cond b ([] ∷ parts e) (onto x (parts e))) ≡ not_lf x && on_one_line e
    go true h ih = rw (eqb-true x (byte "/") h) ih
    go false h ih = rw (onto_one x (parts e), ih)

filled_one : (ps : List Bytes) → all on_one_line (those (λ p. not (same p [])) ps) ≡ all on_one_line ps
unfolding all those
filled_one [] = refl
filled_one (p ∷ ps) = go (same p []) refl (filled_one ps)
  where
    go : (b : Bool) → same p [] ≡ b → all on_one_line (those (λ q. not (same q [])) ps) ≡ all on_one_line ps → all on_one_line (cond (not b) (p ∷ those (λ q. not (same q [])) ps) (those (λ q. not (same q [])) ps)) ≡ on_one_line p && all on_one_line ps
    go true h ih = rw (same_eq p [] h) ih
    go false h ih = rw ih

-- an element has no LF if the names that it is looked up by have none
pub element_parts : (e : Bytes) → all on_one_line (filled_parts e) ≡ true → on_one_line e ≡ true
element_parts e h = sym (filled_one (parts e) ∙ parts_one e) ∙ h

-- ---- names that lead to a module

module _ (d : List Module) (named : AllNamed d) where
  pub lookup_one : (m : Module) (ns : List Bytes) {m' : Module} → Mem m d → module_at d m ns ≡ Some m' → all on_one_line ns ≡ true
  unfolding module_at all
  lookup_one m [] at e = refl
  lookup_one m (n ∷ ns) at e =
      let i = some_of (instance_named m n) (λ (i : Inst). on_some (module_named d i.type) None (λ m'. module_at d m' ns)) e in
      let k = some_of (module_named d i.0.type) (λ m'. module_at d m' ns) i.2 in
      let is : i.0.name ≡ n = same_eq i.0.name n (first_passes (λ (i : Inst). same i.name n) (instances m) i.1) in
      let one : on_one_line n ≡ true = subst (λ (x : Bytes). on_one_line x ≡ true) is (name_one i.0.name ((named m at).insts i.0 (first_mem (λ (i : Inst). same i.name n) (instances m) i.1))) in
      rw one (lookup_one k.0 ns (named_mem d i.0.type k.1) k.2)

  -- ---- listed paths

  end_one : (m : Module) (p : Bytes) (chain : List Inst) (last : Module) → Mem m d → Leads d m chain last → on_one_line p ≡ true → (on_one_line (end_of p chain) ≡ true) × Mem last d
  end_one m p [] last at l h = (h, cast (sym l) at)
  end_one m p (i ∷ is) last at l h =
      end_one l.0 (child_path p i.name) is last (named_mem d i.type l.3) l.4 (child_one p i.name h (name_one i.name ((named m at).insts i l.1)))

  losable_one : (m : Module) (n : Bytes) → Mem m d → Mem n (losable m) → on_one_line n ≡ true
  losable_one m n at h =
      ⊎_elim
      (λ r. name_one n (subst (λ (x : Bytes). is_name x ≡ true) (sym r.2) ((named m at).ports r.0 r.1)))
      (λ r. name_one n (subst (λ (x : Bytes). is_name x ≡ true) (sym r.2) ((named m at).decls r.0 r.1)))
      (losable_name m n h)

  module _ (base : Module) (at : Mem base d) (scope : List Bytes) (short : all on_one_line scope ≡ true) where
    reached_one : (entries es : List Bytes) (q : Bytes) → DomainReaches d base scope entries es q → on_one_line q ≡ true
    reached_one entries es q r =
        let e = r.reached in
        let w = e.reaches in
        let path = element_one scope r.element short (element_parts r.element (lookup_one base (filled_parts r.element) at e.found)) in
        let z = end_one e.start (element_path scope r.element) w.chain w.last (module_at_mem d base (filled_parts r.element) at e.found) w.leads path in
        subst (λ (x : Bytes). on_one_line x ≡ true) (sym w.written) (child_one (end_of (element_path scope r.element) w.chain) w.name z.0 (losable_one w.last w.name z.1 w.loses))

    pub listed_one : (entries es : List Bytes) → all on_one_line (domain_list d base scope entries es) ≡ true
    listed_one entries es = all_of on_one_line (domain_list d base scope entries es) (λ q m. reached_one entries es q (listed_reached d base scope entries es m))

-- ---- the checks of a domain's block

-- what is asked of a strategy's name and signal, and of a port that it keeps
abbrev strategy_one : Isolation → Bool
strategy_one i = on_one_line i.name && on_some i.signal true on_one_line

abbrev port_one : Isolated → Bool
port_one p = check_on_one_line (check_of p)

active_one : (i : Isolation) → on_one_line (active_of i) ≡ true
unfolding all
active_one i = go (same (lowered i.sense) (ascii "low"))
  where
    go : (b : Bool) → on_one_line (cond b (ascii "1'b0") (ascii "1'b1")) ≡ true
    go true = refl
    go false = refl

module _ (s : Setting) (short : all on_one_line s.scope ≡ true) where
  kept_one : (i : Isolation) (sig : Bytes) (t : Target) (c : Cover) (n : Bytes) → strategy_one i ≡ true → i.signal ≡ Some sig → is_in (key_of t) c.keys ≡ false → all port_one c.ports ≡ true → all port_one (kept s i sig t c (Resolved.net n)).ports ≡ true
  unfolding all
  kept_one i sig t c n g e new h =
      let r = both (on_one_line i.name) (on_some i.signal true on_one_line) g in
      let q : on_one_line sig ≡ true = rw e at r.1 in
      all_append port_one c.ports (isolated_by s i sig t n ∷ []) h (rw (element_one s.scope sig short q, active_one i, r.0))

  module _ (strategies : all strategy_one s.records.isolations ≡ true) where
    isolated_one : all port_one (isolation s).ports ≡ true
    unfolding isolation all
    isolated_one =
        strategies_hold s (λ (c : Cover). all port_one c.ports ≡ true) (λ c t h. h) (λ c t h. h) (λ (i : Isolation). strategy_one i ≡ true) kept_one
        (in_rounds s.records.isolations) no_cover
        (λ i m. all_at strategy_one (in_rounds s.records.isolations) rounds m)
        refl
      where
        rounds : all strategy_one (in_rounds s.records.isolations) ≡ true
        rounds =
            all_append strategy_one (those has_elements s.records.isolations) (those (λ i. not (has_elements i)) s.records.isolations)
            (all_those strategy_one has_elements s.records.isolations strategies)
            (all_those strategy_one (λ i. not (has_elements i)) s.records.isolations strategies)

    pub checks_one : (d : Domain) → all check_on_one_line (checks s (isolation s).ports d) ≡ true
    checks_one d =
        all_of check_on_one_line (checks s (isolation s).ports d)
        (λ c m.
        let r = (checks_are s (isolation s).ports d c).0 m in
        subst (λ (k : Check). check_on_one_line k ≡ true) (sym r.3) (all_at port_one (isolation s).ports isolated_one r.1))
