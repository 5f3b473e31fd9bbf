-- The way written name by name; the scope by the override, by a type, by the design top.
-- Assumes nothing.
use Rattle.std.specs.Prelude.{None}
use mathlib.Core.Path.{◌≡◌, refl, ap, ◌∙◌, sym}
use Prim.Native.Nat.{ℕ, suc, ◌+◌, ◌-◌, ◌<◌, ◌≤◌}
use native.Mathlib.Numerals.{add-one}
use native.Mathlib.Omega.{arith}
use mathlib.Core.Bool.{Bool, true, false}
use mathlib.Core.List.{List, [], ◌∷◌, ◌++◌}
use Rattle.std.specs.Prelude.{Option, Some, option_map, Result, Ok, Err}
use lib.ListN.{length, take, drop, get_or, drop_of_length-le, length-take, length-drop, length-append, length-map}
use lib.Seq.{drop-cons, take_at, drop_at}
use borrow.Author.Rules.{rules}
use borrow.Author.Tests.{le-leb, lt-leb}
use Rattle.text.specs.Ascii.{Bytes, ascii}
use Rattle.text.specs.Compare.{same}
use Rattle.text.specs.Sames.{differ, same_refl}
use Rattle.out.specs.Emit.{Out, ◌▸◌, emit}
use Rattle.out.specs.Fits.{emit_fits}
use Rattle.out.specs.Items.{joined, rest, unless, join_next, join_done}
use Rattle.spans.specs.Reach.{Held}
use Rattle.spans.specs.Span.{bytes}
use Rattle.spans.specs.declared.span.Span.{Span as FileSpan}
use Rattle.joblines.specs.Job.{Module}
use Rattle.jobindex.specs.Index.{module_row, job_of}
use Rattle.jobindex.specs.declared.Header.{Header}
use Rattle.jobindex.specs.declared.Span.{Span}
use Rattle.design.specs.AcceptedNames.{AllNamed}
use Rattle.design.proofs.AcceptedNames.{accepted_names}
use Rattle.design.specs.Limits.{most_calls}
use Rattle.design.specs.Lookup.{module_at}
use Rattle.design.specs.Search.{search_type, calls_made}
use Rattle.lines.specs.Cursors.{spanned}
use Rattle.lookup.specs.Rows.{modules, row_is, ModuleSeen, at_none}
use Rattle.corrupt.specs.RowMem.{row_mem}
use Rattle.search.specs.declared.Found.{Found}
use Rattle.search.specs.declared.Way.{Way}
use Rattle.search.specs.Found.{way_from, Made, Deeper}
use Rattle.store.specs.Strings.{span_of, maybe_of}
use Rattle.store.specs.declared.stored.Stored.{Stored}
use Rattle.texts.specs.Scope.{Scope, at, along, existing, found_at, path_to, by_design_top, without_top, override_parts, scope_along, scope_of}
use Rattle.scope.specs.Parts.{parts, no_parts}
use Rattle.findscope.specs.declared.NoScope.{NoScope}
use Rattle.findscope.specs.declared.ScopeAt.{ScopeAt}
use Rattle.findscope.specs.Scopes.{path_text, number_of, topmost, Tells, Told, Taken, Whole}
use Rattle.findscope.specs.Ways.{AllNames, search_named, joined_parts, joined_short}

-- ---- the way, written name by name: what is left, written from here, is the answer w
pub record Writes (job : Bytes) (f : Way) (sep : Bytes) (w t : Out) (i : ℕ) : Type 0 where
  pub keeps : emit t (rest sep i (way_from job i f)) ≡ w
  pub many : length f.names ≡ 33

module _ (job : Bytes) (f : Way) (sep : Bytes) where
  pub writes_start : (t : Out) → length f.names ≡ 33 → Writes job f sep (emit t (joined sep (way_from job 0 f))) t 0
  unfolding rest
  writes_start t h = record { keeps = refl; many = h }

  module _ (w t : Out) (i : ℕ) (inv : Writes job f sep w t i) where
    writes_over : way_from job i f ≡ [] → t ≡ w
    writes_over e = join_done t w sep i (rw e at inv.keeps)

    pub writes_end : f.count ≤ i → t ≡ w
    writes_end h = let z : f.count - i ≡ 0 = omega arith in writes_over (rw z)

    pub writes_full : i < f.count → 33 ≤ i → t ≡ w
    writes_full g h =
        let z : f.count - i ≡ suc (f.count - (i + 1)) = omega arith in
        writes_over (rw (drop_of_length-le f.names {i = i} (omega (arith, inv.many)), z))

    pub writes_next : i < f.count → i < 33 → (d : Span) (x : Bytes) (t₁ t₂ : Out) → x ≡ spanned job (get_or f.names i d) → t₁ ≡ emit t (unless i sep) → t₂ ≡ emit t₁ x → Writes job f sep w t₂ (i + 1)
    writes_next h g d x t₁ t₂ ex e₁ e₂ =
        let z : f.count - i ≡ suc (f.count - (i + 1)) = omega arith in
        let n : way_from job i f ≡ x ∷ way_from job (i + 1) f = rw (z, drop-cons f.names i d (omega (arith, inv.many)), ← ex, ← add-one i) in
        record {
          keeps = join_next t t₁ t₂ w sep i 0 x (way_from job (i + 1) f) e₁ e₂ (rw n at inv.keeps);
          many = inv.many;
        }

pub ruleset writing = (rules, writes_start, writes_end, writes_full, writes_next)

-- ---- the text of the path
module _ (job : Bytes) (head : Header) (way : Bytes) (r : ScopeAt) (t : Bytes) where
  pub text_way : r.way ≡ true → t ≡ take r.len (drop 0 way) → t ≡ path_text job head way r
  text_way h e = rw (h, e)

  pub text_over : r.way ≡ false → t ≡ spanned job head.over → t ≡ path_text job head way r
  text_over h e = rw (h, e)

pub ruleset path_texts = (rules, text_way, text_over)

-- ---- answers
module _ (job : Bytes) (index : List ℕ) (head : Header) (ok : Taken job index head) where
  abbrev d : List Module
  d = modules job index head.modules

  abbrev m : Module
  m = module_row job index head.topmodule

  told : (s : Scope) (e : NoScope) → Scope.no_scope (number_of e) ≡ s → Told job index head s (Err e)
  told s e h way =
      record {
        says = h;
        within = tt;
        long = refl;
        kept = refl;
      }

  -- the top itself
  top_told : (r : ScopeAt) → r ≡ topmost head.topmodule → Told job index head (scope_along d m (along [])) (Ok r)
  top_told r e way =
      rw e record {
        says = rw (no_parts, at_none d m);
        within = ok.indexed.top_row;
        long = refl;
        kept = refl;
      }

  -- ---- by the override: what is left of it leads to a row
  module _ (over top : Bytes) (eo : over ≡ spanned job head.over) (et : top ≡ spanned job head.top) (from : ℕ) (here : parts over from ≡ without_top top (override_parts over)) where
    abbrev overridden : Scope
    overridden = scope_along d m (along (without_top (spanned job head.top) (override_parts (spanned job head.over))))

    abbrev AlongIs : Option ℕ → Type 0
    AlongIs = ModuleSeen job index head.modules (module_at d m (parts over from))

    leads : (q : Option ℕ) → AlongIs q → overridden ≡ existing (parts over from) (row_is job index q)
    leads q seen = rw (← eo, ← et, ← here, seen.says)

    pub override_none : AlongIs None → Told job index head overridden (Err NoScope.NoModule)
    override_none seen = told overridden NoScope.NoModule (sym (leads None seen))

    pub override_some : (q : ℕ) → AlongIs (Some q) → Told job index head overridden (Ok (record { row = q; way = false; from = from; len = 0 }))
    override_some q seen way =
        record {
          says = ap (λ (t : Bytes). at (parts t from) (module_row job index q)) (sym eo) ∙ sym (leads (Some q) seen);
          within = seen.within;
          long = refl;
          kept = refl;
        }

  -- ---- by a type
  module _ (kind : Bytes) where
    abbrev typed : Scope
    typed = scope_along d m (path_to d m kind)

    pub type_over : most_calls < 0 + calls_made d m kind → Told job index head typed (Err NoScope.TooMany)
    type_over l = told typed NoScope.TooMany (rw (lt-leb (calls_made d m kind) most_calls (omega arith)))

    module _ (f : Found) (s : Made job 0 0 (search_type d m kind) f) where
      path_is : path_to d m kind ≡ found_at (option_map (way_from job 0) f.way)
      path_is =
          let l : calls_made d m kind ≤ most_calls = omega (arith, s.calls_is, s.few) in
          rw (le-leb (calls_made d m kind) most_calls l, s.way_is)

      pub type_none : f.way ≡ None → Told job index head typed (Err NoScope.NoInstance)
      type_none g = told typed NoScope.NoInstance (rw (path_is, g))

      pub type_long : (v : Way) → f.way ≡ Some v → length v.names ≡ 33
      type_long v g = let k : Deeper 0 (Some v) = rw g at s.goes in k.1

      module _ (v : Way) (g : f.way ≡ Some v) where
        abbrev FoundIs : Option ℕ → Type 0
        FoundIs = ModuleSeen job index head.modules (module_at d m (way_from job 0 v))

        typed_is : (q : Option ℕ) → FoundIs q → typed ≡ existing (way_from job 0 v) (row_is job index q)
        typed_is q seen = rw (path_is, g, seen.says)

        pub type_lost : FoundIs None → Told job index head typed (Err NoScope.NoModule)
        type_lost seen = told typed NoScope.NoModule (sym (typed_is None seen))

        all_named : AllNamed d
        all_named = accepted_names job (job_of job index head) ok.is_accepted

        names_are : AllNames (way_from job 0 v)
        names_are = search_named d all_named kind 33 m (all_named m (row_mem (module_row job index) head.modules head.topmodule ok.indexed.top_row)) (way_from job 0 v) (sym s.way_is ∙ rw g)

        few_names : length (way_from job 0 v) ≤ 33
        few_names = omega (arith, length-map (take (v.count - 0) (drop 0 v.names)) (spanned job), length-take (v.count - 0) (drop 0 v.names), type_long v g)

        pub type_some : (q : ℕ) → FoundIs (Some q) → (w w' : Bytes) (n : ℕ) → 2144 ≤ length w → w' ▸ n ≡ emit (w ▸ 0) (joined (ascii ".") (way_from job 0 v))
            → Tells job index head w w' typed (Ok (record { row = q; way = true; from = 0; len = n }))
        type_some q seen w w' n room e =
            let t = joined (ascii ".") (way_from job 0 v) in
            let l : length t ≤ length w = omega (arith, joined_short (way_from job 0 v) names_are few_names) in
            let o : w' ▸ n ≡ (t ++ drop (length t) w) ▸ length t = e ∙ emit_fits t w l in
            let en : n ≡ length t = ap (λ (x : Out). x.at) o in
            let ew : w' ≡ t ++ drop (length t) w = ap (λ (x : Out). x.bytes) o in
            let front : take n w' ≡ t = rw (ew) (take_at t (drop (length t) w) n (sym en)) in
            record {
              says = rw front (ap (λ (ps : List Bytes). at ps (module_row job index q)) (joined_parts (way_from job 0 v) names_are) ∙ sym (typed_is (Some q) seen));
              within = seen.within;
              long = rw ew (omega (arith, length-append t (drop (length t) w), length-drop (length t) w));
              kept = rw ew (drop_at t (drop (length t) w) n (sym en) ∙ rw en);
            }

  -- ---- by a design top
  module _ (kind top : Bytes) (et : top ≡ spanned job head.top) (b : Bool) (eb : b ≡ same kind top) where
    abbrev designed : Scope
    designed = scope_along d m (by_design_top d m (spanned job head.top) (Some kind))

    pub design_top : (r : ScopeAt) → r ≡ topmost head.topmodule → b ≡ true → Told job index head designed (Ok r)
    design_top r e h way = let z : same kind (spanned job head.top) ≡ true = rw (← et) (sym eb ∙ h) in rw z (top_told r e way)

    pub design_other : (w w' : Bytes) (r : Result ScopeAt NoScope) → b ≡ false → Tells job index head w w' (scope_along d m (path_to d m kind)) r → Tells job index head w w' designed r
    design_other w w' r h t = let z : same kind (spanned job head.top) ≡ false = rw (← et) (sym eb ∙ h) in rw z t

  -- ---- the scope
  module _ (over : Bytes) (eo : over ≡ spanned job head.over) where
    pub scope_override : (length over ≡ 0 → ⊥) → (t : Option Bytes) (r : Result ScopeAt NoScope) → Told job index head (scope_along d m (along (without_top (spanned job head.top) (override_parts (spanned job head.over))))) r
        → Told job index head (scope_of (job_of job index head) m t) r
    unfolding scope_of
    scope_override h t r k way = let z : same (spanned job head.over) [] ≡ false = rw (← eo) (sym (differ over [] h)) in rw z (k way)

    module _ (h : length over ≡ 0) where
      no_override : same (spanned job head.over) [] ≡ true
      no_override = rw (← eo) (go over h)
        where
          go : (p : Bytes) → length p ≡ 0 → same p [] ≡ true
          go [] e = same_refl []
          go (b ∷ p) e = absurd (omega arith)

      module _ (mem : Bytes) (t : Option Stored) where
        pub scope_top : t ≡ None → (r : ScopeAt) → r ≡ topmost head.topmodule → Told job index head (scope_of (job_of job index head) m (maybe_of mem t)) (Ok r)
        unfolding scope_of
        scope_top g r e way = rw (no_override, g) (top_told r e way)

      module _ (files area : Bytes) (t : Option Stored) (whole : Whole (length files) t) (s : Stored) (g : t ≡ Some s) (v : FileSpan) (ev : v ≡ span_of s) (p : Bytes) (ep : Held (length files) v → p ≡ bytes (files ++ area) v) where
        value_is : p ≡ bytes (files ++ area) (span_of s)
        value_is = let k : Held (length files) (span_of s) = rw g at whole in rw ev at (ep (rw ev k))

        pub scope_type : (w w' : Bytes) (r : Result ScopeAt NoScope) → Tells job index head w w' (scope_along d m (by_design_top d m (spanned job head.top) (Some p))) r
            → Tells job index head w w' (scope_of (job_of job index head) m (maybe_of (files ++ area) t)) r
        unfolding scope_of
        scope_type w w' r k = rw (no_override, g, ← value_is) k

pub ruleset scoping = (rules, scope_override, scope_top, scope_type)

pub ruleset overriding = (rules, override_none, override_some)

pub ruleset typing = (rules, type_over, type_none, type_long, type_lost, type_some)

pub ruleset designing = (rules, design_top, design_other)
