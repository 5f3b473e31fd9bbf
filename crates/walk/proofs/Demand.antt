-- The signals of a domain: what is promised of its list, each under its sentence. `d` is the module lines of a job, `base` the scope's module, `scope`
-- its path below the top, `entries` the retained entries, `es` the domain's elements. Where the names of a job matter, the job is an accepted one.
-- Assumes nothing.
use Rattle.std.specs.Prelude.{ℕ, ◌<◌, ◌≡◌, refl, ◌↔◌, length, None}
use Rattle.std.proofs.Common.{ap, arith, length-append}
use mathlib.Core.List.{List, [], ◌∷◌, ◌++◌, flat_map, Memᴰ as Mem}
use Rattle.text.specs.Ascii.{Bytes, byte}
use Rattle.text.specs.Compare.{same}
use Rattle.text.specs.Sames.{same_eq}
use Rattle.joblines.specs.Job.{Inst, Module, Job}
use Rattle.design.specs.Lists.{on_some}
use Rattle.design.specs.Lookup.{instances, module_named, instance_named, module_at}
use Rattle.design.specs.Paths.{element_path, scope_path}
use Rattle.design.specs.Laws.{some_of, first_mem, first_passes}
use Rattle.design.specs.Losables.{named_mem, module_at_mem}
use Rattle.design.specs.AcceptedNames.{Plain}
use Rattle.design.proofs.AcceptedNames.{accepted_plain}
use Rattle.walk.specs.Walk.{corruptible, retained_paths, element_list, domain_list}
use Rattle.walk.specs.Reach.{ElementReaches, DomainReaches, Beneath, Distinct, NumberOf, Joined, Whole, Scope}
use Rattle.walk.proofs.Listed.{listed_reached, reached_listed, add_all_distinct, number_unique as one_number}
use Rattle.walk.proofs.Retained.{fewer, ends_here, element_ends, from_beneath, below_walked, empty_domain}
use Rattle.walk.proofs.Three.{both_reach}

-- ---- the list of a domain

module _ (d : List Module) (base : Module) (scope entries es : List Bytes) where
  -- 3a: "a path is in the domain's list exactly if some element reaches it"
  pub listed_iff : (q : Bytes) → Mem q (domain_list d base scope entries es) ↔ DomainReaches d base scope entries es q
  listed_iff q = (listed_reached d base scope entries es, reached_listed d base scope entries es)

  -- 3b: "the list has each path one time"
  pub listed_once : Distinct (domain_list d base scope entries es)
  unfolding domain_list
  listed_once = add_all_distinct [] (flat_map (element_list d base scope entries) es) tt

  -- so its length is the number of different paths that some element reaches
  pub listed_number : NumberOf (DomainReaches d base scope entries es) (length (domain_list d base scope entries es))
  listed_number =
      record {
        list = domain_list d base scope entries es;
        distinct = listed_once;
        all = λ q r. (listed_iff q).1 r;
        only = λ q m. (listed_iff q).0 m;
        many = refl;
      }

-- and that is one number
pub number_unique : {P : Bytes → Type 0} {n k : ℕ} → NumberOf P n → NumberOf P k → n ≡ k
number_unique a b = one_number a b

-- ---- retained entries

-- more of them never add a path
pub more_retained : (d : List Module) (base : Module) (scope es fewer-entries more-entries : List Bytes) → ((r : Bytes) → Mem r fewer-entries → Mem r more-entries) → (q : Bytes) → Mem q (domain_list d base scope more-entries es) → Mem q (domain_list d base scope fewer-entries es)
more_retained d base scope es F M sub q m =
    (listed_iff d base scope F es q).1 (fewer sub ((listed_iff d base scope M es q).0 m))

-- "A module whose path equals a retained entry ends that branch."
pub branch_ends : (d : List Module) (retained : List Bytes) (left : ℕ) (m : Module) (path : Bytes) → Mem path retained → corruptible d retained left m path ≡ []
branch_ends d retained left m path h = ends_here d retained left m path h

-- the same of an element
pub element_retained : (d : List Module) (base : Module) (scope entries : List Bytes) (e : Bytes) → Mem (element_path scope e) (retained_paths scope entries) → element_list d base scope entries e ≡ []
element_retained d base scope entries e h = element_ends d base scope entries e h

-- "An element below a retained one is still walked.": as if that entry were not there
pub below_retained : (d : List Module) (base : Module) (scope before behind : List Bytes) (r rest : Bytes) → element_list d base scope (before ++ r ∷ behind) (r ++ byte "/" ∷ rest) ≡ element_list d base scope (before ++ behind) (r ++ byte "/" ∷ rest)
below_retained d base scope E F r rest = below_walked d base scope E F r rest

-- ---- of accepted jobs

module _ (t : Bytes) (j : Job) (scope : List Bytes) (base : Module) (s : Scope t j scope base) where
  plain : Plain j.modules
  plain = accepted_plain t j s.accepts

  top_at : Mem s.top j.modules
  top_at = named_mem j.modules j.top s.is_top

  base_at : Mem base j.modules
  base_at = module_at_mem j.modules s.top scope top_at s.exists

  -- the law of three retention lists, for any elements
  pub three_lists : (es E₁ E₂ E₃ : List Bytes) → Joined E₁ E₂ E₃ → (q : Bytes) → Mem q (domain_list j.modules base scope E₃ es) ↔ (Mem q (domain_list j.modules base scope E₁ es) × Mem q (domain_list j.modules base scope E₂ es))
  three_lists es E₁ E₂ E₃ joined q = (
    λ m. (more_retained j.modules base scope es E₁ E₃ joined.first q m, more_retained j.modules base scope es E₂ E₃ joined.second q m),
    λ m. (listed_iff j.modules base scope E₃ es q).1 (both_reach j.modules base scope plain base_at joined ((listed_iff j.modules base scope E₁ es q).0 m.0) ((listed_iff j.modules base scope E₂ es q).0 m.1)),
  )

  -- 3e: "if no element of the domain has an empty part, save the one empty altogether, a path is in the third list exactly if it is in both others"
  pub three_lists_asked : (es : List Bytes) → ((e : Bytes) → Mem e es → Whole e) → (E₁ E₂ E₃ : List Bytes) → Joined E₁ E₂ E₃ → (q : Bytes) → Mem q (domain_list j.modules base scope E₃ es) ↔ (Mem q (domain_list j.modules base scope E₁ es) × Mem q (domain_list j.modules base scope E₂ es))
  three_lists_asked es whole = three_lists es

  -- "only equality stops, and it stops everything beneath": what an element reaches beneath a retained path it reaches from beneath it
  pub beneath_retained : (entries : List Bytes) (e q v : Bytes) → ElementReaches j.modules base scope entries e q → Mem v (retained_paths scope entries) → Beneath v q → Beneath v (element_path scope e)
  beneath_retained entries e q v r ret below = from_beneath j.modules base scope entries e q v plain base_at r ret below

  -- so where no element lies beneath a retained path, nothing beneath it is listed
  pub nothing_beneath : (entries es : List Bytes) (v : Bytes) → Mem v (retained_paths scope entries) → ((e : Bytes) → Mem e es → Beneath v (element_path scope e) → ⊥) → (q : Bytes) → Beneath v q → Mem q (domain_list j.modules base scope entries es) → ⊥
  nothing_beneath entries es v ret out q below m =
      let r = (listed_iff j.modules base scope entries es q).0 m in
      out r.element r.has (beneath_retained entries r.element q v r.reached ret below)

-- the scope path of an accepted job is not empty where its scope is not the top
scope_long : (t : Bytes) (j : Job) (n : Bytes) (ns : List Bytes) (base : Module) → Scope t j (n ∷ ns) base → 0 < length (scope_path (n ∷ ns))
unfolding module_at
scope_long t j n ns base s =
    let i = some_of (instance_named s.top n) (λ (i : Inst). on_some (module_named j.modules i.type) None (λ m. module_at j.modules m ns)) s.exists in
    let e : i.0.name ≡ n = same_eq i.0.name n (first_passes (λ (i : Inst). same i.name n) (instances s.top) i.1) in
    let filled = (plain t j (n ∷ ns) base s).inst_filled s.top (top_at t j (n ∷ ns) base s) i.0 (first_mem (λ (i : Inst). same i.name n) (instances s.top) i.1) in
    omega (arith, ap length e, filled, length-append n (flat_map (λ (m : Bytes). byte "." ∷ m) ns))

-- "the empty one under a scope other than the top equals no path": it changes nothing
pub empty_entry : (t : Bytes) (j : Job) (n : Bytes) (ns : List Bytes) (base : Module) → Scope t j (n ∷ ns) base → (before behind es : List Bytes) → domain_list j.modules base (n ∷ ns) (before ++ [] ∷ behind) es ≡ domain_list j.modules base (n ∷ ns) (before ++ behind) es
empty_entry t j n ns base s E F es =
    empty_domain j.modules base (n ∷ ns) (plain t j (n ∷ ns) base s) (base_at t j (n ∷ ns) base s) (scope_long t j n ns base s) E F es
