-- The warnings about elements: laws as the needs ask them. Assumes nothing.
use Rattle.store.specs.declared.state.Few.{Few}
use Rattle.std.specs.Prelude.{Option, Some, None, is_some}
use Prim.Native.Nat.{ℕ, suc, ◌+◌, ◌-◌, ◌*◌, ◌≤◌, ◌<◌, ◌^◌}
use mathlib.Core.Path.{◌≡◌, refl, sym, ap, ◌∙◌}
use mathlib.Core.Bool.{Bool, true, false, cond, not}
use mathlib.Core.List.{List, [], ◌∷◌, ◌++◌, map, flat_map, append-nil}
use native.Mathlib.Omega.{arith}
use lib.ListN.{length, take, drop, get_or, length-append}
use borrow.Author.Rules.{rules}
use Rattle.text.specs.Ascii.{Bytes}
use Rattle.out.specs.Emit.{Out, emit, emit_append}
use Rattle.out.specs.Fill.{turns, arg, pick, writes, format2, emit_fill}
use Rattle.out.specs.Items.{each}
use Rattle.joblines.specs.Job.{Module}
use Rattle.jobindex.specs.Index.{module_row}
use Rattle.lookup.specs.Rows.{modules, ModuleSeen}
use Rattle.names.specs.Name.{name_of}
use Rattle.names.specs.declared.name.Name.{Name}
use Rattle.nametable.specs.Table.{row_name, names_from, table_names, names_next, names_none}
use Rattle.design.specs.Lists.{those}
use Rattle.design.specs.Lookup.{module_at}
use Rattle.design.specs.Paths.{filled_parts}
use Rattle.texts.specs.Texts.{warning_line}
use Rattle.texts.specs.Laws.{each_append}
use Rattle.store.specs.Strings.{string}
use Rattle.store.specs.View.{domain_of}
use Rattle.store.specs.Order.{of_domain}
use Rattle.store.specs.Tables.{within_get}
use Rattle.store.specs.declared.stored.Stored.{Stored}
use Rattle.store.specs.declared.stored.Below.{Below}
use Rattle.store.specs.declared.state.Domain.{Domain}
use Rattle.made.specs.Made.{reach_of}
use Rattle.setting.specs.Orders.{holds_few, holds_long, holds_at, holds_next, holds_end}
use Rattle.domainlists.specs.Lists.{OfDomain, Names}
use Rattle.domainwarnings.specs.Missing.{is_there, missing_text, missing, remarks, Told, OfElements, OfDomains}
use Rattle.clamps.specs.Values.{stored_name}
use Rattle.clamps.specs.Laws.{stored_is}

-- ---- one element

missing_line : (o : Out) (name e : Bytes) → emit o (format2 "warning: power domain '{0}': element '{1}' not found\n" name e) ≡ emit o (warning_line (missing_text name e))
unfolding emit writes turns arg pick
missing_line o name e = simp emit_fill

one_line : (o : Out) (w : Bytes) → emit o (warning_line w) ≡ emit o (each warning_line (w ∷ []))
unfolding each
one_line o w = sym (ap (emit o) (append-nil (warning_line w)))

no_line : (o : Out) → emit o (each warning_line []) ≡ o
unfolding each emit
no_line o = refl

missing_one : (d : List Module) (base : Module) (name e : Bytes) (b : Bool) → is_there d base e ≡ b → missing d base name (e ∷ []) ≡ cond b [] (missing_text name e ∷ [])
unfolding those
missing_one d base name e true h = rw h
missing_one d base name e false h = rw h

-- ---- a text over a buffer

module _ (job : Bytes) (nums : List ℕ) (count k : ℕ) (e : Bytes) (m : Option ℕ) (seen : ModuleSeen job nums count (module_at (modules job nums count) (module_row job nums k) (filled_parts e)) m) (b : Bool) (eb : b ≡ is_some m) where
  there : is_there (modules job nums count) (module_row job nums k) e ≡ b
  there = go m refl ∙ sym eb
    where
      go : (r : Option ℕ) → m ≡ r → is_there (modules job nums count) (module_row job nums k) e ≡ is_some m
      go None q = rw (← seen.says, q)
      go (Some r) q = rw (← seen.says, q)

  module _ (o : Out) (n : ℕ) (name : Bytes) where
    pub told_none : b ≡ true → Told 1 o n (missing (modules job nums count) (module_row job nums k) name (e ∷ [])) o n
    told_none h = rw (missing_one (modules job nums count) (module_row job nums k) name e true (there ∙ h)) (record { text = sym (no_line o); count = omega arith; few = omega arith })

    told_text_lem : (o' : Out) → o' ≡ emit o (format2 "warning: power domain '{0}': element '{1}' not found\n" name e) → b ≡ false → Told 1 o n (missing (modules job nums count) (module_row job nums k) name (e ∷ [])) o' (n + 1)
    told_text_lem o' t h = rw (missing_one (modules job nums count) (module_row job nums k) name e false (there ∙ h)) (record { text = t ∙ (missing_line o name e ∙ one_line o (missing_text name e)); count = omega arith; few = omega arith })

  pub told_one : (mem : Bytes) (o : Out) (n : ℕ) (domain : Stored) (x : Name) (o' : Out) → o' ≡ emit o (format2 "warning: power domain '{0}': element '{1}' not found\n" (name_of mem x) e) → x ≡ stored_name domain → b ≡ false → Told 1 o n (missing (modules job nums count) (module_row job nums k) (string mem domain) (e ∷ [])) o' (n + 1)
  told_one mem o n domain x o' t ex h = told_text_lem o n (string mem domain) o' (rw (ex, stored_is mem domain) at t) h

pub ruleset ones = (rules, told_none, told_one)

-- ---- several: what is left to tell is told behind what was

pub record Left (w : Out) (total : ℕ) (ws : List Bytes) (o : Out) (n : ℕ) : Type 0 where
  pub text : emit o (each warning_line ws) ≡ w
  pub count : n + length ws ≡ total

left_step : (w : Out) (total : ℕ) (xs ws : List Bytes) (most : ℕ) (o : Out) (n : ℕ) (o' : Out) (n' : ℕ) → Left w total (xs ++ ws) o n → Told most o n xs o' n' → Left w total ws o' n'
left_step w total xs ws most o n o' n' inv t =
    record {
      text = rw t.text (sym (emit_append o (each warning_line xs) (each warning_line ws)) ∙ (ap (emit o) (sym (each_append warning_line xs ws)) ∙ inv.text));
      count = omega (arith, inv.count, t.count, length-append xs ws);
    }

missing_first : (d : List Module) (base : Module) (name e : Bytes) (es : List Bytes) → missing d base name (e ∷ es) ≡ missing d base name (e ∷ []) ++ missing d base name es
unfolding those
missing_first d base name e es = go (is_there d base e)
  where
    go : (b : Bool) → map (missing_text name) (cond (not b) (e ∷ those (λ x. not (is_there d base x)) es) (those (λ x. not (is_there d base x)) es)) ≡ map (missing_text name) (cond (not b) (e ∷ []) []) ++ map (missing_text name) (those (λ x. not (is_there d base x)) es)
    go true = refl
    go false = refl

missing_none : (d : List Module) (base : Module) (name : Bytes) → missing d base name [] ≡ []
unfolding those
missing_none d base name = refl

pub record Among (d : List Module) (base : Module) (mem name : Bytes) (table : List ℕ) (m : ℕ) (w : Out) (total : ℕ) (o : Out) (n i : ℕ) : Type 0 where
  pub left : Left w total (missing d base name (names_from mem table i (m - i))) o n

pub among_start : (d : List Module) (base : Module) (mem name : Bytes) (table : List ℕ) (m : ℕ) (o : Out) (n : ℕ) → Among d base mem name table m (emit o (each warning_line (missing d base name (table_names mem table m)))) (n + length (missing d base name (table_names mem table m))) o n 0
among_start d base mem name table m o n = let e : m - 0 ≡ m = omega arith in record { left = rw e (record { text = refl; count = refl }) }

module _ (d : List Module) (base : Module) (mem name : Bytes) (table : List ℕ) (m : ℕ) (w : Out) (total : ℕ) (o : Out) (n i : ℕ) (inv : Among d base mem name table m w total o n i) where
  pub among_next : (x : Name) (most : ℕ) (o' : Out) (n' : ℕ) → Told most o n (missing d base name (name_of mem x ∷ [])) o' n' → x ≡ row_name table i → i < m → Among d base mem name table m w total o' n' (i + 1)
  among_next x most o' n' t ex h =
      let z : m - i ≡ suc (m - (i + 1)) = omega arith in
      let q : missing d base name (names_from mem table i (m - i)) ≡ missing d base name (name_of mem x ∷ []) ++ missing d base name (names_from mem table (i + 1) (m - (i + 1))) =
      rw (z, names_next mem table i (m - (i + 1)), ← ex) (missing_first d base name (name_of mem x) (names_from mem table (i + 1) (m - (i + 1)))) in
      record { left = left_step w total (missing d base name (name_of mem x ∷ [])) (missing d base name (names_from mem table (i + 1) (m - (i + 1)))) most o n o' n' (rw q at inv.left) t }

among_told : (d : List Module) (base : Module) (mem name : Bytes) (table : List ℕ) (m : ℕ) (o₀ : Out) (n₀ : ℕ) (o : Out) (n i : ℕ) → Among d base mem name table m (emit o₀ (each warning_line (missing d base name (table_names mem table m)))) (n₀ + length (missing d base name (table_names mem table m))) o n i → m ≤ i → n ≤ n₀ + 65 → Told 65 o₀ n₀ (missing d base name (table_names mem table m)) o n
among_told d base mem name table m o₀ n₀ o n i inv h low =
    let z : m - i ≡ 0 = omega arith in
    let l : Left (emit o₀ (each warning_line (missing d base name (table_names mem table m)))) (n₀ + length (missing d base name (table_names mem table m))) [] o n = rw (z, names_none mem table i, missing_none d base name) at inv.left in
    record { text = sym (no_line o) ∙ l.text; count = omega (arith, l.count); few = low }

pub among_done : (d : List Module) (base : Module) (mem name : Bytes) (table : List ℕ) (m : ℕ) (o₀ : Out) (n₀ : ℕ) (o : Out) (n i : ℕ) → Among d base mem name table m (emit o₀ (each warning_line (missing d base name (table_names mem table m)))) (n₀ + length (missing d base name (table_names mem table m))) o n i → m ≤ i → i ≤ m → n ≤ n₀ + i → m ≤ 65 → Told 65 o₀ n₀ (missing d base name (table_names mem table m)) o n
among_done d base mem name table m o₀ n₀ o n i inv h g low few = among_told d base mem name table m o₀ n₀ o n i inv h (omega arith)

-- ---- the elements of a domain

pub elements_asked : (files area : Bytes) (x : Domain) (table : List ℕ) → OfElements files area x → 325 ≤ length table → OfDomain files area x table
elements_asked files area x table g h = record { small = g.small; strings = g.strings; few = g.few; room = h }

pub few_elements : (files area : Bytes) (x : Domain) (table table' : List ℕ) (n : ℕ) → Names (files ++ area) (domain_of (files ++ area) x).elements table table' n → OfElements files area x → n ≤ 65
few_elements files area x table table' n ns g = omega (arith, g.few, ns.count)

pub elements_told : (mem : Bytes) (x : Domain) (d : List Module) (base : Module) (table table' : List ℕ) (n : ℕ) (o o' : Out) (c c' : ℕ) → Told 65 o c (missing d base (string mem x.name) (table_names mem table' n)) o' c' → Names mem (domain_of mem x).elements table table' n → Told 65 o c (missing d base (string mem x.name) (domain_of mem x).elements) o' c'
elements_told mem x d base table table' n o o' c c' t ns = rw ns.are at t

pub ruleset founds = (rules, few_elements)

-- ---- a domain

module _ (mem : Bytes) (d : List Module) (base : Module) (x : Domain) where
  pub no_power : (o : Out) (n : ℕ) → x.power ≡ None → Told 65 o n (remarks d base (domain_of mem x)) o n
  unfolding domain_of
  no_power o n e = rw e (record { text = sym (no_line o); count = omega arith; few = omega arith })

  no_ground_by : (p : Option Below) (o : Out) (n : ℕ) → x.power ≡ p → x.ground_net ≡ None → Told 65 o n (remarks d base (domain_of mem x)) o n
  unfolding domain_of
  no_ground_by None o n q e = rw q (record { text = sym (no_line o); count = omega arith; few = omega arith })
  no_ground_by (Some b) o n q e = rw (q, e) (record { text = sym (no_line o); count = omega arith; few = omega arith })

  pub no_ground : (o : Out) (n : ℕ) → x.ground_net ≡ None → Told 65 o n (remarks d base (domain_of mem x)) o n
  no_ground o n e = no_ground_by x.power o n refl e

  pub with_both : (p g : Below) (o : Out) (n : ℕ) (o' : Out) (n' : ℕ) → Told 65 o n (missing d base (string mem x.name) (domain_of mem x).elements) o' n' → x.power ≡ Some p → x.ground_net ≡ Some g → Told 65 o n (remarks d base (domain_of mem x)) o' n'
  unfolding domain_of
  with_both p g o n o' n' t e f = rw (e, f) t

-- ---- all domains

abbrev remarked : Bytes → List Module → Module → Domain → List Bytes
remarked mem d base x = remarks d base (domain_of mem x)

pub record Domained (mem : Bytes) (d : List Module) (base : Module) (t : Few Domain) (w : Out) (total : ℕ) (o : Out) (n i : ℕ) : Type 0 where
  pub left : Left w total (flat_map (remarked mem d base) (drop i (take t.n t.all))) o n

pub domained_start : (mem : Bytes) (d : List Module) (base : Module) (t : Few Domain) (o : Out) (n : ℕ) → Domained mem d base t (emit o (each warning_line (flat_map (remarked mem d base) (take t.n t.all)))) (n + length (flat_map (remarked mem d base) (take t.n t.all))) o n 0
domained_start mem d base t o n = record { left = record { text = refl; count = refl } }

flat_first : (mem : Bytes) (d : List Module) (base : Module) (x : Domain) (l : List Domain) → flat_map (remarked mem d base) (x ∷ l) ≡ remarked mem d base x ++ flat_map (remarked mem d base) l
unfolding flat_map
flat_first mem d base x l = refl

flat_none : (mem : Bytes) (d : List Module) (base : Module) → flat_map (remarked mem d base) [] ≡ []
unfolding flat_map
flat_none mem d base = refl

module _ (files area : Bytes) (t : Few Domain) (g : OfDomains files area t) where
  abbrev of : Domain → ℕ
  of = of_domain (reach_of (length files))

  pub few_domains : t.n ≤ 32
  few_domains = holds_few of (length (files ++ area)) t.n t.all g.holds

  pub domain_asked : (i : ℕ) (x : Domain) → i < t.n → OfElements files area (get_or t.all i x)
  domain_asked i x h =
      record {
        small = g.small;
        strings = holds_at of (length (files ++ area)) t.n t.all g.holds i x h;
        few = within_get (λ (y : Domain). length (domain_of (files ++ area) y).elements) t.all t.n i x g.few h (holds_long of (length (files ++ area)) t.n t.all g.holds);
      }

  module _ (d : List Module) (base : Module) (w : Out) (total : ℕ) (o : Out) (n i : ℕ) (inv : Domained (files ++ area) d base t w total o n i) where
    pub domained_next : (x : Domain) (o' : Out) (n' : ℕ) → Told 65 o n (remarks d base (domain_of (files ++ area) (get_or t.all i x))) o' n' → i < t.n → Domained (files ++ area) d base t w total o' n' (i + 1)
    domained_next x o' n' r h =
        let y = get_or t.all i x in
        let q : flat_map (remarked (files ++ area) d base) (drop i (take t.n t.all)) ≡ remarked (files ++ area) d base y ++ flat_map (remarked (files ++ area) d base) (drop (i + 1) (take t.n t.all)) =
        ap (flat_map (remarked (files ++ area) d base)) (holds_next of (length (files ++ area)) t.n t.all g.holds i x h) ∙ flat_first (files ++ area) d base y (drop (i + 1) (take t.n t.all)) in
        record { left = left_step w total (remarked (files ++ area) d base y) (flat_map (remarked (files ++ area) d base) (drop (i + 1) (take t.n t.all))) 65 o n o' n' (rw q at inv.left) r }

  pub domained_done : (d : List Module) (base : Module) (o₀ : Out) (n₀ : ℕ) (o : Out) (n i : ℕ) → Domained (files ++ area) d base t (emit o₀ (each warning_line (flat_map (remarked (files ++ area) d base) (take t.n t.all)))) (n₀ + length (flat_map (remarked (files ++ area) d base) (take t.n t.all))) o n i → t.n ≤ i → i ≤ t.n → n ≤ n₀ + 65 * i → Told 2080 o₀ n₀ (flat_map (remarked (files ++ area) d base) (take t.n t.all)) o n
  domained_done d base o₀ n₀ o n i inv h k low =
      let l : Left (emit o₀ (each warning_line (flat_map (remarked (files ++ area) d base) (take t.n t.all)))) (n₀ + length (flat_map (remarked (files ++ area) d base) (take t.n t.all))) [] o n = rw (holds_end of (length (files ++ area)) t.n t.all g.holds i h, flat_none (files ++ area) d base) at inv.left in
      record { text = sym (no_line o) ∙ l.text; count = omega (arith, l.count); few = omega (arith, few_domains) }

  pub domain_low : (n₀ n i : ℕ) → n ≤ n₀ + 65 * i → i < t.n → n₀ ≤ 2 ^ 60 → n ≤ 2 ^ 61
  domain_low n₀ n i l h k = omega (arith, few_domains)

pub told_low : (o : Out) (n : ℕ) (ws : List Bytes) (o' : Out) (n' n₀ i : ℕ) → Told 65 o n ws o' n' → n ≤ n₀ + 65 * i → n' ≤ n₀ + 65 * (i + 1)
told_low o n ws o' n' n₀ i t l = omega (arith, t.few)

pub one_low : (o : Out) (n : ℕ) (ws : List Bytes) (o' : Out) (n' n₀ i : ℕ) → Told 1 o n ws o' n' → n ≤ n₀ + i → n' ≤ n₀ + (i + 1)
one_low o n ws o' n' n₀ i t l = omega (arith, t.few)

pub ruleset indices = (rules, few_domains)
