-- One strategy: each law is stated as a need asks it. Assumes nothing.
use Rattle.store.specs.declared.state.Few.{Few}
use Rattle.std.specs.Prelude.{Option, is_some}
use Prim.Native.Nat.{ℕ, suc, ◌+◌, ◌≤◌, ◌<◌}
use native.Mathlib.Omega.{arith}
use mathlib.Core.Path.{◌≡◌, refl, sym, ap, ◌∙◌}
use mathlib.Core.Bool.{Bool, true, false, cond, not}
use mathlib.Core.List.{List, [], ◌∷◌, ◌++◌, map}
use Rattle.std.specs.Prelude.{None, Some}
use lib.Dec.{ltb}
use lib.ListN.{length, take, get_or}
use borrow.Author.Rules.{rules}
use borrow.Author.Tests.{lt-ltb}
use Rattle.text.specs.Ascii.{Bytes, ascii}
use Rattle.text.specs.Compare.{same}
use Rattle.text.specs.Sames.{same_refl, no_true}
use Rattle.spans.specs.Span.{bytes}
use Rattle.spans.specs.Reach.{Held}
use Rattle.spans.specs.declared.span.Span.{Span}
use Rattle.tcl.specs.Lists.{list}
use Rattle.joblines.specs.Job.{Module}
use Rattle.design.specs.Lists.{first}
use Rattle.names.specs.Name.{name_of}
use Rattle.names.specs.declared.name.Name.{Name}
use Rattle.model.specs.Commands.{or_else}
use Rattle.model.specs.Records.{Domain as Domainʳ, Isolation as Isolationʳ}
use Rattle.store.specs.First.{first_at}
use Rattle.store.specs.Strings.{string, span_of, maybe_of}
use Rattle.store.specs.Order.{of_domain}
use Rattle.store.specs.Tables.{table_get, table_length, within_get}
use Rattle.store.specs.View.{domain_of, isolation_of}
use Rattle.store.specs.declared.stored.Stored.{Stored}
use Rattle.store.specs.declared.state.Domain.{Domain}
use Rattle.store.specs.declared.state.Isolation.{Isolation}
use Rattle.made.specs.Firsts.{first_map}
use Rattle.made.specs.Made.{reach_of}
use Rattle.finddomain.specs.Named.{is_named}
use Rattle.setting.specs.Orders.{holds_few, holds_long, holds_at}
use Rattle.texts.specs.declared.Literal.{Literal}
use Rattle.texts.specs.Isolation.{lowered, is_clamp, has_elements}
use Rattle.isolated.specs.Table.{Kept, kept_in}
use Rattle.keep.specs.Covered.{Ready, Remarked, Answer}
use Rattle.keep.specs.Turns.{answer_stay}
use Rattle.keep.specs.declared.Cover.{Cover}
use Rattle.clamps.specs.Values.{stored_name, clamp_literal}
use Rattle.clamps.specs.Laws.{stored_is, clamp_known}
use Rattle.remarks.specs.Lines.{no_signal, unknown_domain, clamp_unknown}
use Rattle.strategies.specs.Gains.{remark_gain, domain_gain, found_gain, named, strategy_gain, chosen}
use Rattle.strategies.specs.Values.{given_name}
use Rattle.indomain.specs.Asked.{OfStrategy}
use Rattle.indomain.specs.Own.{name_is, own_there}
use Rattle.indomain.specs.Remarks.{remark_answer}
use Rattle.isolation.specs.Turns.{turn_gain, OfOne}

-- ---- the first that passes a test, by its place

module _ {A : Type 0} (t : A → Bool) where
  first_there : (z : A) (xs : List A) → first_at t xs < length xs → first t xs ≡ Some (get_or xs (first_at t xs) z)
  unfolding first_at first
  first_there z [] h = absurd (omega arith)
  first_there z (x ∷ xs) h = go (t x) refl (λ k. first_there z xs k)
    where
      go : (b : Bool) → t x ≡ b → (first_at t xs < length xs → first t xs ≡ Some (get_or xs (first_at t xs) z)) → first t (x ∷ xs) ≡ Some (get_or (x ∷ xs) (first_at t (x ∷ xs)) z)
      go true e r = rw e
      go false e r = let k : suc (first_at t xs) < suc (length xs) = rw e at h in rw e (r (omega arith))

  first_gone : (xs : List A) → length xs ≤ first_at t xs → first t xs ≡ None
  unfolding first_at first
  first_gone [] h = refl
  first_gone (x ∷ xs) h = go (t x) refl (λ k. first_gone xs k)
    where
      go : (b : Bool) → t x ≡ b → (length xs ≤ first_at t xs → first t xs ≡ None) → first t (x ∷ xs) ≡ None
      go true e r = let k : suc (length xs) ≤ 0 = rw e at h in absurd (omega arith)
      go false e r = let k : suc (length xs) ≤ suc (first_at t xs) = rw e at h in rw e (r (omega arith))

-- ---- the domain of a strategy

domain_is : (mem : Bytes) (x : Isolation) → name_of mem (stored_name x.domain) ≡ (isolation_of mem x).domain
unfolding isolation_of
domain_is mem x = stored_is mem x.domain

module _ (files area : Bytes) (x : Isolation) (xs : Few Domain) (o : OfOne files area x xs) where
  abbrev mem : Bytes
  mem = files ++ area

  abbrev of : Domain → ℕ
  of = of_domain (reach_of (length files))

  abbrev ds : List Domainʳ
  ds = map (domain_of mem) (take xs.n xs.all)

  pub domains_few : xs.n ≤ 32
  domains_few = holds_few of (length mem) xs.n xs.all o.domains

  domains_long : xs.n ≤ length xs.all
  domains_long = holds_long of (length mem) xs.n xs.all o.domains

  pub domain_asked : (i : ℕ) (z : Domain) → i < xs.n → OfStrategy files area x (get_or xs.all i z)
  domain_asked i z h =
      record {
        own = o.own;
        domain = holds_at of (length mem) xs.n xs.all o.domains i z h;
        domain_few = within_get (λ (d : Domain). length (domain_of mem d).elements) xs.all xs.n i z o.few h domains_long;
      }

  module _ (i : ℕ) (e : i ≡ first_at (is_named mem x.domain) (take xs.n xs.all)) where
    place : first_at (λ (d : Domainʳ). same d.name (isolation_of mem x).domain) ds ≡ i
    unfolding domain_of isolation_of
    place = first_map (domain_of mem) (λ (d : Domainʳ). same d.name (isolation_of mem x).domain) (is_named mem x.domain) (λ d. refl) (take xs.n xs.all) ∙ sym e

    many : length ds ≡ xs.n
    many = table_length (domain_of mem) xs.all xs.n domains_long

    none_named : xs.n ≤ i → named ds (isolation_of mem x).domain ≡ None
    none_named h = first_gone (λ (d : Domainʳ). same d.name (isolation_of mem x).domain) ds (omega (arith, place, many))

    one_named : (z : Domain) → i < xs.n → named ds (isolation_of mem x).domain ≡ Some (domain_of mem (get_or xs.all i z))
    one_named z h =
        first_there (λ (d : Domainʳ). same d.name (isolation_of mem x).domain) (domain_of mem z) ds (omega (arith, place, many))
        ∙ rw (place, table_get (domain_of mem) xs.all xs.n i z h)

    module _ (job : Bytes) (warn : Bool) (c : Cover) (out : Bytes) (d : List Module) (m : Module) (number : ℕ) (sig : Bytes) (r : Cover) (out' : Bytes) (ports : List ℕ) where
      pub domain_unknown : xs.n ≤ i → (n : Name) → n ≡ stored_name x.name → (w : Name) → w ≡ stored_name x.domain → Ready c ports → Remarked warn (unknown_domain (name_of mem n) (name_of mem w)) c out r out'
          → Answer job mem warn c out (found_gain d m number (isolation_of mem x) sig (kept_in job mem ports c.ports) (named ds (isolation_of mem x).domain)) r out' ports
      domain_unknown h n en w ew ready a =
          let en' : name_of mem n ≡ (isolation_of mem x).name = ap (name_of mem) en ∙ name_is mem x in
          let ew' : name_of mem w ≡ (isolation_of mem x).domain = ap (name_of mem) ew ∙ domain_is mem x in
          let a' : Remarked warn (unknown_domain (isolation_of mem x).name (isolation_of mem x).domain) c out r out' = rw (en', ew') at a in
          rw (none_named h) (remark_answer job mem warn (unknown_domain (isolation_of mem x).name (isolation_of mem x).domain) c out ports r out' ready a')

      pub domain_known : (z : Domain) (l : List Kept) → i < xs.n → Answer job mem warn c out (domain_gain d m number (isolation_of mem x) sig (domain_of mem (get_or xs.all i z)) (isolation_of mem x).elements l) r out' ports
          → Answer job mem warn c out (found_gain d m number (isolation_of mem x) sig l (named ds (isolation_of mem x).domain)) r out' ports
      domain_known z l h a = rw (one_named z h) a

-- ---- its signal and its clamp value

clamp_given : (mem : Bytes) (m : Option Stored) → is_clamp (lowered (or_else (maybe_of mem m) (ascii "0"))) ≡ false → lowered (name_of mem (given_name m)) ≡ lowered (or_else (maybe_of mem m) (ascii "0"))
clamp_given mem None h = let e : same (ascii "0") (ascii "0") ≡ true = same_refl (ascii "0") in absurd (no_true (sym (rw e at h)))
clamp_given mem (Some s) h = ap lowered (stored_is mem s)

module _ (job mem : Bytes) (warn : Bool) (c : Cover) (out : Bytes) (d : List Module) (m : Module) (ds : List Domainʳ) (number : ℕ) (x : Isolation) (r : Cover) (out' : Bytes) (ports : List ℕ) where
  no_signal_by : x.signal ≡ None → (l : List Kept) → remark_gain (no_signal (isolation_of mem x).name) l ≡ strategy_gain d m ds number (isolation_of mem x) l
  unfolding strategy_gain isolation_of
  no_signal_by h l = rw h

  pub signal_none : (n : Name) → n ≡ stored_name x.name → x.signal ≡ None → Ready c ports → Remarked warn (no_signal (name_of mem n)) c out r out'
      → Answer job mem warn c out (strategy_gain d m ds number (isolation_of mem x) (kept_in job mem ports c.ports)) r out' ports
  signal_none n en h ready a =
      let en' : name_of mem n ≡ (isolation_of mem x).name = ap (name_of mem) en ∙ name_is mem x in
      let a' : Remarked warn (no_signal (isolation_of mem x).name) c out r out' = rw en' at a in
      rw (no_signal_by h (kept_in job mem ports c.ports)) at (remark_answer job mem warn (no_signal (isolation_of mem x).name) c out ports r out' ready a')

  module _ (w : Name) (s : Stored) (ew : w ≡ stored_name s) (es : x.signal ≡ Some s) where
    has_signal : (isolation_of mem x).signal ≡ Some (string mem s)
    unfolding isolation_of
    has_signal = rw es

    signal_is : (l : List Kept) (b : Bool) → is_clamp (lowered (isolation_of mem x).clamp) ≡ b
        → cond b (found_gain d m number (isolation_of mem x) (string mem s) l (named ds (isolation_of mem x).domain)) (remark_gain (clamp_unknown (isolation_of mem x).name (lowered (isolation_of mem x).clamp)) l) ≡ strategy_gain d m ds number (isolation_of mem x) l
    unfolding strategy_gain
    signal_is l b h = rw (has_signal, h)

    module _ (q : Option Literal) (eq : q ≡ clamp_literal (lowered (or_else (maybe_of mem x.clamp) (ascii "0")))) where
      clamp_is : (isolation_of mem x).clamp ≡ or_else (maybe_of mem x.clamp) (ascii "0")
      unfolding isolation_of
      clamp_is = refl

      simulated : is_clamp (lowered (isolation_of mem x).clamp) ≡ is_some q
      simulated = ap (λ (v : Bytes). is_clamp (lowered v)) clamp_is ∙ clamp_known (lowered (or_else (maybe_of mem x.clamp) (ascii "0"))) ∙ ap (λ (k : Option Literal). is_some k) (sym eq)

      pub clamp_none : (n : Name) → n ≡ stored_name x.name → (b : Bool) → is_some q ≡ not b → b ≡ true → (v : Name) → v ≡ given_name x.clamp → Ready c ports → Remarked warn (clamp_unknown (name_of mem n) (lowered (name_of mem v))) c out r out'
          → Answer job mem warn c out (strategy_gain d m ds number (isolation_of mem x) (kept_in job mem ports c.ports)) r out' ports
      clamp_none n en b eb h v ev ready a =
          let z : is_clamp (lowered (isolation_of mem x).clamp) ≡ false = simulated ∙ eb ∙ ap not h in
          let z' : is_clamp (lowered (or_else (maybe_of mem x.clamp) (ascii "0"))) ≡ false = rw clamp_is at z in
          let en' : name_of mem n ≡ (isolation_of mem x).name = ap (name_of mem) en ∙ name_is mem x in
          let ev' : lowered (name_of mem v) ≡ lowered (isolation_of mem x).clamp = ap (λ (y : Name). lowered (name_of mem y)) ev ∙ clamp_given mem x.clamp z' ∙ ap lowered (sym clamp_is) in
          let a' : Remarked warn (clamp_unknown (isolation_of mem x).name (lowered (isolation_of mem x).clamp)) c out r out' = rw (en', ev') at a in
          rw (signal_is (kept_in job mem ports c.ports) false z) at (remark_answer job mem warn (clamp_unknown (isolation_of mem x).name (lowered (isolation_of mem x).clamp)) c out ports r out' ready a')

      pub clamp_some : (l : List Kept) → (b : Bool) → is_some q ≡ not b → b ≡ false → Answer job mem warn c out (found_gain d m number (isolation_of mem x) (name_of mem w) l (named ds (isolation_of mem x).domain)) r out' ports
          → Answer job mem warn c out (strategy_gain d m ds number (isolation_of mem x) l) r out' ports
      clamp_some l b eb h a =
          let z : is_clamp (lowered (isolation_of mem x).clamp) ≡ true = simulated ∙ eb ∙ ap not h in
          let ew' : name_of mem w ≡ string mem s = ap (name_of mem) ew ∙ stored_is mem s in
          rw (signal_is l true z) at (rw ew' at a)

-- ---- whether its turn has come

pub chosen_having : (having has : Bool) → having ≡ true → has ≡ cond having has (not has)
chosen_having having has h = rw h

pub chosen_other : (having has : Bool) → having ≡ false → not has ≡ cond having has (not has)
chosen_other having has h = rw h

pub ruleset choices = (rules, chosen_having, chosen_other)

module _ (files area : Bytes) (x : Isolation) (xs : Few Domain) (o : OfOne files area x xs) (v : Span) (ev : v ≡ span_of x.elements) (b : Bool) (has : Held (length files) v → b ≡ ltb 0 (length (list (bytes (files ++ area) v)))) where
  there : (es : List Bytes) (i : Isolationʳ) → i.elements ≡ es → ltb 0 (length es) ≡ has_elements i
  there [] i e = rw e
  there (y ∷ es) i e = rw e (lt-ltb 0 (length (y ∷ es)) (omega arith))

  has_is : b ≡ has_elements (isolation_of (files ++ area) x)
  has_is = own_there files area x o.own v ev b has ∙ there (isolation_of (files ++ area) x).elements (isolation_of (files ++ area) x) refl

  module _ (having q : Bool) (eq : q ≡ cond having b (not b)) where
    is_turn : chosen having (isolation_of (files ++ area) x) ≡ q
    is_turn = ap (λ (y : Bool). cond having y (not y)) (sym has_is) ∙ sym eq

    module _ (job : Bytes) (warn : Bool) (c : Cover) (out : Bytes) (d : List Module) (m : Module) (ds : List Domainʳ) (number : ℕ) where
      pub turn_own : (l : List Kept) (r : Cover) (out' : Bytes) (ports : List ℕ) → q ≡ true → Answer job (files ++ area) warn c out (strategy_gain d m ds number (isolation_of (files ++ area) x) l) r out' ports
          → Answer job (files ++ area) warn c out (turn_gain d m ds having number (isolation_of (files ++ area) x) l) r out' ports
      unfolding turn_gain
      turn_own l r out' ports h a = let e : chosen having (isolation_of (files ++ area) x) ≡ true = is_turn ∙ h in rw e a

      pub turn_other : (ports : List ℕ) → q ≡ false → Ready c ports → Answer job (files ++ area) warn c out (turn_gain d m ds having number (isolation_of (files ++ area) x) (kept_in job (files ++ area) ports c.ports)) c out ports
      unfolding turn_gain
      turn_other ports h ready = let e : chosen having (isolation_of (files ++ area) x) ≡ false = is_turn ∙ h in rw e (answer_stay job (files ++ area) warn c out ports ready)
