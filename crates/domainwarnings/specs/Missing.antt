-- The warnings about elements of domains, by the design and the scope's module alone. Assumes nothing.
use Rattle.store.specs.declared.state.Few.{Few}
use Rattle.std.specs.Prelude.{ℕ, ◌+◌, ◌≤◌, ◌<◌, ◌^◌, ◌≡◌, refl, Bool, true, false, not, length, take}
use Rattle.std.proofs.Common.{ap}
use mathlib.Core.List.{List, [], ◌∷◌, ◌++◌, map, flat_map}
use Rattle.text.specs.Ascii.{Bytes}
use Rattle.out.specs.Emit.{Out, emit}
use Rattle.out.specs.Text.{shown, SameRoom}
use Rattle.out.specs.declared.emit.Text.{Text}
use Rattle.out.specs.Fill.{format2}
use Rattle.out.specs.Items.{each}
use Rattle.joblines.specs.Job.{Module}
use Rattle.design.specs.Lists.{on_some, those}
use Rattle.design.specs.Lookup.{module_at}
use Rattle.design.specs.Paths.{filled_parts}
use Rattle.model.specs.Records.{Domain as Domainʳ}
use Rattle.texts.specs.Setting.{Setting}
use Rattle.texts.specs.Domains.{with_supplies, domain_warnings}
use Rattle.texts.specs.Texts.{warning_line}
use Rattle.store.specs.View.{domain_of, Store, model_of}
use Rattle.store.specs.Order.{Within, of_domain}
use Rattle.store.specs.declared.state.Domain.{Domain}
use Rattle.store.specs.declared.state.State.{State}
use Rattle.made.specs.Made.{reach_of}
use Rattle.setting.specs.Orders.{Holds, Orders, domains_hold}
use Rattle.domainlists.specs.Seen.{elements_few}

-- whether an element leads to a module
abbrev pub is_there : List Module → Module → Bytes → Bool
is_there d base e = on_some (module_at d base (filled_parts e)) false λ m. true

abbrev pub missing_text : Bytes → Bytes → Bytes
missing_text name e = format2 "power domain '{0}': element '{1}' not found" name e

-- the warnings about the elements of the domain of a name
abbrev pub missing : List Module → Module → Bytes → List Bytes → List Bytes
missing d base name es = map (missing_text name) (those (λ e. not (is_there d base e)) es)

-- about a domain, which is looked at where it has both supplies
abbrev pub remarks : List Module → Module → Domainʳ → List Bytes
remarks d base x = with_supplies x [] λ p g. missing d base x.name x.elements

-- the warnings ws written as lines behind o, which had n of them: `most` at most
pub record Told (most : ℕ) (o : Out) (n : ℕ) (ws : List Bytes) (o' : Out) (n' : ℕ) : Type 0 where
  pub text : o' ≡ emit o (each warning_line ws)
  pub count : n' ≡ n + length ws
  pub few : n' ≤ n + most

-- the same of texts that are being written
abbrev pub Tells : ℕ → Text → ℕ → List Bytes → Text → ℕ → Type 0
Tells most t n ws t' n' = SameRoom t t' × Told most (shown t) n ws (shown t') n'

-- what is asked of a stored domain, and of all
pub record OfElements (files area : Bytes) (d : Domain) : Type 0 where
  pub small : length (files ++ area) < 2 ^ 32
  pub strings : of_domain (reach_of (length files)) d ≤ length (files ++ area)
  pub few : length (domain_of (files ++ area) d).elements ≤ 65

pub record OfDomains (files area : Bytes) (t : Few Domain) : Type 0 where
  pub small : length (files ++ area) < 2 ^ 32
  pub holds : Holds (of_domain (reach_of (length files))) (length (files ++ area)) t.n t.all
  pub few : Within (λ (d : Domain). length (domain_of (files ++ area) d).elements) 65 (take t.n t.all)

-- ---- law: these are the warnings of the domains

pub remarks_are : (s : Setting) (d : Domainʳ) → domain_warnings s d ≡ remarks s.design s.base d
remarks_are s d = refl

flat_seen : (mem : Bytes) (s : Setting) (l : List Domain) → flat_map (domain_warnings s) (map (domain_of mem) l) ≡ flat_map (λ (d : Domain). remarks s.design s.base (domain_of mem d)) l
unfolding flat_map
flat_seen mem s [] = refl
flat_seen mem s (d ∷ l) = ap (λ (ws : List Bytes). remarks s.design s.base (domain_of mem d) ++ ws) (flat_seen mem s l)

pub remarks_seen : (mem : Bytes) (st : Store) (x : State) (log : Bytes) (s : Setting) → s.records ≡ model_of mem st x log → flat_map (domain_warnings s) s.records.domains ≡ flat_map (λ (d : Domain). remarks s.design s.base (domain_of mem d)) (take x.domains.n x.domains.all)
unfolding model_of
remarks_seen mem st x log s e = rw e (flat_seen mem s (take x.domains.n x.domains.all))

-- stored records in order give what is asked
pub orders_domains : (files area : Bytes) (nums : List ℕ) (x : State) → Orders files area nums x → OfDomains files area x.domains
orders_domains files area nums x o = record { small = o.small; holds = domains_hold files area nums x o; few = elements_few files area nums x o }
