-- What the texts of one domain ask, and what they leave. Assumes nothing.
use Rattle.store.specs.declared.state.Few.{Few}
use Rattle.store.specs.declared.state.Isolation.{Isolation}
use Rattle.store.specs.declared.state.Retention.{Retention}
use Rattle.std.specs.Prelude.{ℕ, ◌≤◌, ◌≡◌, Bool, true, false, List, ◌++◌, map, length, Result, Ok, Err}
use Rattle.text.specs.Ascii.{Bytes}
use Rattle.out.specs.Emit.{Out, ◌▸◌, emit}
use Rattle.out.specs.Items.{each}
use Rattle.design.specs.Paths.{retained_path}
use Rattle.walk.specs.Walk.{walk_fits}
use Rattle.texts.specs.Setting.{Setting}
use Rattle.texts.specs.Domains.{retained_entries, powered_glue, powered_line, domain_glue, domain_line, domain_fits}
use Rattle.store.specs.Strings.{string, below_of}
use Rattle.store.specs.View.{domain_of}
use Rattle.store.specs.Order.{of_domain}
use Rattle.store.specs.declared.stored.Below.{Below}
use Rattle.store.specs.declared.state.Domain.{Domain}
use Rattle.store.specs.declared.state.State.{State}
use Rattle.made.specs.Made.{reach_of}
use Rattle.setting.specs.Stands.{Stands}
use Rattle.alike.specs.Strategies.{strategy_at}
use Rattle.checks.specs.Sorted.{check_text, own_in}
use Rattle.domainlists.specs.Lists.{own_entries}
use Rattle.domainline.specs.Lines.{powered_text, unpowered_text}
use Rattle.domainglue.specs.Glue.{glue_text, OfGlue}
use Rattle.domainreport.specs.Reports.{OfReport}
use Rattle.listing.specs.declared.TooMany.{TooMany}
use Rattle.domains.specs.declared.Told.{Told}
use Rattle.domains.specs.Told.{shown_ports}

-- ---- what is asked

-- of a stored domain
pub record OfOne (files area : Bytes) (d : Domain) : Type 0 where
  pub strings : of_domain (reach_of (length files)) d ≤ length (files ++ area)
  pub few : length (domain_of (files ++ area) d).elements ≤ 65

-- of the stored records, m elements and n listed paths
pub record OfTexts (files area : Bytes) (xs : Few Isolation) (rs : Few Retention) (ports : List ℕ) (isolated m : ℕ) (ends : List ℕ) (n : ℕ) : Type 0 where
  pub glue : OfGlue (files ++ area) xs ports isolated
  pub report : OfReport files area rs
  pub elements : m ≤ 65536
  pub paths : n ≤ length ends

-- ---- what is left, by stored names: the texts with both supplies, the line without

pub record Texts (mem : Bytes) (scope : List Bytes) (xs : Few Isolation) (rs : Few Retention) (ports : List ℕ) (isolated : ℕ) (d : Domain) (p g : Below) (elements paths : List Bytes) (n : ℕ) (o : Out) (glue : Bytes) (o' : Out) (report : Bytes) (r : Told) : Type 0 where
  pub glue_is : glue ▸ r.glue ≡ emit o (glue_text (string mem d.name) (below_of mem p) (below_of mem g) (each (check_text scope (strategy_at mem xs) (string mem d.name)) (own_in mem xs d.name ports isolated)) paths)
  pub report_is : report ▸ r.report ≡ emit o' (powered_text (string mem d.name) elements (below_of mem p) (below_of mem g) n (map (retained_path scope) (own_entries mem rs d.name)))

pub record Bare (mem : Bytes) (d : Domain) (glue : ℕ) (o : Out) (report : Bytes) (r : Told) : Type 0 where
  pub glue_is : r.glue ≡ glue
  pub report_is : report ▸ r.report ≡ emit o (unpowered_text (string mem d.name))

-- ---- what is left by the definitions: the walk fits, and glue and line are there; or it does not fit

pub record Puts (fits : Bool) (text line : Bytes) (g : Out) (glue : Bytes) (o : Out) (report : Bytes) (r : Told) : Type 0 where
  pub within : fits ≡ true
  pub glue_is : glue ▸ r.glue ≡ emit g text
  pub report_is : report ▸ r.report ≡ emit o line

abbrev pub Tells : Bool → Bytes → Bytes → Out → Bytes → Out → Bytes → Result Told TooMany → Type 0
Tells fits text line g glue o report (Ok r) = Puts fits text line g glue o report r
Tells fits text line g glue o report (Err _) = fits ≡ false

-- for every setting that the values stand for: of a domain with the supplies p and q
pub record SuppliedTold (job : Bytes) (nums : List ℕ) (count k : ℕ) (files area path : Bytes) (from : ℕ) (top : Bytes) (s : State) (ports : List ℕ) (isolated : ℕ) (d : Domain) (p q : Below) (g : Out) (glue : Bytes) (o : Out) (report : Bytes) (r : Result Told TooMany) : Type 0 where
  pub told : (t : Setting) → Stands job nums count k files area path from top s t
      → Tells (walk_fits t.design t.base t.scope (retained_entries t.records) (domain_of (files ++ area) d).elements)
      (powered_glue t (shown_ports t job (files ++ area) s.isolations ports isolated) (domain_of (files ++ area) d) (below_of (files ++ area) p) (below_of (files ++ area) q))
      (powered_line t (domain_of (files ++ area) d) (below_of (files ++ area) p) (below_of (files ++ area) q))
      g glue o report r

-- of any
pub record OneTold (job : Bytes) (nums : List ℕ) (count k : ℕ) (files area path : Bytes) (from : ℕ) (top : Bytes) (s : State) (ports : List ℕ) (isolated : ℕ) (d : Domain) (g : Out) (glue : Bytes) (o : Out) (report : Bytes) (r : Result Told TooMany) : Type 0 where
  pub told : (t : Setting) → Stands job nums count k files area path from top s t
      → Tells (domain_fits t (domain_of (files ++ area) d)) (domain_glue t (shown_ports t job (files ++ area) s.isolations ports isolated) (domain_of (files ++ area) d)) (domain_line t (domain_of (files ++ area) d)) g glue o report r
