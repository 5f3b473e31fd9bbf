-- What the texts of all domains ask, and what they leave by the definitions. Assumes nothing.
use Rattle.store.specs.declared.state.Few.{Few}
use Rattle.store.specs.declared.state.Isolation.{Isolation}
use Rattle.std.specs.Prelude.{ℕ, ◌+◌, ◌≤◌, ◌<◌, ◌^◌, ◌≡◌, true, false, List, ◌++◌, map, length, Result, Ok, Err}
use Rattle.text.specs.Ascii.{Bytes}
use Rattle.text.specs.Scan.{all}
use Rattle.out.specs.Emit.{Out, ◌▸◌, emit}
use Rattle.out.specs.Items.{each}
use Rattle.lookup.specs.Rows.{modules}
use Rattle.nametable.specs.Table.{table_names}
use Rattle.design.specs.Paths.{scope_path}
use Rattle.walk.specs.Limits.{most_paths, most_path_bytes}
use Rattle.walk.specs.Relative.{Filled}
use Rattle.paths.specs.Pieces.{stem}
use Rattle.listing.specs.Listing.{flag_count}
use Rattle.listing.specs.declared.TooMany.{TooMany}
use Rattle.modtable.specs.Table.{Tabled}
use Rattle.corrupt.specs.Corrupt.{Short}
use Rattle.scope.specs.Parts.{parts}
use Rattle.store.specs.declared.state.State.{State}
use Rattle.setting.specs.Orders.{Orders}
use Rattle.setting.specs.Stands.{Stands}
use Rattle.texts.specs.Setting.{Setting}
use Rattle.texts.specs.Isolation.{Isolated}
use Rattle.texts.specs.Domains.{domain_glue, domain_line, domain_fits}
use Rattle.isolated.specs.Table.{kept_in}
use Rattle.alike.specs.Strategies.{strategy_at}
use Rattle.alike.specs.Shown.{shown}
use Rattle.alike.specs.Ruled.{Ruled}
use Rattle.domainlists.specs.Lists.{all_entries}
use Rattle.domains.specs.declared.Told.{Told}

-- what is asked: the table of the modules, the table of the retained entries, the isolated ports, what the scope's path adds to each path
pub record OfDomains (job : Bytes) (nums : List ℕ) (count k : ℕ) (table : List ℕ) (files area path : Bytes) (from prefix : ℕ) (s : State) (retained : List ℕ) (kept : ℕ) (ports : List ℕ) (isolated : ℕ) : Type 0 where
  pub few : count ≤ 128
  pub row : k < count
  pub job_small : length job < 2 ^ 32
  pub short : Short job nums count
  pub filled : Filled (modules job nums count)
  pub tabled : Tabled job nums count table
  pub orders : Orders files area nums s
  pub prefix_is : prefix ≡ length (stem (scope_path (parts path from)))
  pub prefix_small : prefix < 2 ^ 32
  pub kept_are : table_names (files ++ area) retained kept ≡ all_entries (files ++ area) s.retentions
  pub kept_few : kept ≤ 1024
  pub ruled : Ruled (files ++ area) s.isolations ports isolated

-- room for the walk
pub record WalkRoom (tail text : Bytes) (ends : List ℕ) : Type 0 where
  pub tail_long : 2081 ≤ length tail
  pub text_long : most_path_bytes ≤ length text
  pub ends_long : most_paths + flag_count ≤ length ends

-- the isolated ports as the definitions have them
abbrev pub shown_ports : Setting → Bytes → Bytes → Few Isolation → List ℕ → ℕ → List Isolated
shown_ports t job mem xs ports n = map (shown t.scope t.top (strategy_at mem xs)) (kept_in job mem ports n)

-- ---- what is left: the glue and the lines of all domains, or a walk past its limits
pub record DomainsPut (t : Setting) (ps : List Isolated) (g : Out) (glue : Bytes) (o : Out) (report : Bytes) (r : Told) : Type 0 where
  pub fits : all (domain_fits t) t.records.domains ≡ true
  pub glue_is : glue ▸ r.glue ≡ emit g (each (domain_glue t ps) t.records.domains)
  pub report_is : report ▸ r.report ≡ emit o (each (domain_line t) t.records.domains)

abbrev pub DomainsTold : Setting → List Isolated → Out → Bytes → Out → Bytes → Result Told TooMany → Type 0
DomainsTold t ps g glue o report (Ok r) = DomainsPut t ps g glue o report r
DomainsTold t ps g glue o report (Err _) = all (domain_fits t) t.records.domains ≡ false

-- for every setting that the values stand for
abbrev pub AllTold : Bytes → List ℕ → ℕ → ℕ → Bytes → Bytes → Bytes → ℕ → Bytes → State → List ℕ → ℕ → Out → Bytes → Out → Bytes → Result Told TooMany → Type 0
AllTold job nums count k files area path from top s ports isolated g glue o report r =
    (t : Setting) → Stands job nums count k files area path from top s t → DomainsTold t (shown_ports t job (files ++ area) s.isolations ports isolated) g glue o report r
