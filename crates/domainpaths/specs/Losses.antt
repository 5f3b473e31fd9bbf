-- What the walk of a stored domain asks, what it leaves, and what that says of the paths that the domain loses. Assumes nothing.
use Rattle.std.specs.Prelude.{ℕ, ◌+◌, ◌≤◌, ◌<◌, ◌^◌, ◌≡◌, refl, not, ltb, length, take, Result, Ok, Err, is_err}
use Rattle.std.proofs.Common.{sym, ap, ◌∙◌, arith, length-take-le}
use mathlib.Core.List.{List, [], ◌++◌, Memᴰ as Mem}
use Rattle.std.proofs.lemmas.List.{length-map}
use Rattle.text.specs.Ascii.{Bytes}
use Rattle.joblines.specs.Job.{Module}
use Rattle.nametable.specs.Table.{table_names}
use Rattle.design.specs.Paths.{child_path, scope_path}
use Rattle.walk.specs.Limits.{most_paths, most_path_bytes}
use Rattle.walk.specs.Walk.{domain_list, domain_entered, walk_fits}
use Rattle.walk.specs.Relative.{Filled}
use Rattle.paths.specs.Pieces.{entries_below, stem}
use Rattle.listing.specs.Listing.{paths_of, flag_count, cut_length, Within, Listed}
use Rattle.listing.specs.declared.TooMany.{TooMany}
use Rattle.modtable.specs.Table.{Tabled}
use Rattle.corrupt.specs.Corrupt.{Short}
use Rattle.store.specs.View.{domain_of}
use Rattle.store.specs.Order.{of_domain}
use Rattle.store.specs.declared.state.Domain.{Domain}
use Rattle.made.specs.Made.{reach_of}
use Rattle.pathlines.specs.Lines.{below}
use Rattle.pathlines.specs.Lost.{lost_over, lost_are}
use Rattle.domainpaths.specs.declared.Loss.{Loss}
use Rattle.domainpaths.specs.declared.Passed.{Passed}

-- ---- what is asked

pub record OfWalk (job : Bytes) (nums : List ℕ) (count k : ℕ) (table : List ℕ) (files area : Bytes) (kept : ℕ) (d : Domain) (prefix : ℕ) (tail text : Bytes) (ends : List ℕ) : Type 0 where
  pub few : count ≤ 128
  pub row : k < count
  pub job_small : length job < 2 ^ 32
  pub small : length (files ++ area) < 2 ^ 32
  pub kept_few : kept ≤ 65536
  pub prefix_small : prefix < 2 ^ 32
  pub tail_long : 2081 ≤ length tail
  pub text_long : most_path_bytes ≤ length text
  pub ends_long : most_paths + flag_count ≤ length ends
  pub short : Short job nums count
  pub tabled : Tabled job nums count table
  pub strings : of_domain (reach_of (length files)) d ≤ length (files ++ area)
  pub elements_few : length (domain_of (files ++ area) d).elements ≤ 65

-- ---- what the walk leaves: the elements, and what it has listed; or a limit is passed

pub record Lost (mods : List Module) (base : Module) (mem : Bytes) (entries : List Bytes) (d : Domain) (prefix : ℕ) (elements : List ℕ) (text : Bytes) (ends : List ℕ) (r : Loss) : Type 0 where
  pub elements_are : table_names mem elements r.elements ≡ (domain_of mem d).elements
  pub elements_few : r.elements ≤ 65
  pub listed : Listed prefix (domain_entered mods base [] (entries_below (ltb 0 prefix) entries) (domain_of mem d).elements) (domain_list mods base [] (entries_below (ltb 0 prefix) entries) (domain_of mem d).elements) r.walk text ends

pub record Full (mods : List Module) (base : Module) (mem : Bytes) (entries : List Bytes) (d : Domain) (prefix : ℕ) (elements : List ℕ) (x : Passed) : Type 0 where
  pub elements_are : table_names mem elements x.elements ≡ (domain_of mem d).elements
  pub elements_few : x.elements ≤ 65
  pub over : Within prefix (domain_entered mods base [] (entries_below (ltb 0 prefix) entries) (domain_of mem d).elements) (domain_list mods base [] (entries_below (ltb 0 prefix) entries) (domain_of mem d).elements) → ⊥

abbrev pub Loses : List Module → Module → Bytes → List Bytes → Domain → ℕ → List ℕ → Bytes → List ℕ → Result Loss Passed → Type 0
Loses mods base mem entries d prefix elements text ends (Ok r) = Lost mods base mem entries d prefix elements text ends r
Loses mods base mem entries d prefix elements text ends (Err x) = Full mods base mem entries d prefix elements x

-- ---- laws: what is lost, below the scope whose path adds `prefix` to each path

module _ (mods : List Module) (base : Module) (mem : Bytes) (scope entries : List Bytes) (d : Domain) (ok : Filled mods) (at : Mem base mods) (bare : scope_path scope ≡ [] → scope ≡ []) (prefix : ℕ) (pre : prefix ≡ length (stem (scope_path scope))) (elements : List ℕ) (text : Bytes) (ends : List ℕ) where
  -- a limit is passed exactly where the walk does not fit
  pub loses_over : (r : Result Loss Passed) → Loses mods base mem entries d prefix elements text ends r → is_err r ≡ not (walk_fits mods base scope entries (domain_of mem d).elements)
  loses_over (Ok r) l = lost_over mods base scope entries (domain_of mem d).elements ok at bare prefix pre (Ok r.walk) text ends l.listed
  loses_over (Err x) out = lost_over mods base scope entries (domain_of mem d).elements ok at bare prefix pre (Err (record {})) text ends out.over

  module _ (r : Loss) (l : Lost mods base mem entries d prefix elements text ends r) where
    -- else the listed paths are those that are lost
    pub loses_paths : below scope (paths_of text ends r.walk.count) ≡ domain_list mods base scope entries (domain_of mem d).elements
    loses_paths = lost_are mods base scope entries (domain_of mem d).elements ok at bare prefix pre (Ok r.walk) text ends l.listed r.walk refl

    pub loses_room : r.walk.count ≤ length ends
    loses_room = let e = l.listed.ready in omega (arith, e.few, e.ends_long)

    pub loses_count : r.walk.count ≡ length (domain_list mods base scope entries (domain_of mem d).elements)
    loses_count =
        sym (length-take-le r.walk.count ends loses_room)
        ∙ sym (cut_length text 0 (take r.walk.count ends))
        ∙ sym (length-map (paths_of text ends r.walk.count) (child_path (scope_path scope)))
        ∙ ap length loses_paths
