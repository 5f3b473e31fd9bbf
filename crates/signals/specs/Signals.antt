-- The signals that a domain loses, from the bytes of a job to the bytes of its report and its glue: demand 3, each part under its sentence. Read this
-- file first. What it leans on: `answer` (answers/specs/Answer.antt: the ten checks); `parse` and `reading` (the job's module
-- lines, and the records that its commands leave); `DomainReaches` (walk/specs/Reach.antt: what it is that an element reaches a path, said without the walk);
-- `lost_paths`, `always_block`, `initial_block`, `powered_line` (texts/specs/Domains.antt); `force_lines` (texts/specs/ForceLines.antt: lines cut from a text).
-- Assumes nothing.
use Rattle.std.specs.Prelude.{◌≡◌, ◌↔◌, true, length, Some}
use Rattle.std.proofs.Common.{sym, subst, ◌∙◌}
use mathlib.Core.List.{List, ◌∷◌, ◌++◌, map, Memᴰ as Mem}
use Rattle.text.specs.Ascii.{Bytes, ascii}
use Rattle.text.specs.Numbers.{value_from, is_decimal}
use Rattle.out.specs.Items.{joined}
use Rattle.out.specs.Number.{decimal}
use Rattle.walk.specs.Reach.{DomainReaches, Distinct, NumberOf, Joined, Whole}
use Rattle.walk.proofs.Demand.{listed_iff, listed_once, listed_number, three_lists_asked}
use Rattle.model.specs.Records.{Domain}
use Rattle.texts.specs.Domains.{retained_entries, wire, powered_line, exempt, own_retained}
use Rattle.texts.specs.ForceLines.{force_lines, force_line, names_on_one_line}
use Rattle.texts.specs.Blocks.{always_of, initial_of, glue_head, glue_for, report_head, report_for, report_tail}
use Rattle.texts.proofs.Blocks.{glue_has_blocks, report_has_line, line_says, number_printed, always_lines, initial_lines, lines_number, lines_once}
use Rattle.answers.specs.Answer.{Lent}
use Rattle.signals.specs.Accepted.{Accepted, setting_in, listed, its_scope, mem_at, Alike, listed_alike}

-- ---- its domains with both supplies

-- d is a domain of the job's records, in front of these and behind those, "with both supplies"
pub record Powered {l : Lent} {t g p r o : Bytes} (a : Accepted l t g p r o) (d : Domain) : Type 0 where
  pub front : List Domain
  pub back : List Domain
  pub stands : a.records.domains ≡ front ++ d ∷ back
  pub power : Bytes
  pub ground_net : Bytes
  pub has_power : d.power ≡ Some power
  pub has_ground : d.ground_net ≡ Some ground_net

-- some element of the domain reaches the path q "by at most 32 undimensioned instances, through no retained path, to a losable name"
abbrev pub Reached : {l : Lent} {t g p r o : Bytes} → Accepted l t g p r o → Domain → Bytes → Type 0
Reached a d q = DomainReaches a.job.modules a.base a.path (retained_entries a.records) d.elements q

module _ (l : Lent) (t g p r o : Bytes) (a : Accepted l t g p r o) (d : Domain) (h : Powered a d) where
  its : Mem d a.records.domains
  its = rw h.stands (mem_at h.front d h.back)

  -- 3a: "a path is in the domain's list exactly if some element reaches it"
  pub exactly_reached : (q : Bytes) → Mem q (listed a d) ↔ Reached a d q
  exactly_reached q = listed_iff a.job.modules a.base a.path (retained_entries a.records) d.elements q

  -- 3b: "the list has each path one time"
  pub once : Distinct (listed a d)
  once = listed_once a.job.modules a.base a.path (retained_entries a.records) d.elements

  -- 3c: the report has the domain's line
  pub report_line : r ≡ (report_head (setting_in a) ++ report_for (setting_in a) h.front) ++ (powered_line (setting_in a) d h.power h.ground_net ++ (report_for (setting_in a) h.back ++ report_tail (setting_in a)))
  report_line = a.report_is ∙ report_has_line (setting_in a) h.front d h.back h.stands h.power h.ground_net h.has_power h.has_ground

  -- and it says how many signals there are
  pub line_bytes : powered_line (setting_in a) d h.power h.ground_net ≡
      ascii "power domain " ++ (d.name ++ (ascii ": elements [" ++ (joined (ascii ", ") d.elements ++ (ascii "], power " ++ (h.power ++ (ascii ", ground " ++ (h.ground_net ++ (ascii ", "
      ++ (decimal (length (listed a d)) ++ (ascii " corruptible signals" ++ (exempt (own_retained (setting_in a) d) ++ ascii "\n")))))))))))
  line_bytes = line_says (setting_in a) d h.power h.ground_net

  -- "the number printed in the report line, as decimal digits, is the length of that list"
  pub number_is : (is_decimal (decimal (length (listed a d))) ≡ true) × (value_from 0 (decimal (length (listed a d))) ≡ length (listed a d))
  number_is = number_printed (setting_in a) a.within d its h.power h.ground_net h.has_power h.has_ground

  -- "exactly the number of different paths that some element of it reaches"
  pub number_of_paths : NumberOf (Reached a d) (value_from 0 (decimal (length (listed a d))))
  number_of_paths = subst (NumberOf (Reached a d)) (sym number_is.1) (listed_number a.job.modules a.base a.path (retained_entries a.records) d.elements)

  -- 3d: the domain's two blocks in the glue
  pub glue_blocks : g ≡ (glue_head (setting_in a) ++ glue_for (setting_in a) h.front) ++ (wire d h.power h.ground_net ++ (always_of (setting_in a) d ++ (initial_of (setting_in a) d ++ glue_for (setting_in a) h.back)))
  glue_blocks = a.glue_is ∙ glue_has_blocks (setting_in a) h.front d h.back h.stands h.power h.ground_net h.has_power h.has_ground

  -- "where no domain, strategy or isolation signal has an LF in its name": the force lines of each are one for each path of the list, in its order
  pub always_forces : names_on_one_line a.records ≡ true → force_lines (always_of (setting_in a) d) ≡ map force_line (listed a d)
  always_forces names = always_lines t a.job a.path a.base (its_scope l t g p r o a) a.records names d its

  pub initial_forces : names_on_one_line a.records ≡ true → force_lines (initial_of (setting_in a) d) ≡ map force_line (listed a d)
  initial_forces names = initial_lines t a.job a.path a.base (its_scope l t g p r o a) a.records names d its

  -- so there are as many of them as the report says, and no two are the same
  pub as_many : names_on_one_line a.records ≡ true → (length (force_lines (always_of (setting_in a) d)) ≡ length (listed a d)) × (length (force_lines (initial_of (setting_in a) d)) ≡ length (listed a d))
  as_many names = lines_number t a.job a.path a.base (its_scope l t g p r o a) a.records names d its

  pub no_line_twice : names_on_one_line a.records ≡ true → Distinct (force_lines (always_of (setting_in a) d)) × Distinct (force_lines (initial_of (setting_in a) d))
  no_line_twice names = lines_once t a.job a.path a.base (its_scope l t g p r o a) a.records names d its

-- ---- three retention lists

-- 3e: three accepted jobs, "the third retention list being the first two joined: if no element of a domain has an empty part, save the one empty
-- altogether, the paths listed in the third are exactly those listed in both others"
module _ (l₁ l₂ l₃ : Lent) (t₁ g₁ p₁ r₁ o₁ t₂ g₂ p₂ r₂ o₂ t₃ g₃ p₃ r₃ o₃ : Bytes)
    (a₁ : Accepted l₁ t₁ g₁ p₁ r₁ o₁) (a₂ : Accepted l₂ t₂ g₂ p₂ r₂ o₂) (a₃ : Accepted l₃ t₃ g₃ p₃ r₃ o₃) (k₁ : Alike a₁ a₃) (k₂ : Alike a₂ a₃)
    (both : Joined (retained_entries a₁.records) (retained_entries a₂.records) (retained_entries a₃.records)) where
  pub three_retention_lists : (d : Domain) → Mem d a₃.records.domains → ((e : Bytes) → Mem e d.elements → Whole e) → (q : Bytes) → Mem q (listed a₃ d) ↔ (Mem q (listed a₁ d) × Mem q (listed a₂ d))
  three_retention_lists d has whole q =
      rw (listed_alike a₁ a₃ k₁ d, listed_alike a₂ a₃ k₂ d)
      (three_lists_asked t₃ a₃.job a₃.path a₃.base (its_scope l₃ t₃ g₃ p₃ r₃ o₃ a₃) d.elements whole (retained_entries a₁.records) (retained_entries a₂.records) (retained_entries a₃.records) both q)
