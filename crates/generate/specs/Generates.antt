-- What generation asks, and what it promises: over exactly where the setting is past a limit, else the three texts of the setting, written from the
-- start of their buffers. Assumes nothing.
use Rattle.std.specs.Prelude.{ℕ, ◌+◌, ◌≤◌, ◌<◌, ◌^◌, List, length}
use Rattle.text.specs.Ascii.{Bytes}
use Rattle.lookup.specs.Rows.{modules}
use Rattle.walk.specs.Relative.{Filled}
use Rattle.modtable.specs.Making.{Limited}
use Rattle.corrupt.specs.Corrupt.{Short}
use Rattle.store.specs.declared.state.State.{State}
use Rattle.texts.specs.Setting.{Setting}
use Rattle.setting.specs.Orders.{Orders}
use Rattle.setting.specs.Stands.{Stands}
use Rattle.answers.specs.Stage.{limited, Staged}
use Rattle.answers.specs.declared.Texts.{Texts}

-- row k of the `count` modules is the scope's, each module is within the limits of a job, the names of instances are NAMEs, and the state is in order;
-- `path` has the scope's names
pub record Asks (job : Bytes) (nums : List ℕ) (count k : ℕ) (files area path : Bytes) (s : State) : Type 0 where
  pub few : count ≤ 128
  pub row : k < count
  pub job_short : length job ≤ 65536
  pub path_short : length path ≤ 65536
  pub memory_small : length files + length area < 2 ^ 31
  pub short : Short job nums count
  pub within : (i : ℕ) → i < count → Limited job nums i
  pub filled : Filled (modules job nums count)
  pub orders : Orders files area nums s

-- for every setting that the values stand for: the texts of the setting, or 13
abbrev pub Generated : Bytes → List ℕ → ℕ → ℕ → Bytes → Bytes → Bytes → ℕ → Bytes → State → Bytes → Bytes → Bytes → Bytes → Bytes → Bytes → Texts → Type 0
Generated job nums count k files area path from top s glue₀ glue pkg₀ pkg report₀ report r =
    (t : Setting) → Stands job nums count k files area path from top s t → Staged glue₀ glue pkg₀ pkg report₀ report r (limited t)
