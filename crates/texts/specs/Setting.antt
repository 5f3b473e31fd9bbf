-- What the texts are made of: the top's name, the scope, the module lines and the records; and how names are written in them.
-- Assumes nothing.
use Rattle.std.specs.Prelude.{List, [], ◌∷◌, ◌++◌}
use Rattle.text.specs.Ascii.{Bytes, ascii}
use Rattle.out.specs.Items.{each}
use Rattle.joblines.specs.Job.{Module, Job}
use Rattle.design.specs.Paths.{element_path}
use Rattle.model.specs.Records.{Model}

pub record Setting : Type 0 where
  -- the top module's name
  pub top : Bytes
  -- the scope's instance names below it, and its module
  pub scope : List Bytes
  pub base : Module
  -- the module lines
  pub design : List Module
  pub records : Model

-- a name below the scope, with dots
abbrev pub hier : Setting → Bytes → Bytes
hier s rel = element_path s.scope rel

-- a name below the scope with slashes, from the top on; the empty one adds none
abbrev pub slashed : Bytes → Bytes
slashed [] = []
slashed (b ∷ rel) = ascii "/" ++ (b ∷ rel)

abbrev pub slash_path : Setting → Bytes → Bytes
slash_path s rel = ascii "/" ++ (s.top ++ (each (λ n. ascii "/" ++ n) s.scope ++ slashed rel))

-- the setting of a job: its scope's path and module, and the records that its commands left
abbrev pub setting_of : Job → List Bytes → Module → Model → Setting
setting_of j path base m = record { top = j.top; scope = path; base = base; design = j.modules; records = m }
