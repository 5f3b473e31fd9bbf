-- The ports that elements aim at, as a strategy reads them: as they are written, or all as instances. Assumes nothing.
use Rattle.std.specs.Prelude.{Bool, cond, List}
use Rattle.text.specs.Ascii.{Bytes}
use Rattle.joblines.specs.Job.{Module}
use Rattle.keep.specs.Gains.{Aim}
use Rattle.cover.specs.Aims.{output_aims, element_aims}

unfoldable pub aims_for : Bool → List Module → Module → Bytes → List Aim
aims_for outputs d m e = cond outputs (output_aims d m e) (element_aims d m e)
