-- The report lines of a domain, by the texts that stand in them. Assumes nothing.
use Rattle.std.specs.Prelude.{ℕ, ◌≡◌, refl, List, length}
use Rattle.text.specs.Ascii.{Bytes, ascii}
use Rattle.out.specs.Emit.{◌⊕◌}
use Rattle.out.specs.Fill.{format1, format5}
use Rattle.out.specs.Items.{joined}
use Rattle.out.specs.Number.{decimal}
use Rattle.model.specs.Records.{Domain}
use Rattle.texts.specs.Setting.{Setting}
use Rattle.texts.specs.Domains.{lost_paths, own_retained, exempt, powered_line, unpowered_line}

-- a domain's elements, supplies and the number of its paths
abbrev pub signals_text : Bytes → List Bytes → Bytes → Bytes → ℕ → Bytes
signals_text name elements power ground_net n =
    format5 "power domain {0}: elements [{1}], power {2}, ground {3}, {4} corruptible signals" name (joined (ascii ", ") elements) power ground_net (decimal n)

abbrev pub powered_text : Bytes → List Bytes → Bytes → Bytes → ℕ → List Bytes → Bytes
powered_text name elements power ground_net n own = signals_text name elements power ground_net n ⊕ exempt own ⊕ ascii "\n"

abbrev pub unpowered_text : Bytes → Bytes
unpowered_text name = format1 "power domain {0}: no primary supplies (always on)\n" name

-- these are the lines of the report
pub powered_is : (s : Setting) (d : Domain) (power ground_net : Bytes) → powered_line s d power ground_net ≡ powered_text d.name d.elements power ground_net (length (lost_paths s d)) (own_retained s d)
powered_is s d power ground_net = refl

pub unpowered_is : (d : Domain) → unpowered_line d ≡ unpowered_text d.name
unpowered_is d = refl
