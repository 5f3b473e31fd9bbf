-- The lines of a text, and which of them are force lines (document 01, "The walk and the glue"); names that stay on one line.
-- Assumes nothing.
use Rattle.std.specs.Prelude.{Bool, true, not, ◌&&◌, List, eqb}
use Rattle.text.specs.Ascii.{Bytes, ascii, byte}
use Rattle.text.specs.Compare.{starts_with}
use Rattle.text.specs.Scan.{all, split_at}
use Rattle.out.specs.Fill.{format1}
use Rattle.design.specs.Lists.{on_some, those}
use Rattle.model.specs.Records.{Domain, Isolation, Model}

-- the lines of a text, cut from the text itself: its parts between the LFs
abbrev pub lines_of : Bytes → List Bytes
lines_of t = split_at (byte "\n") t

-- "A force line of the glue begins with six spaces, `force` and a space."
abbrev pub is_force : Bytes → Bool
is_force line = starts_with (ascii "      force ") line

abbrev pub force_lines : Bytes → List Bytes
force_lines t = those is_force (lines_of t)

-- the force line of a path, without its LF
abbrev pub force_line : Bytes → Bytes
force_line path = format1 "      force {0} = 'x;" path

-- it has no LF
abbrev pub on_one_line : Bytes → Bool
on_one_line s = all (λ b. not (eqb b (byte "\n"))) s

-- "no domain, strategy or isolation signal has an LF in its name"
abbrev pub names_on_one_line : Model → Bool
names_on_one_line m =
    all (λ (d : Domain). on_one_line d.name) m.domains
    && all (λ (i : Isolation). on_one_line i.name && on_some i.signal true on_one_line) m.isolations
