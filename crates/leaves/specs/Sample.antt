-- What the exported functions answer in numbers, and a template with every kind of place. Assumes nothing.
use Rattle.std.specs.Prelude.{Option, Some, None}
use Rattle.std.specs.Prelude.{ℕ}
use Rattle.text.specs.Ascii.{Bytes}
use Rattle.out.specs.Fill.{format3}

-- the number, and 2 to the 32nd for none: more than any bound
abbrev pub to_number : Option ℕ → ℕ
to_number (Some n) = n
to_number None = 4294967296

abbrev pub sample : Bytes → Bytes → Bytes → Bytes
sample x y z = format3 "wire {a} = {1} & '{{{2}}}' \"{B}\" {r};\n" x y z
