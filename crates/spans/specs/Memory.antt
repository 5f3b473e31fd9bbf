-- The memory that strings lie in. Assumes nothing.
use Rattle.std.specs.Prelude.{◌++◌}
use Rattle.text.specs.Ascii.{Bytes}
use Rattle.spans.specs.declared.span.Memory.{Memory}

-- the files' bytes, followed by the area's
abbrev pub memory : Memory → Bytes
memory m = m.files.now ++ m.area.now
