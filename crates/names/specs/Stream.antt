-- A name that is read byte by byte. Assumes nothing.
use Rattle.text.specs.Ascii.{Bytes}
use Rattle.spans.specs.Memory.{memory}
use Rattle.names.specs.Name.{name_of}
use Rattle.names.specs.declared.name.Stream.{Stream}

-- the bytes that are left
abbrev pub left_of : Stream → Bytes
left_of s = name_of (memory s.mem.now) s.left
