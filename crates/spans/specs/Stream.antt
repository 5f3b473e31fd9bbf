-- A string that is read byte by byte. Assumes nothing.
use Rattle.text.specs.Ascii.{Bytes}
use Rattle.spans.specs.Memory.{memory}
use Rattle.spans.specs.Span.{bytes}
use Rattle.spans.specs.declared.span.Stream.{Stream}

-- the bytes that are left
abbrev pub left_of : Stream → Bytes
left_of s = bytes (memory s.mem.now) s.left
