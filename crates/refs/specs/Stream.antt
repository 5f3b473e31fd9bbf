-- A text that is read byte by byte. Assumes nothing.
use Rattle.text.specs.Ascii.{Bytes}
use Rattle.spans.specs.Memory.{memory}
use Rattle.refs.specs.Text.{text_of}
use Rattle.refs.specs.declared.Stream.{Stream}

-- the bytes that are left
abbrev pub left_of : Stream → Bytes
left_of s = text_of s.job.now (memory s.mem.now) s.left
