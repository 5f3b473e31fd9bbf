-- How stored strings stand for byte strings: each is a span of the files followed by the area. Assumes nothing.
use Rattle.std.specs.Prelude.{Option, None, Some}
use Rattle.text.specs.Ascii.{Bytes}
use Rattle.spans.specs.Span.{◌⋯◌, bytes}
use Rattle.spans.specs.declared.span.Span.{Span}
use Rattle.model.specs.Scope.{scoped}
use Rattle.store.specs.declared.stored.Stored.{Stored}
use Rattle.store.specs.declared.stored.Below.{Below}

-- a span in half the room is that span
abbrev pub span_of : Stored → Span
span_of s = s.at ⋯ s.len

abbrev pub stored_of : Span → Stored
stored_of s = record { at = s.at; len = s.len }

abbrev pub no_string : Stored
no_string = record { at = 0; len = 0 }

abbrev pub string : Bytes → Stored → Bytes
string mem s = bytes mem (span_of s)

abbrev pub maybe_of : Bytes → Option Stored → Option Bytes
maybe_of mem None = None
maybe_of mem (Some s) = Some (string mem s)

-- a name below its scope
abbrev pub below_of : Bytes → Below → Bytes
below_of mem b = scoped (string mem b.scope) (string mem b.word)

abbrev pub maybe_below_of : Bytes → Option Below → Option Bytes
maybe_below_of mem None = None
maybe_below_of mem (Some b) = Some (below_of mem b)

-- ---- what was looked for, as it is stored

abbrev pub maybe_found : Option Span → Option Stored
maybe_found None = None
maybe_found (Some s) = Some (stored_of s)

abbrev pub below_found : Stored → Option Span → Option Below
below_found scope None = None
below_found scope (Some s) = Some (record { scope = scope; word = stored_of s })

abbrev pub found_or : Option Span → Stored
found_or None = no_string
found_or (Some s) = stored_of s

abbrev pub found_else : Option Span → Option Stored → Option Stored
found_else None old = old
found_else (Some s) old = Some (stored_of s)
