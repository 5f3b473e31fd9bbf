-- The fields of records as numbers in decimal, each with a space behind it; `-` is a value that was not given. Assumes nothing.
use Rattle.std.specs.Prelude.{Option, Some, None}
use Rattle.std.specs.Prelude.{ℕ, Bool, cond}
use Rattle.text.specs.Ascii.{Bytes, ascii}
use Rattle.out.specs.Emit.{◌⊕◌}
use Rattle.out.specs.Number.{decimal}
use Rattle.store.specs.declared.stored.Stored.{Stored}
use Rattle.store.specs.declared.stored.Below.{Below}

unfoldable pub number_text : ℕ → Bytes
number_text n = decimal n ⊕ ascii " "

unfoldable pub flag_text : Bool → Bytes
flag_text b = cond b (ascii "1 ") (ascii "0 ")

-- where a string lies in the files and the area, and its length
unfoldable pub stored_text : Stored → Bytes
stored_text s = number_text s.at ⊕ number_text s.len

unfoldable pub below_text : Below → Bytes
below_text b = stored_text b.scope ⊕ stored_text b.word

unfoldable pub maybe_text : Option Stored → Bytes
maybe_text None = ascii "- "
maybe_text (Some s) = stored_text s

unfoldable pub maybe_below_text : Option Below → Bytes
maybe_below_text None = ascii "- "
maybe_below_text (Some b) = below_text b
