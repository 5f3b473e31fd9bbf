-- A strategy's values as literals. Assumes nothing.
use Rattle.std.specs.Prelude.{Bool, false, cond, Option, Some, None}
use Rattle.text.specs.Ascii.{Bytes, ascii}
use Rattle.text.specs.Compare.{same}
use Rattle.spans.specs.Span.{◌⋯◌}
use Rattle.names.specs.Name.{named}
use Rattle.names.specs.declared.name.Form.TheVariants.{Word}
use Rattle.names.specs.declared.name.Name.{Name}
use Rattle.store.specs.Strings.{span_of}
use Rattle.store.specs.declared.stored.Stored.{Stored}
use Rattle.texts.specs.declared.Literal.{Literal}

-- a stored string alone
abbrev pub stored_name : Stored → Name
stored_name s = named (0 ⋯ 0) false (span_of s) Word

-- of a clamp value in lower case, where it is one that is simulated
unfoldable pub clamp_literal : Bytes → Option Literal
clamp_literal c = cond (same c (ascii "0")) (Some Literal.Zero) (cond (same c (ascii "1")) (Some Literal.One) (cond (same c (ascii "z")) (Some Literal.Z) None))

-- whether a sense in lower case is low
unfoldable pub is_low : Bytes → Bool
is_low c = same c (ascii "low")

-- of the value at which a strategy isolates, by whether its sense is low
abbrev pub active_literal : Bool → Literal
active_literal low = cond low Literal.BitZero Literal.BitOne
