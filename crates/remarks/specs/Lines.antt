-- The texts of a strategy in the report. Assumes nothing.
use Rattle.std.specs.Prelude.{Option, Some, None}
use Rattle.store.specs.declared.stored.Stored.{Stored}
use Rattle.std.specs.Prelude.{◌≡◌, Bool, []}
use Rattle.text.specs.Ascii.{Bytes}
use Rattle.out.specs.Emit.{◌▸◌, emit}
use Rattle.out.specs.Fill.{format1, format2, format5}
use Rattle.clamps.specs.Values.{stored_name}
use Rattle.format.specs.declared.arg.Wrap.{Wrap}
use Rattle.texts.specs.declared.Literal.{Literal}
use Rattle.format.specs.Args.{name_arg, fixed_arg}
use Rattle.format.specs.declared.arg.Arg.{Arg}
use Rattle.keep.specs.Covered.{said_by}
use Rattle.keep.specs.declared.Cover.{Cover}

abbrev pub no_signal : Bytes → Bytes
no_signal n = format1 "isolation strategy '{0}' has no -isolation_signal; not simulated" n

abbrev pub unknown_domain : Bytes → Bytes → Bytes
unknown_domain n d = format2 "isolation strategy '{0}': unknown domain '{1}'" n d

abbrev pub not_outputs : Bytes → Bytes → Bytes
not_outputs n a = format2 "isolation strategy '{0}': -applies_to {1} not simulated (outputs only)" n a

abbrev pub clamp_unknown : Bytes → Bytes → Bytes
clamp_unknown n v = format2 "isolation strategy '{0}': clamp value '{1}' not simulated" n v

-- the strategy, its domain, its clamp as written, its signal, its sense
abbrev pub strategy_line : Bytes → Bytes → Bytes → Bytes → Bytes → Bytes
strategy_line n d clamp signal sense = format5 "isolation {0} on {1}: clamp {2} control {3} sense {4}\n" n d clamp signal sense

-- what is given, or a literal
abbrev pub or_arg : Option Stored → Literal → Arg
or_arg None k = fixed_arg (Wrap.Literal k)
or_arg (Some s) k = name_arg (stored_name s)

-- a line more
pub record Lined (warn : Bool) (t : Bytes) (c : Cover) (out : Bytes) (r : Cover) (out' : Bytes) : Type 0 where
  pub is : r ≡ record { over = c.over; ports = c.ports; warnings = c.warnings; at = r.at }
  pub text : out' ▸ r.at ≡ emit (out ▸ c.at) (said_by warn t [])
