-- What is said of entries and instances that are not empty. Assumes nothing.
use Prim.Native.Nat.{◌<◌}
use Rattle.std.specs.Prelude.{not, length}
use mathlib.Core.List.{List, []}
use mathlib.Core.List.{Memᴰ as Mem}
use Rattle.text.specs.Ascii.{Bytes}
use Rattle.text.specs.Compare.{same}
use Rattle.joblines.specs.Job.{Inst, Module}
use Rattle.design.specs.Lists.{those}

-- the entries that are not empty
abbrev pub filled_entries : List Bytes → List Bytes
filled_entries es = those (λ e. not (same e [])) es

-- the names of instances are not empty
abbrev pub Filled : List Module → Type 0
Filled d = (m : Module) → Mem m d → (i : Inst) → Mem i m.insts → 0 < length i.name
