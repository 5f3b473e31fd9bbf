-- Modules and instances by name, in the module lines of a job (the Rust's `instances` and `module_at`).
-- Assumes nothing.
use Rattle.std.specs.Prelude.{List, [], ◌∷◌, Option, None, Some}
use Rattle.text.specs.Ascii.{Bytes}
use Rattle.text.specs.Compare.{same}
use Rattle.joblines.specs.Job.{Inst, Module}
use Rattle.design.specs.Lists.{on_some, first}

-- "Instances of plain generate regions stand in source order.": the instances of a module are its `inst` lines, in order
abbrev pub instances : Module → List Inst
instances m = m.insts

-- the module of a name, where it is listed; an accepted job has each name one time
abbrev pub module_named : List Module → Bytes → Option Module
module_named d n = first (λ m. same m.name n) d

-- the instance of a name: the first one, its dimensions not looked at
abbrev pub instance_named : Module → Bytes → Option Inst
instance_named m n = first (λ i. same i.name n) (instances m)

-- "the module that the Rust's lookup in the module lines finds": from a module down by instance names; none where an instance is not there
-- or its module is not listed. It passes through instances with dimensions too
unfoldable pub module_at : List Module → Module → List Bytes → Option Module
module_at d m [] = Some m
module_at d m (n ∷ ns) =
    on_some (instance_named m n) None λ i.
    on_some (module_named d i.type) None λ m'.
    module_at d m' ns
