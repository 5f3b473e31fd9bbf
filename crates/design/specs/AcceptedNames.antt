-- What is said of the names in the module lines of an accepted job. Assumes nothing.
use Rattle.std.specs.Prelude.{◌<◌, ◌≡◌, length, option_map}
use Rattle.std.proofs.Math.Bool.{true}
use mathlib.Core.List.{List}
use mathlib.Core.List.{Memᴰ as Mem}
use Rattle.text.specs.Ascii.{Bytes, byte}
use Rattle.fields.specs.Fields.{is_name}
use Rattle.joblines.specs.Job.{Port, Decl, Inst, Module}
use Rattle.design.specs.Ports.{losable}

-- the names of a module's lines are NAMEs
pub record Named (m : Module) : Type 0 where
  pub ports : (p : Port) → Mem p m.ports → is_name p.name ≡ true
  pub decls : (d : Decl) → Mem d m.decls → is_name d.name ≡ true
  pub insts : (i : Inst) → Mem i m.insts → is_name i.name ≡ true

abbrev pub AllNamed : List Module → Type 0
AllNamed d = (m : Module) → Mem m d → Named m

-- no name of an instance and no losable name has a dot or is empty
pub record Plain (d : List Module) : Type 0 where
  pub inst_dotless : (m : Module) → Mem m d → (i : Inst) → Mem i m.insts → Mem (byte ".") i.name → ⊥
  pub inst_filled : (m : Module) → Mem m d → (i : Inst) → Mem i m.insts → 0 < length i.name
  pub name_dotless : (m : Module) → Mem m d → (n : Bytes) → Mem n (losable m) → Mem (byte ".") n → ⊥
