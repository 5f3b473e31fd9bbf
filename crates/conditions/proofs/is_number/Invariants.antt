-- `conditions::is_number` meets its contract: what is left has the answer. Assumes nothing.
use Prim.Native.Nat.{◌-◌}
use lib.ListN.{take}
use mathlib.Core.List.{◌++◌}
use Rattle.text.specs.Classes.{is_digit}
use Rattle.text.specs.Scan.{all}
use Rattle.names.specs.Name.{name_of}
use Rattle.conditions.proofs.Words.{Digits}
use Rattle.conditions.proofs.is_number.Given as goal

abbrev pub invariant-loop-k : goal.invariant-loop-k
invariant-loop-k l = Digits (l.mem.files.now ++ l.mem.area.now) (all is_digit (take l.n (name_of (l.mem.files.now ++ l.mem.area.now) l.initial.x))) l.n l.x l._k
