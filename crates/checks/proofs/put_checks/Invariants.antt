-- `checks::put_checks` meets its contract: what is left to write, written from here, is the answer. Assumes nothing.
use Prim.Native.Nat.{◌-◌}
use mathlib.Core.Path.{◌≡◌}
use mathlib.Core.List.{◌++◌}
use lib.ListN.{length, take}
use Rattle.out.specs.Emit.{emit}
use Rattle.out.specs.Text.{shown, SameRoom}
use Rattle.out.specs.Items.{each}
use Rattle.names.specs.Name.{name_of}
use Rattle.scope.specs.Parts.{parts}
use Rattle.alike.specs.Strategies.{strategy_at}
use Rattle.checks.specs.Sorted.{check_text}
use Rattle.checks.proofs.Loops.{Writes}
use Rattle.checks.proofs.put_checks.Given as goal

abbrev pub invariant-loop-k : goal.invariant-loop-k
invariant-loop-k l = SameRoom l.initial.to l.to × Writes (check_text (parts l.src.scope.over.now l.src.scope.from) (strategy_at (l.src.mem.files.now ++ l.src.mem.area.now) l.t) (name_of (l.src.mem.files.now ++ l.src.mem.area.now) l.domain)) l.found l.n (emit (shown l.initial.to) (each (check_text (parts l.src.scope.over.now l.src.scope.from) (strategy_at (l.src.mem.files.now ++ l.src.mem.area.now) l.t) (name_of (l.src.mem.files.now ++ l.src.mem.area.now) l.domain)) (take l.n l.found))) (shown l.to) l.k
