-- `cover::cover_ports` meets its contract: what is left to gain is that of the ports behind the cursor. Assumes nothing.
use mathlib.Core.Path.{◌≡◌}
use mathlib.Core.List.{◌++◌}
use lib.ListN.{length}
use Rattle.names.specs.Name.{name_of}
use Rattle.ports.specs.Cursors.{outputs_from}
use Rattle.cover.proofs.Ports.{Goes}
use Rattle.cover.proofs.cover_ports.Given as goal

abbrev pub invariant-loop-name : goal.invariant-loop-name
invariant-loop-name l = (length l.out ≡ length l.initial.out)
    × ((length l.ports ≡ length l.initial.ports)
    × Goes l.index.job.now l.index.rows.now (l.mem.files.now ++ l.mem.area.now) l.warn l.initial.x l.initial.out l.initial.ports l.s.number (name_of (l.mem.files.now ++ l.mem.area.now) l.s.name) (name_of (l.mem.files.now ++ l.mem.area.now) l.e) l.p l.x l.out l.ports l.cursor)

abbrev pub decreases-loop-name : goal.decreases-loop-name
decreases-loop-name l = length (outputs_from l.index.job.now l.index.rows.now l.p.sub l.cursor)
