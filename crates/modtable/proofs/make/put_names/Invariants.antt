-- `modtable::make::put_names` meets its contract: the names stored so far, and those behind the cursor, are all. Assumes nothing.
use lib.ListN.{length}
use Rattle.ports.specs.Cursors.{candidates_from}
use Rattle.modtable.proofs.Names.{NamesOn}
use Rattle.modtable.proofs.make.put_names.Given as goal

abbrev pub invariant-loop-own : goal.invariant-loop-own
invariant-loop-own l = NamesOn l.index.job.now l.index.rows.now l.k l.inputs l.n l.initial.table l.table l.i l.c

abbrev pub decreases-loop-own : goal.decreases-loop-own
decreases-loop-own l = length (candidates_from l.index.job.now l.index.rows.now l.k l.c)
