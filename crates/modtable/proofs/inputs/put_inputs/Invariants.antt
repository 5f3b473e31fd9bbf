-- `modtable::inputs::put_inputs` meets its contract: the ports stored so far, and those behind the cursor, are all. Assumes nothing.
use lib.ListN.{length}
use Rattle.ports.specs.Cursors.{inputs_from}
use Rattle.modtable.proofs.Listed.{InputsOn}
use Rattle.modtable.proofs.inputs.put_inputs.Given as goal

abbrev pub invariant-loop-own : goal.invariant-loop-own
invariant-loop-own l = InputsOn l.index.job.now l.index.rows.now l.k l.initial.inputs l.inputs l.i l.c

abbrev pub decreases-loop-own : goal.decreases-loop-own
decreases-loop-own l = length (inputs_from l.index.job.now l.index.rows.now l.k l.c)
