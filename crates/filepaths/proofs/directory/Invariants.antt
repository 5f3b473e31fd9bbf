-- `filepaths::directory` meets its contract: no slash stands behind the place. Assumes nothing.
use Rattle.filepaths.proofs.Finds.{Clear}
use Rattle.filepaths.proofs.directory.Given as goal

abbrev pub invariant-loop-i : goal.invariant-loop-i
invariant-loop-i l = Clear l.path l.i
