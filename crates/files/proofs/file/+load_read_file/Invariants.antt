-- The file reader and its load step meet their contracts: the commands before `at` are carried out, and the rest come to what is left (`Going`). The measure
-- is twice the loads that may still be nested, and one more for a file. Assumes nothing.
use lib.ListN.{length, take, drop}
use Rattle.tcl.specs.Commands.{commands}
use Rattle.reader.specs.Turn.{Going}
use Prim.Native.Nat.{◌*◌, ◌+◌}
use Rattle.files.proofs.file.+load_read_file.Given as goal

abbrev pub decreases-load : goal.decreases-load
decreases-load l = 2 * l.left

abbrev pub decreases-read_file : goal.decreases-read_file
decreases-read_file l = 2 * l.left + 1

abbrev pub invariant-read_file-loop-n : goal.invariant-read_file-loop-n
invariant-read_file-loop-n l = Going l.job l.files l.initial.area l.initial.nums l.initial.log l.count l.k l.left l.initial.u l.base l.len l.area l.nums l.log l.words l.at l.u

abbrev pub decreases-read_file-loop-n : goal.decreases-read_file-loop-n
decreases-read_file-loop-n l = length (commands (drop l.at (take l.len (drop l.base l.files))))
