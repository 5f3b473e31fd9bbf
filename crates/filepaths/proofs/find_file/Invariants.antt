-- `filepaths::find_file` meets its contract: the files passed have another path. Assumes nothing.
use mathlib.Core.List.{◌++◌}
use Rattle.spans.specs.Span.{bytes}
use Rattle.jobindex.specs.Index.{path_at}
use Rattle.read.specs.Reading.{joined_path}
use Rattle.filepaths.proofs.Finds.{Left}
use Rattle.filepaths.proofs.find_file.Given as goal

abbrev pub invariant-loop-k : goal.invariant-loop-k
invariant-loop-k l = Left l.job l.nums l.n (joined_path (path_at l.job l.nums l.loader) (bytes (l.mem.files.now ++ l.mem.area.now) l.name)) l.k
