-- `corrupt::marks::retained` meets its contract: a path whose mark is not set is none of the entries. Assumes nothing.
use Rattle.corrupt.proofs.Marking.{mark_unset}
use Rattle.corrupt.proofs.marks.retained.Goals as goal

pub returns-then-peek-eq0 : goal.returns-then-peek-eq0
returns-then-peek-eq0 c = search mark_unset
