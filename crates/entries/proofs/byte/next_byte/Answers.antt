-- `entries::byte::next_byte` meets its contract. Assumes nothing.
use Rattle.entries.proofs.Heads.{nexts}
use Rattle.entries.proofs.byte.next_byte.Goals as goal

pub returns-then-raw-i : goal.returns-then-raw-i
returns-then-raw-i c = search nexts

pub returns-then-not-quoted : goal.returns-then-not-quoted
returns-then-not-quoted c = search nexts

pub returns-then-b-ne92 : goal.returns-then-b-ne92
returns-then-b-ne92 c = search nexts

pub returns-then-raw-j : goal.returns-then-raw-j
returns-then-raw-j c = search nexts

pub returns : goal.returns
returns c = search nexts
