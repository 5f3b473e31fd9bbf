-- The laws that the proofs here use. Assumes nothing.
use borrow.Author.Rules.{rules}
use Rattle.statecmds.specs.Puts.{putting_start, putting_end, putting_long, putting_big, putting_fits, putting_past, putting_place, putting_more, putting_on}

pub ruleset puts = (rules, putting_start, putting_end, putting_long, putting_big, putting_fits, putting_past, putting_place, putting_more, putting_on)
