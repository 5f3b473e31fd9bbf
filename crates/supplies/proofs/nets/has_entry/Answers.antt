use Rattle.entries.specs.Loops.{entry_less}
use Rattle.supplies.proofs.Rows.{tests_start, tests_none, tests_inside, tests_yes, tests_no}
use Rattle.supplies.proofs.nets.has_entry.Goals as goal

pub loop-i-init : goal.loop-i-init
loop-i-init c = search tests_start

pub inside-requires : goal.inside-requires
inside-requires c = search tests_inside

pub returns-then-same_names : goal.returns-then-same_names
returns-then-same_names c = search tests_yes

pub loop-i-smaller : goal.loop-i-smaller
loop-i-smaller c = entry_less _ _ _ _ c.next_entry.ensures c.in-Some.i.entry c.in-Some.i.quoted c.in-Some.i.next c.in-Some.is

pub loop-i-preserved : goal.loop-i-preserved
loop-i-preserved c = search tests_no

pub returns : goal.returns
returns c = search tests_none
