-- `supplies::nets::is_entry` meets its contract. Assumes nothing.
use Rattle.supplies.proofs.Rows.{whole_reads, tests_value}
use Rattle.supplies.proofs.nets.is_entry.Goals as goal

pub has_entry-requires : goal.has_entry-requires
has_entry-requires c = search whole_reads

pub returns : goal.returns
returns c = search tests_value
