-- The laws that the proofs here use. Assumes nothing.
use borrow.Author.Rules.{rules}
use Rattle.made.specs.Asked.{read_fits, found_fits}
use Rattle.tablecmds.specs.Tables.{table_is, tables_full, tables_more}

pub ruleset tables = (rules, read_fits, found_fits, table_is, tables_full, tables_more)
