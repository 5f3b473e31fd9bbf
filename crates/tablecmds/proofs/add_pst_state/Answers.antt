-- `tablecmds::add_pst_state` meets its contract. Assumes nothing.
use native.Mathlib.Omega.{arith}
use borrow.Author.Rules.{rules}
use Rattle.made.specs.Asked.{read_fits, found_fits}
use Rattle.tablecmds.specs.States.{states_warned, states_more}
use Rattle.tablecmds.proofs.add_pst_state.Goals as goal

pub returns-then-t-i : goal.returns-then-t-i
returns-then-t-i c =
    states_warned _ _ _ _ _ _ _ _ _ c.option.ensures c.or_empty-table.ensures c.first_named-i.ensures (search rules)

pub returns : goal.returns
returns c =
    states_more _ _ _ _ _ _ _ _ _ _ _ _ _ c.option.ensures c.or_empty-table.ensures c.first_named-i.ensures c.if-t-i.false c.name-named.ensures c.option-values.ensures c.narrow.ensures c.or_empty.ensures

pub or_empty-table-requires : goal.or_empty-table-requires
or_empty-table-requires c = found_fits _ _ _ _ _ c.option.ensures c.requires.0

pub first_named-i-requires : goal.first_named-i-requires
first_named-i-requires c = (omega arith, c.requires.1)

pub overflow_cast-of : goal.overflow_cast-of
overflow_cast-of c = record { fits = omega (arith, c.if-t-i.false, c.requires.1) }

pub narrow-requires : goal.narrow-requires
narrow-requires c = read_fits _ _ _ _ _ c.name-named.ensures c.requires.0

pub or_empty-requires : goal.or_empty-requires
or_empty-requires c = found_fits _ _ _ _ _ c.option-values.ensures c.requires.0
