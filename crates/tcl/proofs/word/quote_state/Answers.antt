-- `tcl::word::quote_state` meets its contract. Assumes nothing.
use Rattle.text.specs.Cases.{cases}
use Rattle.tcl.specs.Words.{quote_state}
use Rattle.tcl.proofs.word.quote_state.Goals as goal

pub returns-then-d-eq2 : goal.returns-then-d-eq2
unfolding quote_state
returns-then-d-eq2 c = search cases

pub returns-then-b-eq34 : goal.returns-then-b-eq34
unfolding quote_state
returns-then-b-eq34 c = search cases

pub returns-then-b-eq92 : goal.returns-then-b-eq92
unfolding quote_state
returns-then-b-eq92 c = search cases

pub returns : goal.returns
unfolding quote_state
returns c = search cases
