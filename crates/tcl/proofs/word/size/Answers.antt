-- `tcl::word::size` meets its contract. Assumes nothing.
use Rattle.tcl.proofs.Sizes.{sizes}
use Rattle.tcl.proofs.word.size.Goals as goal

pub bounds-text-at : goal.bounds-text-at
bounds-text-at c = search sizes

pub braced-requires : goal.braced-requires
braced-requires c = search sizes

pub overflow_add-result : goal.overflow_add-result
overflow_add-result c = search sizes

pub returns-then-c-eq123 : goal.returns-then-c-eq123
returns-then-c-eq123 c = search sizes

pub quoted-requires : goal.quoted-requires
quoted-requires c = search sizes

pub overflow_add-result-then-c-eq34 : goal.overflow_add-result-then-c-eq34
overflow_add-result-then-c-eq34 c = search sizes

pub returns-then-c-eq34 : goal.returns-then-c-eq34
returns-then-c-eq34 c = search sizes

pub bracketed-requires : goal.bracketed-requires
bracketed-requires c = search sizes

pub overflow_add-result-then-c-eq91 : goal.overflow_add-result-then-c-eq91
overflow_add-result-then-c-eq91 c = search sizes

pub returns-then-c-eq91 : goal.returns-then-c-eq91
returns-then-c-eq91 c = search sizes

pub overflow_add-at : goal.overflow_add-at
overflow_add-at c = search sizes

pub plain-requires : goal.plain-requires
plain-requires c = search sizes

pub overflow_add-result-2 : goal.overflow_add-result-2
overflow_add-result-2 c = search sizes

pub returns : goal.returns
returns c = search sizes
