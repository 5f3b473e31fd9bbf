use mathlib.Core.Path.{refl}
use borrow.Author.Rules.{rules}
use Rattle.cover.proofs.Ports.{goes_stop, goes_on, goings}
use Rattle.cover.proofs.cover_ports.Goals as goal

pub loop-name-init : goal.loop-name-init
loop-name-init c = (refl, (refl, search goings))

pub loop-name-preserved : goal.loop-name-preserved
loop-name-preserved c = (search (rules, c.loop-name.invariant), (search (rules, c.loop-name.invariant), goes_on _ _ _ _ _ _ _ _ _ _ _ _ _ _ _ c.loop-name.invariant.1.1 _ c.next_output.ensures _ _ _ _ _ c.cover_output-x.ensures c.if-x.false c.in-Some.is))

pub first-cursor-requires : goal.first-cursor-requires
first-cursor-requires c = search goings

pub next_output-requires : goal.next_output-requires
next_output-requires c = search goings

pub returns : goal.returns
returns c = search goings

pub cover_output-x-requires : goal.cover_output-x-requires
cover_output-x-requires c = search goings

pub shape_of-out-then-x : goal.shape_of-out-then-x
shape_of-out-then-x c = search goings

pub shape_of-ports-then-x : goal.shape_of-ports-then-x
shape_of-ports-then-x c = search goings

pub returns-then-x : goal.returns-then-x
returns-then-x c = goes_stop _ _ _ _ _ _ _ _ _ _ _ _ _ _ _ c.loop-name.invariant.1.1 _ c.next_output.ensures _ _ c.in-Some.is _ _ _ c.cover_output-x.ensures c.if-x.true

pub loop-name-smaller : goal.loop-name-smaller
loop-name-smaller c = search goings
