use borrow.Author.Rules.{rules}
use Rattle.substitution.specs.Room.{passed_on}
use Rattle.spans.specs.Writes.{written_none}
use Rattle.substitution.proofs.Writing.{words}
use Rattle.substitution.proofs.put.substitute.Goals as goal

pub loop-i-init : goal.loop-i-init
loop-i-init c = (search rules, written_none _ _ _ (search rules))

pub next_piece-p-requires : goal.next_piece-p-requires
next_piece-p-requires c = search words

pub put_piece-requires : goal.put_piece-requires
put_piece-requires c = search words

pub loop-i-smaller : goal.loop-i-smaller
loop-i-smaller c = search words

pub loop-i-preserved : goal.loop-i-preserved
loop-i-preserved c = let h = c.in_ok-o.was in search words

pub shape_of-area : goal.shape_of-area
shape_of-area c = search words

pub returns : goal.returns
returns c = search words

pub returns-in_err-o : goal.returns-in_err-o
returns-in_err-o c =
    let h = c.in_err-o.was in
    rw (passed_on _ c.from_residual.result c.from_residual.ensures) (search words)
