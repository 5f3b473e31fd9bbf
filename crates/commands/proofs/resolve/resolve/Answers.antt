use native.Mathlib.Omega.{arith}
use lib.ListN.{length-set}
use borrow.Author.Rules.{rules}
use Rattle.substitution.specs.Room.{passed_on}
use Rattle.commands.proofs.Resolving.{at_fits, len_fits, resolvings}
use Rattle.commands.proofs.resolve.resolve.Goals as goal

pub loop-k-init : goal.loop-k-init
loop-k-init c = (search rules, search resolvings)

pub word-requires : goal.word-requires
word-requires c = (search rules, (search resolvings, (search resolvings, search rules)))

pub returns-in_err-w : goal.returns-in_err-w
returns-in_err-w c =
    let h = c.in_err-w.was in
    rw (passed_on _ c.from_residual.result c.from_residual.ensures) (search resolvings)

pub overflow_cast-words : goal.overflow_cast-words
overflow_cast-words c = let h = c.in_ok-w.was in record { fits = search at_fits }

pub overflow_cast-words-in-loop-k : goal.overflow_cast-words-in-loop-k
overflow_cast-words-in-loop-k c = let h = c.in_ok-w.was in record { fits = search len_fits }

pub bounds-words-k-in-loop-k : goal.bounds-words-k-in-loop-k
bounds-words-k-in-loop-k c = simp length-set (omega arith)

pub loop-k-preserved : goal.loop-k-preserved
loop-k-preserved c = let h = c.in_ok-w.was in (search resolvings, search resolvings)

pub returns : goal.returns
returns c = search resolvings
