use native.Mathlib.Omega.{arith}
use lib.ListN.{length-set}
use borrow.Author.Rules.{rules}
use Rattle.commands.proofs.Splitting.{splitting_start, splittings}
use Rattle.commands.proofs.split.split.Goals as goal

pub loop-i-init : goal.loop-i-init
loop-i-init c = search splitting_start

pub loop-i-preserved-then-n-eq0 : goal.loop-i-preserved-then-n-eq0
loop-i-preserved-then-n-eq0 c = search splittings

pub returns-then-c : goal.returns-then-c
returns-then-c c = search splittings

pub loop-i-preserved-then-is_space : goal.loop-i-preserved-then-is_space
loop-i-preserved-then-is_space c = search splittings

pub loop-i-preserved-then-c-n : goal.loop-i-preserved-then-c-n
loop-i-preserved-then-c-n c = search splittings

pub returns-then-n-eq128 : goal.returns-then-n-eq128
returns-then-n-eq128 c = search splittings

pub size-l-requires : goal.size-l-requires
size-l-requires c = (search rules, search splittings)

pub bounds-words-n-in-loop-i : goal.bounds-words-n-in-loop-i
bounds-words-n-in-loop-i c = simp length-set (omega arith)

pub loop-i-preserved : goal.loop-i-preserved
loop-i-preserved c = search splittings

pub returns-then-n-eq0-2 : goal.returns-then-n-eq0-2
returns-then-n-eq0-2 c = search splittings

pub returns : goal.returns
returns c = search splittings
