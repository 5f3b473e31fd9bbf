-- `conditions::word_size` meets its contract. Assumes nothing.
use Rattle.conditions.proofs.Words.{sizes}
use Rattle.conditions.proofs.word_size.Goals as goal

pub returns-then-not-is_variable : goal.returns-then-not-is_variable
returns-then-not-is_variable c = search sizes

pub loop-b-preserved : goal.loop-b-preserved
loop-b-preserved c = search sizes

pub returns : goal.returns
returns c = search sizes
