-- `refs::same_heads` meets its contract. Assumes nothing.
use Rattle.refs.proofs.Heads.{heads}
use Rattle.refs.proofs.same_heads.Goals as goal

pub returns-then-is_bare-one_slash : goal.returns-then-is_bare-one_slash
returns-then-is_bare-one_slash c = search heads

pub returns : goal.returns
returns c = search heads
