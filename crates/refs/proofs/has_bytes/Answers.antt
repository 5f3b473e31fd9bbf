-- `refs::has_bytes` meets its contract. Assumes nothing.
use Rattle.refs.proofs.Written.{theres}
use Rattle.refs.proofs.has_bytes.Goals as goal

pub returns-then-u-ne0 : goal.returns-then-u-ne0
returns-then-u-ne0 c = search theres

pub returns-then-r-has_name : goal.returns-then-r-has_name
returns-then-r-has_name c = search theres

pub returns-then-r : goal.returns-then-r
returns-then-r c = search theres

pub returns : goal.returns
returns c = search theres
