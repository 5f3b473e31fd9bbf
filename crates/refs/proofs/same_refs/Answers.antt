-- `refs::same_refs` meets its contract. Assumes nothing.
use Rattle.refs.proofs.Heads.{refs_apart, refs_differ, refs_same}
use Rattle.refs.proofs.same_refs.Goals as goal

pub returns-then-end_apart : goal.returns-then-end_apart
returns-then-end_apart c = refs_apart _ _ _ _ _ _ c.part-u.ensures c.part-v.ensures _ c.end_apart.ensures c.if-end_apart.true

pub returns-then-not-same : goal.returns-then-not-same
returns-then-not-same c = refs_differ _ _ _ _ _ _ c.part-u.ensures c.part-v.ensures c.if-u-v.false _ c.same.ensures c.if-not-same.true-raw

pub returns : goal.returns
returns c = refs_same _ _ _ _ _ _ c.part-u.ensures c.part-v.ensures c.if-u-v.false _ c.same.ensures c.if-not-same.false-raw _ c.same_heads.ensures
