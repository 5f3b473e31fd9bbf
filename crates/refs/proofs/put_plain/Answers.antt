-- `refs::put_plain` meets its contract. Assumes nothing.
use Rattle.refs.proofs.Heads.{words}
use Rattle.refs.proofs.Written.{put_sep, put_bare}
use Rattle.refs.proofs.put_plain.Goals as goal

pub returns-then-is_plain : goal.returns-then-is_plain
returns-then-is_plain c = search words

pub returns-then-r : goal.returns-then-r
returns-then-r c = (cc, put_sep _ _ _ _ _ _ _ _ c.put_last.ensures.1 c.becomes.ensures.1 c.put_named.ensures.1 c.if-r.true)

pub returns : goal.returns
returns c = (cc, put_bare _ _ _ _ _ _ _ c.put_last-2.ensures.1 c.put_named.ensures.1 c.if-r.false)
