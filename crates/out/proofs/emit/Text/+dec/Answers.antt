use mathlib.Core.Path.{refl}
use Rattle.std.proofs.Common.{◌∙◌, sym, rules}
use Rattle.out.specs.Emit.{emit}
use Rattle.out.specs.Number.{dec as dec_of, dec_small, dec_more}
use Rattle.out.proofs.emit.Text.+dec.Goals as goal

pub returns-then-f-eq0 : goal.returns-then-f-eq0
unfolding dec_of emit
returns-then-f-eq0 t c = (refl, rw c.if-f-eq0.true)

pub returns-then-n-lt10 : goal.returns-then-n-lt10
returns-then-n-lt10 t c = (c.byte.ensures.0, c.byte.ensures.1 ∙ sym (dec_small _ _ _ c.if-f-eq0.false c.if-n-lt10.true))

pub returns : goal.returns
returns t c = search (rules, dec_more)
