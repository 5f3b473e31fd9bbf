-- `entries::byte::first_byte` meets its contract. Assumes nothing.
use Rattle.entries.proofs.Heads.{gots, got_or}
use mathlib.Core.Path.{refl}
use Rattle.entries.proofs.byte.first_byte.Goals as goal

pub returns-in_err-b : goal.returns-in_err-b
returns-in_err-b c = search gots

pub returns-then-b-ne92 : goal.returns-then-b-ne92
returns-then-b-ne92 c = search gots

pub returns : goal.returns
returns c = got_or _ c.args.quoted _ _ c.first_joined.ensures _ _ c.in_ok-b.was _ c.first_joined-2.ensures (rw c.if-not-quoted.false refl) _ c.or.ensures c.if-b-ne92.false
