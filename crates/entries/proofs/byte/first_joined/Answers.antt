-- `entries::byte::first_joined` meets its contract: each first byte that is asked for tells how the string begins. Assumes nothing.
use Rattle.entries.proofs.Heads.{joins, joins_other, joins_cr, joins_crlf, joins_third, joins_lf, joins_last, joins_plain}
use Rattle.entries.proofs.byte.first_joined.Goals as goal

pub returns-then-b-eq10 : goal.returns-then-b-eq10
returns-then-b-eq10 c =
    joins_lf _ _ _ c.first.ensures _ _ c.in_ok-a.was _ c.first-2.ensures c.if-a-ne92.false _ _ c.in-Some.is c.if-b-eq10.true

pub returns-then-b-ne13 : goal.returns-then-b-ne13
returns-then-b-ne13 c =
    joins_other _ _ _ c.first.ensures _ _ c.in_ok-a.was _ c.first-2.ensures c.if-a-ne92.false _ _ c.in-Some.is c.if-b-eq10.false c.if-b-ne13.true

pub returns-in_default-first : goal.returns-in_default-first
returns-in_default-first c =
    joins_cr _ _ _ c.first.ensures _ _ c.in_ok-a.was _ c.first-2.ensures c.if-a-ne92.false _ _ c.in-Some.is c.if-b-eq10.false _ c.first-3.ensures c.if-b-ne13.false c.in_default-first.is

pub returns-then-c-eq10 : goal.returns-then-c-eq10
returns-then-c-eq10 c =
    joins_crlf _ _ _ c.first.ensures _ _ c.in_ok-a.was _ c.first-2.ensures c.if-a-ne92.false _ _ c.in-Some.is c.if-b-eq10.false _ c.first-3.ensures c.if-b-ne13.false _ _ c.in-Some-first.is c.if-c-eq10.true

pub returns : goal.returns
returns c =
    joins_third _ _ _ c.first.ensures _ _ c.in_ok-a.was _ c.first-2.ensures c.if-a-ne92.false _ _ c.in-Some.is c.if-b-eq10.false _ c.first-3.ensures c.if-b-ne13.false _ _ c.in-Some-first.is c.if-c-eq10.false

pub returns-in_err-a : goal.returns-in_err-a
returns-in_err-a c = search joins

pub returns-then-a-ne92 : goal.returns-then-a-ne92
returns-then-a-ne92 c = search joins

pub returns-in_default : goal.returns-in_default
returns-in_default c = joins_last _ _ _ c.first.ensures _ _ c.in_ok-a.was _ c.first-2.ensures c.if-a-ne92.false c.in_default.is
