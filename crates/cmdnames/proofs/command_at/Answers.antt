-- `cmdnames::command_at` meets its contract. Assumes nothing.
use Rattle.std.proofs.Common.{sym, ap}
use Rattle.model.specs.Numbers.{named_by}
use Rattle.cmdnames.proofs.Places.{parsed_at, none_at}
use Rattle.cmdnames.proofs.command_at.Goals as goal

pub returns-in-0 : goal.returns-in-0
returns-in-0 c = ap named_by (sym c.in-0.is)

pub returns-in-1 : goal.returns-in-1
returns-in-1 c = ap named_by (sym c.in-1.is)

pub returns-in-2 : goal.returns-in-2
returns-in-2 c = ap named_by (sym c.in-2.is)

pub returns-in-3 : goal.returns-in-3
returns-in-3 c = ap named_by (sym c.in-3.is)

pub returns-in-4 : goal.returns-in-4
returns-in-4 c = ap named_by (sym c.in-4.is)

pub returns-in-5 : goal.returns-in-5
returns-in-5 c = ap named_by (sym c.in-5.is)

pub returns-in-6 : goal.returns-in-6
returns-in-6 c = ap named_by (sym c.in-6.is)

pub returns-in-7 : goal.returns-in-7
returns-in-7 c = ap named_by (sym c.in-7.is)

pub returns-in-8 : goal.returns-in-8
returns-in-8 c = ap named_by (sym c.in-8.is)

pub returns-in-9 : goal.returns-in-9
returns-in-9 c = ap named_by (sym c.in-9.is)

pub returns-in-21 : goal.returns-in-21
returns-in-21 c = ap named_by (sym c.in-21.is)

pub returns-in-22 : goal.returns-in-22
returns-in-22 c = ap named_by (sym c.in-22.is)

pub returns-in-23 : goal.returns-in-23
returns-in-23 c = ap named_by (sym c.in-23.is)

pub returns-in-24 : goal.returns-in-24
returns-in-24 c = ap named_by (sym c.in-24.is)

pub returns-in-25 : goal.returns-in-25
returns-in-25 c = ap named_by (sym c.in-25.is)

pub returns-in-26 : goal.returns-in-26
returns-in-26 c = ap named_by (sym c.in-26.is)

pub returns-in-27 : goal.returns-in-27
returns-in-27 c = ap named_by (sym c.in-27.is)

pub returns-in-28 : goal.returns-in-28
returns-in-28 c = ap named_by (sym c.in-28.is)

pub returns-in-29 : goal.returns-in-29
returns-in-29 c = ap named_by (sym c.in-29.is)

pub returns-then-k-lt30 : goal.returns-then-k-lt30
returns-then-k-lt30 c = sym (parsed_at _ c.if-k-lt30.true (c.in_default.in_default-own.rest.0.0.0.0.0.0.0.0.0.0.0.0.0.0.0.0.0.0.1) (c.in_default.in_default-own.rest.0.0.0.0.0.0.0.0.0.0.0.0.0.0.0.0.0.1) (c.in_default.in_default-own.rest.0.0.0.0.0.0.0.0.0.0.0.0.0.0.0.0.1) (c.in_default.in_default-own.rest.0.0.0.0.0.0.0.0.0.0.0.0.0.0.0.1) (c.in_default.in_default-own.rest.0.0.0.0.0.0.0.0.0.0.0.0.0.0.1) (c.in_default.in_default-own.rest.0.0.0.0.0.0.0.0.0.0.0.0.0.1) (c.in_default.in_default-own.rest.0.0.0.0.0.0.0.0.0.0.0.0.1) (c.in_default.in_default-own.rest.0.0.0.0.0.0.0.0.0.0.0.1) (c.in_default.in_default-own.rest.0.0.0.0.0.0.0.0.0.0.1) (c.in_default.in_default-own.rest.0.0.0.0.0.0.0.0.0.1) (c.in_default.in_default-own.rest.0.0.0.0.0.0.0.0.1) (c.in_default.in_default-own.rest.0.0.0.0.0.0.0.1) (c.in_default.in_default-own.rest.0.0.0.0.0.0.1) (c.in_default.in_default-own.rest.0.0.0.0.0.1) (c.in_default.in_default-own.rest.0.0.0.0.1) (c.in_default.in_default-own.rest.0.0.0.1) (c.in_default.in_default-own.rest.0.0.1) (c.in_default.in_default-own.rest.0.1) (c.in_default.in_default-own.rest.1))

pub returns-else-k-lt30 : goal.returns-else-k-lt30
returns-else-k-lt30 c = sym (none_at _ c.if-k-lt30.false)
