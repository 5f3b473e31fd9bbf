use Rattle.out.proofs.Bytes.{arg_none, arg_same, arg_flat}
use Rattle.out.proofs.emit.Text.argument.Goals as goal

pub returns-in_default : goal.returns-in_default
returns-in_default c = (cc, arg_none _ _ _ _ _ _ _ _ c.asked.ensures c.in_default.is)

pub returns-in-Same : goal.returns-in-Same
returns-in-Same c = (cc, arg_same _ _ _ _ c.asked.ensures _ _ c.in-Some.is c.args.a c.args.b c.args.c c.args.d c.args.e _ c.in-Same.is c.put.ensures.1)

pub returns-in_default-m : goal.returns-in_default-m
returns-in_default-m c = (cc, arg_flat _ _ _ _ c.asked.ensures _ _ c.in-Some.is c.args.a c.args.b c.args.c c.args.d c.args.e _ c.flat.ensures.1)
