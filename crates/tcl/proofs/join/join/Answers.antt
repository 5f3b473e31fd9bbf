use Rattle.std.proofs.Common.{arith, rules}
use Rattle.tcl.specs.Join.{joint, joined}
use Rattle.tcl.specs.Rewrites.{rewrite_all, rewrite_byte}
use Rattle.spans.specs.Writes.{written_start}
use Rattle.tcl.proofs.Kepts.{runs, run_up, run_written, run_on, byte_is}
use Rattle.tcl.proofs.join.join.Goals as goal

pub loop-i-init : goal.loop-i-init
loop-i-init c = search (rules, written_start)

pub append-o-requires : goal.append-o-requires
append-o-requires c = search runs

pub loop-i-smaller-then-is_far : goal.loop-i-smaller-then-is_far
loop-i-smaller-then-is_far c =
    omega (arith, run_on _ _ _ _ _ c.loop-i-test.true c.find_far-e.ensures c.is_far.ensures c.if-is_far.true, c.find_far-e.ensures.within)

pub loop-i-preserved-then-is_far : goal.loop-i-preserved-then-is_far
loop-i-preserved-then-is_far c = (
  run_up _ _ _ _ _ _ c.loop-i.invariant.1 c.loop-i.invariant.0 c.requires c.loop-i-test.true _ c.find_far-e.ensures _ _ c.append-o.ensures,
  run_written _ _ _ _ _ _ c.loop-i.invariant.1 c.loop-i.invariant.0 c.requires c.loop-i-test.true _ c.find_far-e.ensures _ _ c.append-o.ensures,
)

pub loop-i-preserved : goal.loop-i-preserved
loop-i-preserved c = (
  omega (arith, c.loop-i.invariant.0),
  rewrite_byte joint joined _ _ _ _ _ _ _ _ _ c.loop-i.invariant.1 c.loop-i-test.true c.joint-n.ensures.0 (byte_is c.args.body.now _ _ _ c.joint-n.ensures.0 c.joined_by.ensures) c.loop-i.invariant.0 c.requires,
)

pub returns : goal.returns
returns c = search rewrite_all
