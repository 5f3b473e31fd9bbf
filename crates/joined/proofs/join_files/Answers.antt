use lib.ListN.{length-set}
use native.Mathlib.Omega.{arith}
use Rattle.joined.proofs.Turns.{size_more, going_more, turns}
use Rattle.joined.proofs.join_files.Goals as goal

pub overflow_cast-nums-in-loop-k : goal.overflow_cast-nums-in-loop-k
overflow_cast-nums-in-loop-k c =
    let l = c.loop-k in
    record { fits = size_more c.args.job.now c.args.files.now c.args.nums.now c.args.n c.requires l.files l.nums l.k l.o l.invariant (omega arith) _ _ _ c.place.ensures c.place-in-loop-k.ensures c.part-body.ensures _ _ c.join-e.ensures }

pub loop-k-preserved : goal.loop-k-preserved
loop-k-preserved c =
    let l = c.loop-k in
    going_more c.args.job.now c.args.files.now c.args.nums.now c.args.n c.requires l.files l.nums l.k l.o l.invariant (omega arith) _ _ _ c.place.ensures c.place-in-loop-k.ensures c.part-body.ensures _ _ c.join-e.ensures

pub bounds-nums-k-in-loop-k : goal.bounds-nums-k-in-loop-k
bounds-nums-k-in-loop-k c = simp length-set (omega arith)

pub loop-k-init : goal.loop-k-init
loop-k-init c = search turns
