-- `tcl::join::joint` meets its contract. Assumes nothing.
use native.Mathlib.Nat.{add-zero}
use lib.Seq.{get_or-drop}
use borrow.Author.Rules.{rules}
use Rattle.tcl.proofs.Sizes.{joint_in, no_joint}
use Rattle.tcl.proofs.join.joint.Goals as goal

pub returns-then-s-i-ne92 : goal.returns-then-s-i-ne92
returns-then-s-i-ne92 c = search (rules, no_joint)

pub returns : goal.returns
returns c = (simp (get_or-drop, add-zero) (cc), (search rules, search joint_in))
