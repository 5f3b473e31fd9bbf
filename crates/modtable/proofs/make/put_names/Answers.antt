use Rattle.modtable.proofs.Names.{names_end, names_next, names_start}
use Rattle.modtable.proofs.make.put_names.Goals as goal

pub loop-own-init : goal.loop-own-init
loop-own-init c = names_start _ _ _ _ _ _ c.requires _ c.first-c.ensures

pub loop-own-preserved : goal.loop-own-preserved
loop-own-preserved c = names_next _ _ _ _ _ _ _ _ _ c.loop-own.invariant _ c.in-Some.ensures _ c.part_of.ensures _ c.is_listed.ensures c.if-is_listed.false _ c.put_part.ensures

pub returns : goal.returns
returns c = names_end _ _ _ _ _ _ _ _ _ c.loop-own.invariant c.in_default.ensures _ c.low.ensures
