use Rattle.args.proofs.Loops.{last_word, lasts}
use Rattle.args.proofs.argument.last_positional.Goals as goal

pub loop-i-init : goal.loop-i-init
loop-i-init c = search lasts

pub role_at-requires : goal.role_at-requires
role_at-requires c = search lasts

pub enum_told-1 : goal.enum_told-1
enum_told-1 c = search lasts

pub overflow_add-i : goal.overflow_add-i
overflow_add-i c = search lasts

pub loop-i-smaller-in-Flag : goal.loop-i-smaller-in-Flag
loop-i-smaller-in-Flag c = search lasts

pub loop-i-preserved-in-Flag : goal.loop-i-preserved-in-Flag
loop-i-preserved-in-Flag c = search lasts

pub enum_told-in-Option : goal.enum_told-in-Option
enum_told-in-Option c = search lasts

pub overflow_add-i-in-Option : goal.overflow_add-i-in-Option
overflow_add-i-in-Option c = search lasts

pub loop-i-smaller-in-Option : goal.loop-i-smaller-in-Option
loop-i-smaller-in-Option c = search lasts

pub loop-i-preserved-in-Option : goal.loop-i-preserved-in-Option
loop-i-preserved-in-Option c = search lasts

pub enum_told-in-Positional : goal.enum_told-in-Positional
enum_told-in-Positional c = search lasts

pub pair-found-requires : goal.pair-found-requires
pair-found-requires c = search lasts

pub overflow_add-i-in-Positional : goal.overflow_add-i-in-Positional
overflow_add-i-in-Positional c = search lasts

pub loop-i-smaller : goal.loop-i-smaller
loop-i-smaller c = search lasts

pub loop-i-preserved : goal.loop-i-preserved
loop-i-preserved c = search (last_word, c.pair-found.ensures, c.loop-i.invariant, c.role_at.ensures)

pub returns : goal.returns
returns c = search lasts
