use Rattle.args.proofs.Loops.{values}
use Rattle.args.proofs.argument.option.Goals as goal

pub loop-i-init : goal.loop-i-init
loop-i-init c = search values

pub role_at-requires : goal.role_at-requires
role_at-requires c = search values

pub enum_told-1 : goal.enum_told-1
enum_told-1 c = search values

pub overflow_add-i : goal.overflow_add-i
overflow_add-i c = search values

pub loop-i-smaller-in-Flag : goal.loop-i-smaller-in-Flag
loop-i-smaller-in-Flag c = search values

pub loop-i-preserved-in-Flag : goal.loop-i-preserved-in-Flag
loop-i-preserved-in-Flag c = search values

pub enum_told-in-Positional : goal.enum_told-in-Positional
enum_told-in-Positional c = search values

pub overflow_add-i-in-Positional : goal.overflow_add-i-in-Positional
overflow_add-i-in-Positional c = search values

pub loop-i-smaller-in-Positional : goal.loop-i-smaller-in-Positional
loop-i-smaller-in-Positional c = search values

pub loop-i-preserved-in-Positional : goal.loop-i-preserved-in-Positional
loop-i-preserved-in-Positional c = search values

pub enum_told-in-Option : goal.enum_told-in-Option
enum_told-in-Option c = search values

pub newer-found-requires : goal.newer-found-requires
newer-found-requires c = search values

pub overflow_add-i-in-Option : goal.overflow_add-i-in-Option
overflow_add-i-in-Option c = search values

pub loop-i-smaller : goal.loop-i-smaller
loop-i-smaller c = search values

pub loop-i-preserved : goal.loop-i-preserved
loop-i-preserved c = search values

pub returns : goal.returns
returns c = search values
