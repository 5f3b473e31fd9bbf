use mathlib.Core.Path.{refl}
use Rattle.args.proofs.Loops.{picks}
use Rattle.args.proofs.argument.positional.Goals as goal

pub loop-i-init : goal.loop-i-init
loop-i-init c = record { keeps = refl }

pub role_at-requires : goal.role_at-requires
role_at-requires c = search picks

pub enum_told-1 : goal.enum_told-1
enum_told-1 c = search picks

pub overflow_add-i : goal.overflow_add-i
overflow_add-i c = search picks

pub loop-i-smaller-in-Flag : goal.loop-i-smaller-in-Flag
loop-i-smaller-in-Flag c = search picks

pub loop-i-preserved-in-Flag : goal.loop-i-preserved-in-Flag
loop-i-preserved-in-Flag c = search picks

pub enum_told-in-Option : goal.enum_told-in-Option
enum_told-in-Option c = search picks

pub overflow_add-i-in-Option : goal.overflow_add-i-in-Option
overflow_add-i-in-Option c = search picks

pub loop-i-smaller-in-Option : goal.loop-i-smaller-in-Option
loop-i-smaller-in-Option c = search picks

pub loop-i-preserved-in-Option : goal.loop-i-preserved-in-Option
loop-i-preserved-in-Option c = search picks

pub enum_told-in-Positional : goal.enum_told-in-Positional
enum_told-in-Positional c = search picks

pub pair-requires : goal.pair-requires
pair-requires c = search picks

pub returns-then-left-eq0 : goal.returns-then-left-eq0
returns-then-left-eq0 c = search picks

pub overflow_sub-left : goal.overflow_sub-left
overflow_sub-left c = search picks

pub overflow_add-i-in-Positional : goal.overflow_add-i-in-Positional
overflow_add-i-in-Positional c = search picks

pub loop-i-smaller : goal.loop-i-smaller
loop-i-smaller c = search picks

pub loop-i-preserved : goal.loop-i-preserved
loop-i-preserved c = search picks

pub returns : goal.returns
returns c = search picks
