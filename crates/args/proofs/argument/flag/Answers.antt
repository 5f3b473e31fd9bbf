use mathlib.Core.Path.{refl}
use Rattle.args.proofs.Loops.{flags}
use Rattle.args.proofs.argument.flag.Goals as goal

pub loop-i-init : goal.loop-i-init
loop-i-init c = record { keeps = refl }

pub role_at-requires : goal.role_at-requires
role_at-requires c = search flags

pub enum_told-1 : goal.enum_told-1
enum_told-1 c = search flags

pub overflow_add-i : goal.overflow_add-i
overflow_add-i c = search flags

pub loop-i-smaller-in-Positional : goal.loop-i-smaller-in-Positional
loop-i-smaller-in-Positional c = search flags

pub loop-i-preserved-in-Positional : goal.loop-i-preserved-in-Positional
loop-i-preserved-in-Positional c = search flags

pub enum_told-in-Option : goal.enum_told-in-Option
enum_told-in-Option c = search flags

pub overflow_add-i-in-Option : goal.overflow_add-i-in-Option
overflow_add-i-in-Option c = search flags

pub loop-i-smaller-in-Option : goal.loop-i-smaller-in-Option
loop-i-smaller-in-Option c = search flags

pub loop-i-preserved-in-Option : goal.loop-i-preserved-in-Option
loop-i-preserved-in-Option c = search flags

pub enum_told-in-Flag : goal.enum_told-in-Flag
enum_told-in-Flag c = search flags

pub pair-requires : goal.pair-requires
pair-requires c = search flags

pub is-requires : goal.is-requires
is-requires c = search flags

pub returns-then-is : goal.returns-then-is
returns-then-is c = search flags

pub overflow_add-i-in-Flag : goal.overflow_add-i-in-Flag
overflow_add-i-in-Flag c = search flags

pub loop-i-smaller : goal.loop-i-smaller
loop-i-smaller c = search flags

pub loop-i-preserved : goal.loop-i-preserved
loop-i-preserved c = search flags

pub returns : goal.returns
returns c = search flags
