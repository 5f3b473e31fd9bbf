use borrow.Author.Rules.{rules}
use Rattle.fields.specs.Alls.{all_end, all_stop, all_step}
use Rattle.job.proofs.each_low.Goals as goal

pub returns-then-not-is_ascii : goal.returns-then-not-is_ascii
returns-then-not-is_ascii c = search (rules, all_stop)

pub loop-i-preserved : goal.loop-i-preserved
loop-i-preserved c = search (rules, all_step)

pub returns : goal.returns
returns c = search (rules, all_end)
