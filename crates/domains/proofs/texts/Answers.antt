-- `domains::texts` meets its contract. Assumes nothing.
use Rattle.out.specs.Emit.{over_written}
use Rattle.domains.proofs.OneDomain.{texts_glue, texts_report, texts_are}
use borrow.Author.Rules.{rules}
use Rattle.domains.proofs.texts.Goals as goal

pub powered_glue-requires : goal.powered_glue-requires
powered_glue-requires c = texts_glue _ _ _ _ _ _ _ _ _ c.requires

pub powered_line-requires : goal.powered_line-requires
powered_line-requires c = texts_report _ _ _ _ _ _ _ _ _ c.requires

pub returns : goal.returns
returns c = texts_are _ _ _ _ _ _ _ _ _ _ _ _ _ _ _ _ _ _ _ _ c.below_name-power.ensures c.below_name-ground_net.ensures (over_written _ _ _ _ _ _ _ c.powered_glue.ensures.1 c.over-u.ensures.from (search rules)) (over_written _ _ _ _ _ _ _ c.powered_line.ensures.1 c.over-v.ensures.from (search rules))
