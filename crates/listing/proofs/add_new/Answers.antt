use Rattle.listing.proofs.Adds.{new_many, new_long, news}
use Rattle.listing.proofs.add_new.Goals as goal

pub returns-then-count-eq1024 : goal.returns-then-count-eq1024
returns-then-count-eq1024 c = new_many _ _ _ _ _ _ _ _ _ _ c.requires c.if-count-eq1024.true _

pub returns-then-used-gt32768 : goal.returns-then-used-gt32768
returns-then-used-gt32768 c = new_long _ _ _ _ _ _ _ _ _ _ c.requires c.if-used-gt32768.true _

pub returns : goal.returns
returns c = search news
