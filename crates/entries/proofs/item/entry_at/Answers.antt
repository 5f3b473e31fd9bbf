-- `entries::item::entry_at` meets its contract. Assumes nothing.
use Rattle.entries.proofs.Items.{items}
use Rattle.entries.proofs.item.entry_at.Goals as goal

pub returns-then-b-eq123 : goal.returns-then-b-eq123
returns-then-b-eq123 c = search items

pub returns-then-b-eq34 : goal.returns-then-b-eq34
returns-then-b-eq34 c = search items

pub returns-then-b-eq91 : goal.returns-then-b-eq91
returns-then-b-eq91 c = search items

pub returns : goal.returns
returns c = search items
