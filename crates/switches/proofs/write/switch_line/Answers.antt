-- `switches::write::switch_line` meets its contract. Assumes nothing.
use Rattle.switches.specs.Asked.{names_rooms, names_controlled}
use Rattle.switches.proofs.write.switch_line.Goals as goal

pub entries-count-requires : goal.entries-count-requires
entries-count-requires c = search names_rooms

pub line_text-requires : goal.line_text-requires
line_text-requires c = search names_controlled
