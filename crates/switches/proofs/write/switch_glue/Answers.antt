-- `switches::write::switch_glue` meets its contract. Assumes nothing.
use Rattle.switches.specs.Asked.{names_rooms, names_controlled, switch_names}
use Rattle.switches.proofs.write.switch_glue.Goals as goal

pub entries-count-requires : goal.entries-count-requires
entries-count-requires c = search (names_rooms, switch_names)

pub glue_text-requires : goal.glue_text-requires
glue_text-requires c = search (names_controlled, switch_names)
