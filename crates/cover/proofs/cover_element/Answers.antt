-- `cover::cover_element` meets its contract. Assumes nothing.
use Rattle.cover.proofs.Ports.{elements}
use Rattle.cover.proofs.cover_element.Goals as goal

pub last_slash-requires : goal.last_slash-requires
last_slash-requires c = search elements

pub cover_port-requires : goal.cover_port-requires
cover_port-requires c = search elements

pub returns-in-Some : goal.returns-in-Some
returns-in-Some c = search elements

pub cover_outputs-requires : goal.cover_outputs-requires
cover_outputs-requires c = search elements

pub returns-in-None : goal.returns-in-None
returns-in-None c = search elements
