-- `switches::write::glue_text` meets its contract. Assumes nothing.
use Rattle.switches.proofs.Glue.{input_whole, output_whole, glue_ons, glue_all}
use Rattle.switches.proofs.write.glue_text.Goals as goal

pub net_arg-a-requires : goal.net_arg-a-requires
net_arg-a-requires c = input_whole _ _ _ c.requires.0.names

pub net_arg-b-requires : goal.net_arg-b-requires
net_arg-b-requires c = output_whole _ _ _ c.requires.0.names

pub put_state-requires : goal.put_state-requires
put_state-requires c = glue_ons _ _ _ _ c.requires.0 _ _ c.requires.1 _ _ c.wide-first.ensures c.wide-n.ensures

pub put_controls-requires : goal.put_controls-requires
put_controls-requires c = glue_ons _ _ _ _ c.requires.0 _ _ c.requires.1 _ _ c.wide-first.ensures c.wide-n.ensures

pub returns : goal.returns
returns c = (cc, glue_all _ _ _ _ _ _ _ _ c.requires.1 _ _ c.wide-first.ensures c.wide-n.ensures _ _ _ _ _ _ c.put_controls.ensures.1 c.put_state.ensures.1 c.net_arg-a.ensures c.net_arg-b.ensures c.string_arg-d.ensures)
