-- `switches::write::line_text` meets its contract. Assumes nothing.
use Rattle.switches.proofs.Glue.{input_whole, output_whole}
use Rattle.switches.proofs.Lines.{few_rows, line_all}
use Rattle.switches.proofs.write.line_text.Goals as goal

pub net_arg-b-requires : goal.net_arg-b-requires
net_arg-b-requires c = input_whole _ _ _ c.requires.0

pub net_arg-c-requires : goal.net_arg-c-requires
net_arg-c-requires c = output_whole _ _ _ c.requires.0

pub put_controlled-requires : goal.put_controlled-requires
put_controlled-requires c = few_rows _ _ _ _ c.requires.1

pub returns : goal.returns
returns c = (cc, line_all _ _ _ _ _ _ _ c.requires.1 _ _ _ _ _ _ _ c.put.ensures.1 c.put_controlled.ensures.1 c.fill3.ensures.1 c.string_arg-a.ensures c.net_arg-b.ensures c.net_arg-c.ensures)
