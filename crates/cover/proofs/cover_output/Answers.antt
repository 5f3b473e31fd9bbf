-- `cover::cover_output` meets its contract. Assumes nothing.
use Rattle.cover.proofs.Ports.{output_ready, outputs}
use Rattle.cover.proofs.cover_output.Goals as goal

pub aim-requires : goal.aim-requires
aim-requires c = (c.requires.0, output_ready _ _ _ _ _ _ c.requires.1 _ _ c.output_port-x.ensures)

pub returns : goal.returns
returns c = search (outputs, c.requires, c.aim.ensures, c.output_port-x.ensures, c.insts_end-end.ensures, c.of_job-own.ensures, c.output_actual-net.ensures)

pub insts_end-end-requires : goal.insts_end-end-requires
insts_end-end-requires c = search outputs

pub of_job-own-requires : goal.of_job-own-requires
of_job-own-requires c = search outputs

pub output_actual-net-requires : goal.output_actual-net-requires
output_actual-net-requires c = search outputs

pub output_port-x-requires : goal.output_port-x-requires
output_port-x-requires c = search outputs
