-- `job::line_step` meets its contract.
-- Assumes nothing.
use Rattle.job.proofs.Dispatch.{step_top, step_override, step_start, step_file, step_bytes, step_more, step_style, step_ports, step_decls, step_insts, step_nothing}
use Rattle.job.proofs.line_step.Goals as goal

pub returns-in-Top : goal.returns-in-Top
returns-in-Top c = search (step_top, c.top_step.ensures)

pub returns-in-Override : goal.returns-in-Override
returns-in-Override c = search (step_override, c.override_step.ensures)

pub returns-in-Start : goal.returns-in-Start
returns-in-Start c = search (step_start, c.start_step.ensures)

pub returns-in-File : goal.returns-in-File
returns-in-File c = search step_file

pub returns-in-Bytes : goal.returns-in-Bytes
returns-in-Bytes c = search step_bytes

pub returns-in-More : goal.returns-in-More
returns-in-More c = search step_more

pub returns-in-Style : goal.returns-in-Style
returns-in-Style c = search (step_style, c.style_step.ensures)

pub returns-in-Ports : goal.returns-in-Ports
returns-in-Ports c = search step_ports

pub returns-in-Decls : goal.returns-in-Decls
returns-in-Decls c = search step_decls

pub returns-in-Insts : goal.returns-in-Insts
returns-in-Insts c = search step_insts

pub returns-in-Nothing : goal.returns-in-Nothing
returns-in-Nothing c = search step_nothing
