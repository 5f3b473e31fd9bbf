-- The line that `puts` writes. Assumes nothing.
use Rattle.std.specs.Prelude.{◌++◌}
use Rattle.std.proofs.Common.{ap, ◌∙◌}
use Rattle.text.specs.Ascii.{ascii}
use Rattle.out.specs.Emit.{Out, emit}
use Rattle.names.specs.Name.{name_of}
use Rattle.plain.proofs.Logs.{puts_said}
use Rattle.plain.proofs.say.Goals as goal

pub returns : goal.returns
returns c = (
  cc,
  c.put-2.ensures.1
      ∙ ap (λ (o : Out). emit o (ascii "\n")) c.put_name.ensures.1
      ∙ ap (λ (o : Out). emit (emit o (name_of (c.args.mem.now.files.now ++ c.args.mem.now.area.now) c.alone.result)) (ascii "\n")) c.put.ensures.1
      ∙ puts_said (c.args.mem.now.files.now ++ c.args.mem.now.area.now) c.args.command.now.rows.now c.args.command.now.n _ c.last_positional-w.ensures _ c.alone.ensures _,
)
