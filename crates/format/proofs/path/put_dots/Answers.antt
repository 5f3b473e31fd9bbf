-- `format::path::put_dots` meets its contract. Assumes nothing.
use Rattle.format.proofs.Scopes.{dots_all}
use mathlib.Core.List.{◌++◌}
use Rattle.scope.specs.Parts.{parts}
use Rattle.refs.specs.Text.{text_of}
use Rattle.format.proofs.path.put_dots.Goals as goal

pub returns : goal.returns
returns c = (cc, dots_all _ c.args.src.now.top.now (parts c.args.src.now.scope.over.now c.args.src.now.scope.from) (text_of c.args.src.now.design.index.job.now (c.args.src.now.mem.files.now ++ c.args.src.now.mem.area.now) c.args.r) _ _ _ c.put_below.ensures.1 c.put_slice.ensures.1)
