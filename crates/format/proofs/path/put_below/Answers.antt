-- `format::path::put_below` meets its contract. Assumes nothing.
use Rattle.format.proofs.Scopes.{below_more, below_none}
use mathlib.Core.List.{◌++◌}
use Rattle.scope.specs.Parts.{parts}
use Rattle.refs.specs.Text.{text_of}
use Rattle.format.proofs.path.put_below.Goals as goal

pub returns-then-has_bytes : goal.returns-then-has_bytes
returns-then-has_bytes c = (cc, below_more _ c.args.dots (parts c.args.src.now.scope.over.now c.args.src.now.scope.from) (text_of c.args.src.now.design.index.job.now (c.args.src.now.mem.files.now ++ c.args.src.now.mem.area.now) c.args.r) _ _ _ c.put_parts.ensures.1 c.dot.ensures _ c.has_bytes.ensures _ _ _ c.put.ensures.1 c.becomes.ensures.1 c.dot-then-has_bytes.ensures c.if-has_bytes.true)

pub returns : goal.returns
returns c = (cc, below_none _ c.args.dots (parts c.args.src.now.scope.over.now c.args.src.now.scope.from) (text_of c.args.src.now.design.index.job.now (c.args.src.now.mem.files.now ++ c.args.src.now.mem.area.now) c.args.r) _ _ _ c.put_parts.ensures.1 c.dot.ensures _ c.has_bytes.ensures c.if-has_bytes.false)
