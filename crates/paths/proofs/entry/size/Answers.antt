-- `paths::entry::size` meets its contract: a name is not too long to count. Assumes nothing.
use Rattle.std.specs.Prelude.{◌++◌}
use Rattle.std.proofs.Common.{arith, length-append, inl}
use Rattle.paths.specs.Sizes.{name_short}
use Rattle.paths.proofs.entry.size.Goals as goal

pub count-requires-clause-fits : goal.count-requires-clause-fits
count-requires-clause-fits c = inl (omega (arith, c.requires, name_short (c.args.mem.now.files.now ++ c.args.mem.now.area.now) c.args.n, length-append c.args.mem.now.files.now c.args.mem.now.area.now))
