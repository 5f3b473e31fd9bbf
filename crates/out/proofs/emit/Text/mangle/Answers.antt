use Rattle.out.proofs.emit.Text.mangle.Goals as goal

pub returns : goal.returns
unfolding Rattle.out.specs.Bytewise.becomes
returns c = c.flat.ensures
