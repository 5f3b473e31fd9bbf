-- `alike::same_streams` meets its contract. Assumes nothing.
use Rattle.std.specs.Prelude.{◌++◌}
use Rattle.std.proofs.Common.{refl, rules}
use Rattle.std.proofs.lemmas.Iterator.{YieldsList-from_map}
use Rattle.std.proofs.lemmas.Iterator.Consumers.{YieldsList-from_first, YieldsList-at}
use Rattle.text.specs.Classes.{dot_of}
use Rattle.names.specs.Name.{name_of}
use Rattle.names.specs.Stream.{left_of}
use Rattle.alike.proofs.Dotted.{dotted_same}
use Rattle.alike.proofs.same_streams.Goals as goal

pub returns : goal.returns
returns c =
    let p = name_of (c.args.mem.now.files.now ++ c.args.mem.now.area.now) c.args.a in
    let q = name_of (c.args.mem.now.files.now ++ c.args.mem.now.area.now) c.args.b in
    dotted_same c.map-y.result c.eq.result p q
    (YieldsList-from_map _ dot_of (YieldsList-at c.map-x.ensures.source (YieldsList-from_first (λ x. x) left_of p refl)) c.map-x.ensures.closure (λ x r q k. search rules))
    (YieldsList-from_map _ dot_of (YieldsList-at c.map-y.ensures.source (YieldsList-from_first (λ x. x) left_of q refl)) c.map-y.ensures.closure (λ x r q k. search rules))
    c.eq.ensures.ran
