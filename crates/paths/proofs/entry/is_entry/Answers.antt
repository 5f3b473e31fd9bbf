-- `paths::entry::is_entry` meets its contract. Assumes nothing.
use Rattle.std.specs.Prelude.{◌≡◌, ◌++◌}
use Rattle.std.proofs.Common.{refl, ◌∙◌, ap, rules}
use Rattle.std.specs.Iterator.Adapters.{copied_source}
use Rattle.std.specs.Slice.Iter.{iter_rest}
use Rattle.std.proofs.lemmas.Iterator.{YieldsList-from_map, YieldsList-from_slice}
use Rattle.std.proofs.lemmas.Iterator.Consumers.{YieldsList-from_first, YieldsList-from_copied, YieldsList-from_chain, YieldsList-at}
use Rattle.text.specs.Classes.{dot_of}
use Rattle.text.proofs.Streams.{same_from_yields_List}
use Rattle.names.specs.Name.{name_of}
use Rattle.names.specs.Stream.{left_of}
use Rattle.paths.proofs.entry.is_entry.Goals as goal

pub returns : goal.returns
returns c =
    let mem = c.args.mem.now.files.now ++ c.args.mem.now.area.now in
    same_from_yields_List (λ x t. t ≡ x) c.map-entry.result c.eq.result c.eq.ensures.ran
    (YieldsList-from_chain
    (YieldsList-at c.chain.ensures.first (YieldsList-from_map _ dot_of (YieldsList-at c.map-element.ensures.source (YieldsList-from_first (λ x. x) left_of (name_of mem c.args.e) refl)) c.map-element.ensures.closure (λ x r q k. search rules)))
    (YieldsList-at c.chain.ensures.second (YieldsList-from_copied (YieldsList-from_slice c.args.tail.now (ap iter_rest c.copied.ensures.source ∙ c.iter.ensures.rest))))
    (cc) (cc))
    (λ t e. YieldsList-at e (YieldsList-from_map _ dot_of (YieldsList-at c.map-entry.ensures.source (YieldsList-from_first (λ x. x) left_of (name_of mem c.args.y) refl)) c.map-entry.ensures.closure (λ x r q k. search rules)))
