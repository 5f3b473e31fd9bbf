-- `names::compare::is_dotted` meets its contract. Assumes nothing.
use Rattle.std.specs.Prelude.{◌≡◌, ◌++◌}
use Rattle.std.proofs.Common.{refl, ◌∙◌, ap, sym, rules}
use Rattle.std.specs.Iterator.Adapters.{copied_source}
use Rattle.std.specs.Slice.Iter.{iter_rest}
use Rattle.std.proofs.lemmas.Iterator.{YieldsList-from_map, YieldsList-from_slice}
use Rattle.std.proofs.lemmas.Iterator.Consumers.{YieldsList-from_first, YieldsList-from_copied, YieldsList-at}
use Rattle.text.specs.Classes.{dot_of}
use Rattle.text.specs.Compare.{same}
use Rattle.text.proofs.Streams.{same_from_yields_List}
use Rattle.names.specs.Name.{name_of}
use Rattle.names.specs.Laws.{dotted_map}
use Rattle.names.specs.Stream.{left_of}
use Rattle.names.proofs.compare.is_dotted.Goals as goal

pub returns : goal.returns
returns c =
    let name = name_of (c.args.mem.now.files.now ++ c.args.mem.now.area.now) c.args.n in
    same_from_yields_List (λ x t. t ≡ x) c.copied.result c.eq.result c.eq.ensures.ran
    (YieldsList-from_map _ dot_of (YieldsList-at c.map.ensures.source (YieldsList-from_first (λ x. x) left_of name refl)) c.map.ensures.closure (λ x r q k. search rules))
    (λ t e. YieldsList-from_copied (YieldsList-from_slice c.args.w.now (ap (λ u. iter_rest (copied_source u)) e ∙ ap iter_rest c.copied.ensures.source ∙ c.iter.ensures.rest)))
    ∙ ap (λ p. same p c.args.w.now) (sym (dotted_map name))
