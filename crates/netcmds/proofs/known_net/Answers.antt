-- Whether a net of the name was created. Assumes nothing.
use Rattle.std.specs.Prelude.{◌++◌, take}
use Rattle.std.proofs.Common.{rules, sym, ap, ◌∙◌}
use Rattle.std.proofs.lemmas.Iterator.{YieldsList-from_slice}
use Rattle.std.proofs.lemmas.Iterator.Search.{any_from_yields_List}
use Rattle.text.specs.Ascii.{Bytes}
use Rattle.text.specs.Scan.{any}
use Rattle.names.specs.Name.{name_of}
use Rattle.netcmds.specs.Nets.{is_called, called_is, any_list}
use Rattle.netcmds.proofs.known_net.Goals as goal

pub returns : goal.returns
returns c =
    let mem : Bytes = c.args.mem.now.files.now ++ c.args.mem.now.area.now in
    let t = is_called mem (name_of mem c.name_of-x.result) in
    let found = any_from_yields_List t _ _ c.any.result c.any.ensures.ran (YieldsList-from_slice _ c.iter.ensures.rest) (λ x b f k. search (rules, called_is)) in
    found ∙ sym (any_list t (take c.args.t.n c.args.t.all)) ∙ ap (λ (w : Bytes). any (is_called mem w) (take c.args.t.n c.args.t.all)) c.name_of-x.ensures
