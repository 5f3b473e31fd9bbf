-- `commands::next::next_command` meets its contract: split, then resolved. Assumes nothing.
use Rattle.std.specs.Prelude.{◌≡◌, Some, None, Ok}
use Rattle.std.proofs.Common.{ap, ◌∙◌}
use borrow.Author.Rules.{rules}
use Rattle.substitution.specs.Room.{passed_on}
use Rattle.commands.proofs.Nexts.{nexts}
use Rattle.commands.proofs.next.next_command.Goals as goal

pub split-requires : goal.split-requires
split-requires c = (search nexts, search rules)

pub resolve-requires : goal.resolve-requires
resolve-requires c =
    let g : c.split.result ≡ Ok (Some (c.in-Some.n, c.in-Some.next)) = c.in_ok-n.was ∙ ap Ok c.in-Some.is in
    (search nexts, (search nexts, (search nexts, (search nexts, (search rules, (search rules, search rules))))))

pub returns-in_default : goal.returns-in_default
returns-in_default c =
    let g : c.split.result ≡ Ok None = c.in_ok-n.was ∙ ap Ok c.in_default.is in
    search nexts

pub returns-in_err-n : goal.returns-in_err-n
returns-in_err-n c =
    let h = c.in_err-n.was in
    rw (passed_on _ c.from_residual.result c.from_residual.ensures) (search nexts)

pub returns-in_err-end : goal.returns-in_err-end
returns-in_err-end c =
    let g : c.split.result ≡ Ok (Some (c.in-Some.n, c.in-Some.next)) = c.in_ok-n.was ∙ ap Ok c.in-Some.is in
    let h = c.in_err-end.was in
    rw (passed_on _ c.from_residual-in_err-end.result c.from_residual-in_err-end.ensures) (search nexts)

pub returns : goal.returns
returns c =
    let g : c.split.result ≡ Ok (Some (c.in-Some.n, c.in-Some.next)) = c.in_ok-n.was ∙ ap Ok c.in-Some.is in
    let h = c.in_ok-end.was in
    search nexts
