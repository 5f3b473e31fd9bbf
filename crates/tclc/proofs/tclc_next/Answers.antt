use Rattle.std.specs.Prelude.{◌≡◌, Ok, Some, None}
use Rattle.std.proofs.Common.{ap, ◌∙◌}
use Rattle.tclc.proofs.Told.{next_told}
use Rattle.tclc.proofs.tclc_next.Goals as goal

pub returns-in-Ok-None : goal.returns-in-Ok-None
returns-in-Ok-None c =
    let f : c.in-Ok-None.field-0 ≡ None = rw c.in-Ok-None.is at c.in-Ok-None.field-0-is in
    let g : c.next_command-r.result ≡ Ok None = c.in-Ok-None.is ∙ ap Ok f in
    search next_told

pub returns-in-Ok-Some : goal.returns-in-Ok-Some
returns-in-Ok-Some c =
    let f : c.in-Ok-Some.field-0 ≡ Some c.in-Ok-Some.w = rw c.in-Ok-Some.is at c.in-Ok-Some.field-0-is in
    let g : c.next_command-r.result ≡ Ok (Some c.in-Ok-Some.w) = c.in-Ok-Some.is ∙ ap Ok f in
    search next_told
