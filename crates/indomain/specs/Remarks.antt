-- Laws: a warning is gained. Assumes nothing.
use Rattle.std.specs.Prelude.{ℕ, ◌≡◌, Bool, List}
use Rattle.std.proofs.Common.{arith, sym, ap, ◌∙◌}
use Rattle.text.specs.Ascii.{Bytes}
use Rattle.text.specs.Sames.{no_true}
use Rattle.isolated.specs.Table.{kept_in}
use Rattle.keep.specs.Covered.{more, counted, Ready, Remarked, Answer}
use Rattle.keep.specs.declared.Cover.{Cover}
use Rattle.strategies.specs.Gains.{remark_gain}

pub remark_answer : (job mem : Bytes) (warn : Bool) (w : Bytes) (c : Cover) (out : Bytes) (ports : List ℕ) (r : Cover) (out' : Bytes) → Ready c ports → Remarked warn w c out r out'
    → Answer job mem warn c out (remark_gain w (kept_in job mem ports c.ports)) r out' ports
unfolding counted
remark_answer job mem warn w c out ports r out' h m =
    let v : r.over ≡ c.over = ap (λ (y : Cover). y.over) m.is in
    let p : r.ports ≡ c.ports = ap (λ (y : Cover). y.ports) m.is in
    let q : r.warnings ≡ more c.warnings = ap (λ (y : Cover). y.warnings) m.is in
    record {
      ready = λ o. record { going = v ∙ h.going; few = omega (arith, p, h.few); long = h.long };
      rows = λ o. ap (kept_in job mem ports) p;
      warnings = λ o. q;
      text = λ o. m.text;
      refused = λ o. absurd (no_true (sym (v ∙ h.going) ∙ o));
    }
