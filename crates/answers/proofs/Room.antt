-- Laws: the answer by the number of a refusal and by the room. Assumes nothing.
use Prim.Native.Nat.{ℕ}
use mathlib.Core.Path.{◌≡◌, refl, sym, ◌∙◌}
use mathlib.Core.Bool.{Bool, true, false, not}
use borrow.Author.Rules.{rules}
use borrow.Author.Tests.{ne_eqb, not-true}
use Rattle.answers.specs.Answers.{refused_by, within, fitted_by}
use Rattle.answers.specs.declared.Answer.{Answer}
use Rattle.answers.specs.declared.Texts.{Texts}
use Rattle.answers.specs.declared.Rooms.{Rooms}

not_is_false : (b : Bool) → not b ≡ false → b ≡ true
not_is_false true e = refl
not_is_false false e = sym e

module _ (t : Texts) (log : ℕ) (rooms : Rooms) where
  pub fitted_stop : (t.number ≡ 0 → ⊥) → (r : Answer) → r ≡ refused_by t.number 0 → r ≡ fitted_by t log rooms
  fitted_stop h r e = e ∙ sym (rw (ne_eqb t.number 0 h))

  module _ (h : t.number ≡ 0) (b : Bool) (eb : b ≡ within t log rooms) where
    pub fitted_over : not b ≡ true → (r : Answer) → r ≡ refused_by 14 0 → r ≡ fitted_by t log rooms
    fitted_over g r e = let z : within t log rooms ≡ false = sym eb ∙ not-true b g in e ∙ sym (rw (h, z))

    pub fitted_fits : not b ≡ false → record { number = 0; place = 0; glue = t.glue; pkg = t.pkg; report = t.report; log = log } ≡ fitted_by t log rooms
    fitted_fits g = let z : within t log rooms ≡ true = sym eb ∙ not_is_false b g in sym (rw (h, z))

pub ruleset fitting = (rules, fitted_stop, fitted_over, fitted_fits)
