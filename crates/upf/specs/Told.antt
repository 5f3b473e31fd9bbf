-- The answer of the exported function: the number is its result, the others stand behind the references. Assumes nothing.
use Rattle.std.specs.Prelude.{ℕ}
use Rattle.answers.specs.declared.Answer.{Answer}

abbrev pub told : ℕ → ℕ → ℕ → ℕ → ℕ → ℕ → Answer
told number place glue pkg report log = record { number = number; place = place; glue = glue; pkg = pkg; report = report; log = log }
