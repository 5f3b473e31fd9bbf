-- The answers that are made. Assumes nothing.
use Rattle.std.specs.Prelude.{ℕ, Bool, cond, ◌&&◌, eqb, leb}
use Rattle.answers.specs.declared.Answer.{Answer}
use Rattle.answers.specs.declared.Texts.{Texts}
use Rattle.answers.specs.declared.Rooms.{Rooms}

abbrev pub refused_by : ℕ → ℕ → Answer
refused_by x k = record { number = x; place = k; glue = 0; pkg = 0; report = 0; log = 0 }

abbrev pub stopped_by : ℕ → Texts
stopped_by n = record { number = n; glue = 0; pkg = 0; report = 0 }

-- each text ends within its buffer
abbrev pub within : Texts → ℕ → Rooms → Bool
within t log rooms = leb t.glue rooms.glue && (leb t.pkg rooms.pkg && (leb t.report rooms.report && leb log rooms.log))

abbrev pub fitted_by : Texts → ℕ → Rooms → Answer
fitted_by t log rooms =
    cond (eqb t.number 0)
    (cond (within t log rooms) (record { number = 0; place = 0; glue = t.glue; pkg = t.pkg; report = t.report; log = log }) (refused_by 14 0))
    (refused_by t.number 0)
