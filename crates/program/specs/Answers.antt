-- What a program answers: the run of a job, which is the front of what the reader gives. Which bytes standard input has, no contract can say.
-- Assumes nothing.
use Rattle.std.specs.Prelude.{ℕ, ◌≡◌, List, Option, IfSome, replicate, take}
use Rattle.text.specs.Ascii.{Bytes}
use Rattle.answers.specs.declared.Answer.{Answer}
use Rattle.upf.specs.Runs.{Ran}

-- `given` is what the reader had to give, where it is known; one byte more than a job's most is taken of it
pub record AnswersJob (given : Option Bytes) (glue₀ glue pkg₀ pkg report₀ report log₀ log : Bytes) (r : Answer) : Type 0 where
  pub job : Bytes
  pub files : Bytes
  pub area : Bytes
  pub nums : List ℕ
  pub front : IfSome given (λ xs. job ≡ take 65537 xs)
  pub ran : Ran job (replicate 65536 0) files (replicate 65536 0) area (replicate 16384 0) nums glue₀ glue pkg₀ pkg report₀ report log₀ log r
