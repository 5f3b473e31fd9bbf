-- The job is what was read, and the run's promise is handed on.
use Rattle.std.proofs.Common.{ℕ, ◌∙◌}
use Rattle.std.proofs.lemmas.List.{length-replicate}
use Rattle.program.proofs.Front.{front}
use Rattle.program.proofs.answer.Goals as goal

pub returns-clause-ok : goal.returns-clause-ok
returns-clause-ok g c =
    record {
      job = _;
      files = _;
      area = _;
      nums = _;
      front = front _ _ 65537 c.in_ok-n.n c.read_full.new.buf (c.read_full.auto.buf ∙ length-replicate {A = ℕ} 65537 0) c.in_ok-n.ensures.bound.0 c.in_ok-n.ensures.bytes c.in_ok-n.ensures.end;
      ran = c.run.ensures;
    }
