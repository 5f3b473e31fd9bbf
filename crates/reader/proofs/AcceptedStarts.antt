-- Every accepted job can be read. Assumes nothing.
use Rattle.std.specs.Prelude.{ℕ, ◌+◌, ◌≤◌, ◌<◌, ◌^◌, ◌≡◌, List, length}
use Rattle.std.proofs.Common.{arith}
use Rattle.joblines.specs.Job.{Job}
use Rattle.joblines.specs.Parse.{parse, accepted}
use Rattle.jobindex.specs.declared.Header.{Header}
use Rattle.jobindex.specs.Index.{Indexed}
use Rattle.reader.specs.Whole.{Starts}
use Rattle.reader.specs.Accepted.{few, start_named, bodies_within}

-- EVERY ACCEPTED JOB CAN BE READ
module _ (job files area nums : List ℕ) (head : Header) (j : Job) (v : Indexed job nums head j) (p : parse job ≡ accepted j) where
  pub accepted_starts : length files ≡ 65536 → 24576 ≤ length area → length files + length area < 2 ^ 32 → 16384 ≤ length nums → Starts job files area nums head.files head.startfile
  accepted_starts f a s n =
      record {
        few = few job files area nums head j v p;
        start_row = v.start_row;
        start_is = start_named job files area nums head j v p;
        bodies = omega (arith, f, bodies_within job files area nums head j v p);
        files_short = omega (arith, f);
        area_long = a;
        small = s;
        nums_long = n;
      }
