-- Where the names of a table's rows stand. Assumes nothing.
use Rattle.std.specs.Prelude.{ℕ, ◌+◌, ◌*◌, ◌≤◌, ◌^◌, ◌≡◌, List}
use Rattle.std.proofs.Common.{rules, arith}
use Rattle.text.specs.Ascii.{Bytes}
use Rattle.jobindex.specs.Index.{num, bytes_at, path_at, name_at, inst_at, named_at, first_of, step_of}
use Rattle.jobindex.specs.declared.Table.{Table}
use Rattle.jobindex.specs.declared.Table.TheVariants as table

pub place_low : (t : Table) (k f s : ℕ) → k ≤ 128 → f ≡ first_of t → s ≡ step_of t → f + s * k ≤ 2 ^ 32
place_low table.Files k f s h e g = rw (e, g) (omega arith)
place_low table.Modules k f s h e g = rw (e, g) (omega arith)
place_low table.Insts k f s h e g = rw (e, g) (omega arith)

pub placed : (t : Table) (job : Bytes) (rows : List ℕ) (k f s : ℕ) → f ≡ first_of t → s ≡ step_of t → bytes_at job (num rows (f + s * k)) (num rows (f + s * k + 1)) ≡ named_at t job rows k
unfolding path_at name_at inst_at
placed table.Files job rows k f s e g = let z : 0 + 4 * k ≡ 4 * k = omega arith in rw (e, g, z)
placed table.Modules job rows k f s e g = rw (e, g)
placed table.Insts job rows k f s e g = rw (e, g)

pub ruleset placing = (rules, place_low, placed)
