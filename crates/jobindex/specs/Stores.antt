-- The index after a row is put.
-- Assumes nothing.
use Rattle.std.specs.Prelude.{ℕ, ◌+◌, ◌*◌, ◌^◌, ◌<◌, List, set}
use Rattle.fields.specs.Meant.{style_number}
use Rattle.jobindex.specs.declared.Open.{Open}
use Rattle.jobindex.specs.Index.{row_at}

-- four numbers, from i on
abbrev pub with_four : List ℕ → ℕ → ℕ → ℕ → ℕ → ℕ → List ℕ
with_four index i a b c d = set (set (set (set index i a) (i + 1) b) (i + 2) c) (i + 3) d

abbrev pub with_file : List ℕ → ℕ → ℕ → ℕ → ℕ → ℕ → List ℕ
with_file index k at len body size = with_four index (4 * k) at len body size

abbrev pub with_module : List ℕ → ℕ → Open → List ℕ
with_module index k o =
    with_four (with_four index (row_at k) o.name.at o.name.len (style_number o.style) o.ports) (row_at k + 4) o.decls o.insts o.end o.ninsts

abbrev pub with_name : List ℕ → ℕ → ℕ → ℕ → List ℕ
with_name index k at len = set (set index (1152 + 2 * k) at) (1152 + 2 * k + 1) len

-- the numbers of a row fit u32
pub record Fits (o : Open) : Type 0 where
  pub name_at_lem : o.name.at < 2 ^ 32
  pub name_len : o.name.len < 2 ^ 32
  pub ports_at : o.ports < 2 ^ 32
  pub decls_at : o.decls < 2 ^ 32
  pub insts_at : o.insts < 2 ^ 32
  pub end_at : o.end < 2 ^ 32
  pub insts_no : o.ninsts < 2 ^ 32
