-- The bodies of a job's files, joined one behind the other ("`\` LF and `\` CR LF become a space first"), and where each stands. Assumes nothing.
use Rattle.std.specs.Prelude.{ℕ, zero, suc, ◌+◌, ◌*◌, ◌≤◌, ◌<◌, ◌^◌, ◌≡◌, List, [], ◌++◌, length, take, drop, get_or, set}
use Rattle.text.specs.Ascii.{Bytes}
use Rattle.spans.specs.Area.{Wrote}
use Rattle.tcl.specs.Join.{join}
use Rattle.jobindex.specs.Index.{body_at}

-- the bodies of the first n files, joined, one behind the other
unfoldable pub bodies : Bytes → List ℕ → ℕ → Bytes
bodies job index zero = []
bodies job index (suc n) = bodies job index n ++ join (body_at job index n)

-- how many bytes they have as they are written
unfoldable pub body_bytes : Bytes → List ℕ → ℕ → ℕ
body_bytes job index zero = 0
body_bytes job index (suc n) = body_bytes job index n + length (body_at job index n)

-- ---- in the numbers

-- where file k begins, and its length
abbrev pub begin_place : ℕ → ℕ
begin_place k = 1152 + 2 * k

abbrev pub length_place : ℕ → ℕ
length_place k = 1153 + 2 * k

-- the joined text of file k
unfoldable pub joined_at : Bytes → List ℕ → ℕ → Bytes
joined_at files nums k = take (get_or nums (length_place k) 0) (drop (get_or nums (begin_place k) 0) files)

-- the numbers with the places of the first n files
unfoldable pub placed : Bytes → List ℕ → ℕ → List ℕ
placed job nums zero = nums
placed job nums (suc n) = set (set (placed job nums n) (begin_place n) (length (bodies job nums n))) (length_place n) (length (join (body_at job nums n)))

-- there is room for n files
pub record Room (job files nums : List ℕ) (n : ℕ) : Type 0 where
  pub few : n ≤ 32
  pub numbers : 1216 ≤ length nums
  pub bytes : body_bytes job nums n ≤ length files
  pub short : length files < 2 ^ 32

-- the files and the numbers were files₀ and nums₀, and are files and nums
pub record Joined (job files₀ files nums₀ nums : List ℕ) (n r : ℕ) : Type 0 where
  pub texts : Wrote files₀ files 0 (bodies job nums₀ n) r
  pub places : nums ≡ placed job nums₀ n
