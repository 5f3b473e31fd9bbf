-- The reading of a whole job, from its index: what is asked, and what is left in all that is lent. Assumes nothing.
use Rattle.std.specs.Prelude.{ℕ, ◌+◌, ◌≤◌, ◌<◌, ◌^◌, ◌≡◌, List, ◌++◌, length, take, drop, Some}
use Rattle.text.specs.Ascii.{Bytes}
use Rattle.jobindex.specs.Index.{path_at, body_at}
use Rattle.model.specs.Limits.{most_depth}
use Rattle.model.specs.Records.{no_records}
use Rattle.model.specs.Within.{nothing_counted}
use Rattle.read.specs.Reading.{Reading, file_named, read_file}
use Rattle.joined.specs.Joined.{bodies, body_bytes}
use Rattle.held.specs.Held.{Held, Comes}
use Rattle.loads.specs.Steps.{files_in}
use Rattle.scopes.specs.declared.go.Out.{Out}
use Rattle.scopes.specs.Stops.{tag_of}

-- "The start file has depth 0": the first `count` files of an index, from file `first` on
abbrev pub reading_at : Bytes → List ℕ → ℕ → ℕ → Reading
reading_at job nums count first = read_file (files_in job nums count) most_depth (path_at job nums first) nothing_counted no_records

-- the start file is the one that its path names, and the lent memory is large enough
pub record Starts (job files area nums : List ℕ) (count first : ℕ) : Type 0 where
  pub few : count ≤ 32
  pub start_row : first < count
  pub start_is : file_named (files_in job nums count) (path_at job nums first) ≡ Some (body_at job nums first)
  pub bodies : body_bytes job nums count ≤ length files
  pub files_short : length files ≤ 65536
  pub area_long : 24576 ≤ length area
  pub small : length files + length area < 2 ^ 32
  pub nums_long : 16384 ≤ length nums

-- THE READER OF THE FILES: its answer stands for the reading, the log's buffer holds the reading's log; the joined files stand in `files`,
-- the area is written up to 24,576, and of the numbers those from 1,152 up to 14,656
pub record WasRead (job files₀ files area₀ area nums₀ nums log₀ log : List ℕ) (count first : ℕ) (r : Out) : Type 0 where
  pub comes : Comes files area nums log₀ log r (reading_at job nums₀ count first)
  pub held : tag_of r.stop ≡ 0 → Held files area nums 0 r.state
  pub texts : files ≡ bodies job nums₀ count ++ drop (length (bodies job nums₀ count)) files₀
  pub area_back : drop 24576 area ≡ drop 24576 area₀
  pub index : take 1152 nums ≡ take 1152 nums₀
  pub nums_back : drop 14656 nums ≡ drop 14656 nums₀
