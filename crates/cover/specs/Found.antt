-- The ports of an element, as the code makes them, and what it asks. Assumes nothing.
use Rattle.std.specs.Prelude.{ℕ, ◌+◌, ◌≤◌, ◌<◌, ◌^◌, ◌≡◌, true, false, ◌++◌, length, take}
use Rattle.text.specs.Ascii.{Bytes, byte}
use Rattle.text.specs.Scan.{any, is}
use Rattle.design.specs.Paths.{parts}
use Rattle.names.specs.declared.name.Name.{Name}
use Rattle.jobindex.specs.declared.Span.{Span as Part}
use Rattle.refs.specs.Text.{no_name}
use Rattle.texts.specs.Isolation.{last_part, front_parts, below_parent}
use Rattle.targets.specs.declared.Place.{Place}
use Rattle.isolated.specs.declared.Isolated.{Isolated}
use Rattle.keep.specs.Held.{held_name, held_part}

abbrev pub output_port : Bytes → Bytes → ℕ → Name → Part → ℕ → Isolated
output_port job mem number e n upto =
    record {
      strategy = number;
      element = held_name mem e;
      sep = true;
      at = (held_part job n).at;
      len = (held_part job n).len;
      upto = upto;
      last = no_name;
      net = (held_part job n).at;
      size = (held_part job n).len;
    }

abbrev pub slash_port : Bytes → ℕ → Name → Name → ℕ → Isolated
slash_port mem number e rest upto =
    record {
      strategy = number;
      element = held_name mem e;
      sep = false;
      at = 0;
      len = 0;
      upto = upto;
      last = held_name mem rest;
      net = 0;
      size = 0;
    }

-- what is asked of the job, its index and the stored memory: the scope's module is row k of `count`
pub record Asks (job files area : Bytes) (count k number : ℕ) : Type 0 where
  pub few : count ≤ 128
  pub row : k < count
  pub number_small : number < 2 ^ 32
  pub job_small : length job < 2 ^ 32
  pub small : length files + length area < 2 ^ 31

-- a place that was found for the text t
pub record Placed (job files area : Bytes) (number : ℕ) (t : Bytes) (p : Place) : Type 0 where
  pub parent_row : p.parent ≤ 128
  pub sub_row : p.sub ≤ 128
  pub number_small : number < 2 ^ 32
  pub job_small : length job < 2 ^ 32
  pub small : length files + length area < 2 ^ 31
  pub upto_small : p.upto < 2 ^ 32
  pub front : (n : Bytes) → below_parent (front_parts (parts t)) n ≡ take p.upto t ++ n

-- the last slash of t: `upto` bytes with it, and the rest
pub record Slashed (t : Bytes) (upto : ℕ) (rest : Bytes) : Type 0 where
  pub there : any (is (byte "/")) t ≡ true
  pub size : upto + length rest ≡ length t
  pub last : rest ≡ last_part (parts t)
