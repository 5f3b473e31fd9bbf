-- How numbers stand for a table of isolated ports: four rows of names each. Assumes nothing.
use Rattle.std.specs.Prelude.{ℕ, zero, suc, ◌+◌, ◌*◌, ◌<◌, ◌^◌, true, false, List, [], ◌∷◌, map}
use Rattle.text.specs.Ascii.{Bytes}
use Rattle.spans.specs.Span.{◌⋯◌}
use Rattle.names.specs.Name.{named}
use Rattle.names.specs.declared.name.Name.{Name}
use Rattle.names.specs.declared.name.Form.TheVariants.{Word}
use Rattle.nametable.specs.Table.{row_name, Stores, row_put as name_put}
use Rattle.refs.specs.Text.{no_name, text_of}
use Rattle.refs.specs.declared.Ref.{Ref}
use Rattle.isolated.specs.declared.Isolated.{Isolated}

-- ---- a port in four rows: the element; what is left of it as the net; the parts of the job; the strategy, and how many bytes stand before the net
abbrev pub parts_row : Isolated → Name
parts_row x = named (x.at ⋯ x.len) x.sep (x.net ⋯ x.size) Word

abbrev pub counts_row : Isolated → Name
counts_row x = named (x.strategy ⋯ x.upto) false (0 ⋯ 0) Word

abbrev pub isolated_of : Name → Name → Name → Name → Isolated
isolated_of e l p q =
    record {
      strategy = q.scope.at;
      element = e;
      sep = p.sep;
      at = p.scope.at;
      len = p.scope.len;
      upto = q.scope.len;
      last = l;
      net = p.word.at;
      size = p.word.len;
    }

-- the port of row k
unfoldable pub port_row : List ℕ → ℕ → Isolated
port_row t k = isolated_of (row_name t (4 * k)) (row_name t (4 * k + 1)) (row_name t (4 * k + 2)) (row_name t (4 * k + 3))

-- a table with a port put into row k
abbrev pub names_put : List ℕ → ℕ → Isolated → List ℕ
names_put t k x = name_put (name_put t (4 * k) x.element) (4 * k + 1) x.last

abbrev pub numbers_put : List ℕ → ℕ → Isolated → List ℕ
numbers_put t k x = name_put (name_put t (4 * k + 2) (parts_row x)) (4 * k + 3) (counts_row x)

unfoldable pub port_put : List ℕ → ℕ → Isolated → List ℕ
port_put t k x = numbers_put (names_put t k x) k x

-- a port whose numbers can be held
pub record Fits (x : Isolated) : Type 0 where
  pub element : Stores x.element
  pub last : Stores x.last
  pub strategy : x.strategy < 2 ^ 32
  pub at : x.at < 2 ^ 32
  pub len : x.len < 2 ^ 32
  pub upto : x.upto < 2 ^ 32
  pub net : x.net < 2 ^ 32
  pub size : x.size < 2 ^ 32

-- ---- what a port stands for

-- its instance and its name; the parent's net, below the scope
abbrev pub port_ref : Isolated → Ref
port_ref x = record { name = x.element; cut = false; upto = 0; sep = x.sep; last = no_name; at = x.at; len = x.len }

abbrev pub net_ref : Isolated → Ref
net_ref x = record { name = x.element; cut = true; upto = x.upto; sep = false; last = x.last; at = x.net; len = x.size }

-- a strategy by its number, the key of a port that it keeps, and the net below the scope
pub record Kept : Type 0 where
  pub strategy : ℕ
  pub key : Bytes
  pub net : Bytes

abbrev pub kept : ℕ → Bytes → Bytes → Kept
kept n k w = record { strategy = n; key = k; net = w }

abbrev pub kept_of : Bytes → Bytes → Isolated → Kept
kept_of job mem x = kept x.strategy (text_of job mem (port_ref x)) (text_of job mem (net_ref x))

-- the n ports from row k on
unfoldable pub kept_from : Bytes → Bytes → List ℕ → ℕ → ℕ → List Kept
kept_from job mem t k zero = []
kept_from job mem t k (suc n) = kept_of job mem (port_row t k) ∷ kept_from job mem t (k + 1) n

-- the ports of a table of n rows
abbrev pub kept_in : Bytes → Bytes → List ℕ → ℕ → List Kept
kept_in job mem t n = kept_from job mem t 0 n

-- their keys
abbrev pub keys_of : List Kept → List Bytes
keys_of l = map (λ (x : Kept). x.key) l
