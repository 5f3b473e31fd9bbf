-- How a target stands for the scope that a word moves to. Assumes nothing.
use Rattle.std.specs.Prelude.{Option, Some, None}
use Rattle.std.specs.Prelude.{ℕ, ◌≤◌, ◌<◌, ◌^◌, ◌≡◌, cond, drop}
use Rattle.text.specs.Ascii.{Bytes, ascii}
use Rattle.text.specs.Compare.{starts_with}
use Rattle.spans.specs.Span.{bytes}
use Rattle.spans.specs.Reach.{reach}
use Rattle.spans.specs.declared.span.Span.{Span}
use Rattle.model.specs.Scope.{below}

-- a string that is there, or a name below a scope
abbrev pub target_of : Bytes → Bytes → Bytes → Option Span → Bytes
target_of mem scope name (Some s) = bytes mem s
target_of mem scope name None = below scope name

-- how far a target reaches, where the files are `long`
abbrev pub target_reach : ℕ → Option Span → ℕ
target_reach long (Some s) = reach long s
target_reach long None = 0

-- a name behind a `/` is taken from the root
pub record Rooted (mem : Bytes) (name : Span) (r : Option Span) : Type 0 where
  pub is : (scope : Bytes) → target_of mem scope (bytes mem name) r ≡ cond (starts_with (ascii "/") (bytes mem name)) (drop 1 (bytes mem name)) (below scope (bytes mem name))
  pub within : (long n : ℕ) → n < 2 ^ 32 → reach long name ≤ n → target_reach long r ≤ n

-- the scope t, by the old one and a name: what is there reaches no further than these two
pub record Targets (mem : Bytes) (scope name : Span) (t : Bytes) (r : Option Span) : Type 0 where
  pub is : target_of mem (bytes mem scope) (bytes mem name) r ≡ t
  pub within : (long n : ℕ) → n < 2 ^ 32 → reach long scope ≤ n → reach long name ≤ n → target_reach long r ≤ n
