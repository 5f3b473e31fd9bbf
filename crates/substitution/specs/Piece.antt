-- A piece of a written word, as the code finds it. Assumes nothing.
use Rattle.std.specs.Prelude.{◌+◌, ◌≤◌, ℕ, Bool, ◌≡◌, drop, length, take}
use Rattle.substitution.specs.declared.piece.Piece.{Piece}
use Rattle.tcl.specs.Substitution.{piece_more, piece_name}
use Rattle.text.specs.Ascii.{Bytes}
use Rattle.substitution.specs.Written.{written}

-- p is the first piece of s, which is left of the word; it ends at `at` at the least
pub record IsPiece (quoted : Bool) (body : Bytes) (at : ℕ) (s : Bytes) (p : Piece) : Type 0 where
  pub named : take p.name (written quoted (drop p.from body)) ≡ piece_name s
  pub sized : p.size ≡ 1 + piece_more s
  pub rest : written quoted (drop p.end body) ≡ drop (1 + piece_more s) s
  pub fits : p.size ≤ length s
  pub up : at ≤ p.end
  pub inside : p.end ≤ length body
