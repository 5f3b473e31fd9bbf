-- How a written word is read: byte by byte, a quoted one without its backslashes. Assumes nothing.
use Rattle.std.specs.Prelude.{◌+◌, ◌≤◌, ℕ, Bool, cond, ◌≡◌, drop, length}
use Rattle.substitution.specs.declared.written.Run.{Run}
use Rattle.text.specs.Ascii.{Bytes}
use Rattle.tcl.specs.Substitution.{escape, unescape}

-- the bytes of a plain word's text, or of a quoted word's body, before substitution
unfoldable pub written : Bool → Bytes → Bytes
written quoted b = cond quoted (unescape b) b

-- how many bytes are dropped before the next one
unfoldable pub dropped_by : Bool → Bytes → ℕ
dropped_by quoted b = cond quoted (escape b) 0

-- n bytes of a written word from `at` on, and where they end
pub record IsRun (quoted : Bool) (body : Bytes) (at n : ℕ) (r : Run) : Type 0 where
  pub sized : r.size ≡ n
  pub rest : written quoted (drop r.end body) ≡ drop n (written quoted (drop at body))
  pub fits : n ≤ length (written quoted (drop at body))
  pub up : at + r.size ≤ r.end
  pub inside : r.end ≤ length body
