-- Laws for all who keep entries: an entry of a stored value is a stored string, and is read the same when the area grows. Assumes nothing.
use Rattle.std.specs.Prelude.{Some}
use Rattle.std.specs.Prelude.{ℕ, ◌+◌, ◌≤◌, ◌≡◌, Bool, List, take}
use Rattle.std.proofs.Common.{ap, arith}
use Rattle.text.specs.Ascii.{Bytes}
use Rattle.spans.specs.Span.{◌⋯◌, bytes}
use Rattle.spans.specs.Frame.{inner, bytes_same, size_in}
use Rattle.spans.specs.declared.span.Span.{Span}
use Rattle.entries.specs.Entry.{entry_bytes}
use Rattle.entries.specs.View.{Finds}

-- an entry that lies within the value, which is the string w: the same bytes stand in the list that the value lies in
module _ (mem : Bytes) (w : Span) (t : List Bytes) (s : Span) (q : Bool) (n : ℕ) (f : Finds (bytes mem w) t (Some (record { entry = s; quoted = q; next = n }))) where
  pub entry_in : s.at + s.len ≤ w.len
  entry_in = omega (arith, f.within, size_in mem w)

  pub entry_inner : entry_bytes q (bytes mem ((w.at + s.at) ⋯ s.len)) ≡ entry_bytes q (bytes (bytes mem w) s)
  entry_inner = ap (entry_bytes q) (inner mem w s entry_in)

  -- and it ends where the value ends at the latest
  pub entry_ends : (w.at + s.at) + s.len ≤ w.at + w.len
  entry_ends = omega (arith, entry_in)

-- what ends by n is read the same where the first n bytes are the same
pub entry_same : (n : ℕ) (mem mem' : Bytes) (s : Span) (q : Bool) → s.at + s.len ≤ n → take n mem' ≡ take n mem → entry_bytes q (bytes mem' s) ≡ entry_bytes q (bytes mem s)
entry_same n mem mem' s q h e = ap (entry_bytes q) (bytes_same n mem mem' s h e)
