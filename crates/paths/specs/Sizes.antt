-- Laws: how long a stored name can be. Assumes nothing.
use Rattle.std.specs.Prelude.{ℕ, zero, suc, ◌+◌, ◌*◌, ◌≤◌, Bool, true, false, cond, [], ◌∷◌, ◌++◌, eqb, length, drop}
use Rattle.std.proofs.Common.{arith, length-append, length-take}
use Rattle.text.specs.Ascii.{Bytes}
use Rattle.tcl.specs.Rewrite.{rewrite}
use Rattle.tcl.specs.Join.{join}
use Rattle.tcl.specs.Substitution.{escape, escaped, unescape}
use Rattle.tcl.specs.Rewrites.{join_short}
use Rattle.spans.specs.Span.{bytes}
use Rattle.entries.specs.Entry.{entry_bytes}
use Rattle.names.specs.Name.{name_of, entry_of, slash}
use Rattle.names.specs.declared.name.Name.{Name}
use Rattle.names.specs.declared.name.Form.{Form}
use Rattle.names.specs.declared.name.Form.TheVariants.{Word, Entry, Quoted}

escape_short : (k : ℕ) (s : Bytes) → length (rewrite escape escaped k s) ≤ length s
unfolding rewrite
escape_short k [] = omega arith
escape_short zero (x ∷ s) = let h : length (rewrite escape escaped (escape (x ∷ s)) s) ≤ length s = escape_short (escape (x ∷ s)) s in omega arith
escape_short (suc k) (x ∷ s) = let h : length (rewrite escape escaped k s) ≤ length s = escape_short k s in omega arith

entry_short : (form : Form) (w : Bytes) → length (entry_of form w) ≤ length w
entry_short Word w = omega arith
entry_short Entry w = join_short w
entry_short Quoted w = let h : length (unescape (join w)) ≤ length (join w) = escape_short 0 (join w) in let g : length (join w) ≤ length w = join_short w in omega arith

slash_short : (sep : Bool) → length (slash sep) ≤ 1
slash_short true = omega arith
slash_short false = omega arith

bytes_short : (mem : Bytes) (n : Name) → (length (bytes mem n.scope) ≤ length mem) × (length (bytes mem n.word) ≤ length mem)
unfolding bytes
bytes_short mem n =
    (omega (arith, length-take n.scope.len (drop n.scope.at mem), length_drop_le n.scope.at mem), omega (arith, length-take n.word.len (drop n.word.at mem), length_drop_le n.word.at mem))
  where
    length_drop_le : (i : ℕ) (l : Bytes) → length (drop i l) ≤ length l
    length_drop_le zero l = omega arith
    length_drop_le (suc i) [] = omega arith
    length_drop_le (suc i) (x ∷ l) = let h : length (drop i l) ≤ length l = length_drop_le i l in omega arith

pub name_short : (mem : Bytes) (n : Name) → length (name_of mem n) ≤ 2 * length mem + 1
unfolding name_of
name_short mem n =
    omega (
      arith,
      (bytes_short mem n).0,
      (bytes_short mem n).1,
      entry_short n.form (bytes mem n.word),
      slash_short n.sep,
      length-append (bytes mem n.scope) (slash n.sep ++ entry_of n.form (bytes mem n.word)),
      length-append (slash n.sep) (entry_of n.form (bytes mem n.word)),
    )
