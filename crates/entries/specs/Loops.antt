-- Laws for all who read the entries of a value in a loop: what an answer says, that fewer are left, and that they are few. Assumes nothing.
use Rattle.std.specs.Prelude.{Option, Some, None}
use Rattle.std.specs.Prelude.{ℕ, zero, suc, ◌+◌, ◌≤◌, ◌<◌, ◌≡◌, Bool, true, false, List, [], ◌∷◌, length, drop}
use Rattle.std.proofs.Common.{ap, ◌∙◌, arith, length-append}
use Rattle.std.proofs.lemmas.List.{length-map}
use Rattle.text.specs.Ascii.{Bytes}
use Rattle.spans.specs.Span.{bytes}
use Rattle.spans.specs.declared.span.Span.{Span}
use Rattle.tcl.specs.Join.{join}
use Rattle.tcl.specs.Words.{Kind, kind_of, size_of, words_of}
use Rattle.tcl.specs.Substitution.{value}
use Rattle.tcl.specs.Lists.{list}
use Rattle.tcl.specs.Rewrites.{join_short}
use Rattle.entries.specs.Entry.{entry_bytes, first_after, words_left, entries_left}
use Rattle.entries.specs.Together.{list_is}
use Rattle.entries.specs.View.{Finds}
use Rattle.entries.specs.declared.item.Item.{Item}

one_word : (k : Kind) (s : Bytes) → length (words_of k s) ≤ 1
unfolding words_of
one_word Kind.ends s = omega arith
one_word Kind.blank s = omega arith
one_word Kind.comment s = omega arith
one_word Kind.brace s = omega arith
one_word Kind.quote s = omega arith
one_word Kind.bracket s = omega arith
one_word Kind.other s = omega arith

few : (k : ℕ) (f : Bool) (xs : Bytes) → length (words_left k f xs) ≤ length xs
unfolding words_left
few k f [] = omega arith
few zero f (x ∷ xs) =
    let h : length (words_left (size_of (kind_of f x) xs) (first_after (kind_of f x) f) xs) ≤ length xs = few (size_of (kind_of f x) xs) (first_after (kind_of f x) f) xs in
    let g : length (words_of (kind_of f x) (x ∷ xs)) ≤ 1 = one_word (kind_of f x) (x ∷ xs) in
    rw length-append (omega arith)
few (suc k) f (x ∷ xs) = let h : length (words_left k f xs) ≤ length xs = few k f xs in omega arith

-- a value has at most as many entries as bytes
pub list_short : (v : Bytes) → length (list v) ≤ length v
list_short v = rw (list_is v) (omega (arith, length-map (words_left 0 true (join v)) (value []), few 0 true (join v), join_short v))

-- an answer read: the entry and what is left, one less; or nothing
module _ (v : Bytes) (t : List Bytes) (r : Option Item) (h : Finds v t r) where
  pub entries_none : r ≡ None → t ≡ []
  entries_none g = h.is ∙ rw g

  pub entries_first : (s : Span) (q : Bool) (e : ℕ) → r ≡ Some (record { entry = s; quoted = q; next = e }) → t ≡ entry_bytes q (bytes v s) ∷ entries_left false (drop e v)
  entries_first s q e g = h.is ∙ rw g

module _ (v : Bytes) (at : ℕ) (f : Bool) (r : Option Item) (h : Finds v (entries_left f (drop at v)) r) (s : Span) (q : Bool) (e : ℕ) (g : r ≡ Some (record { entry = s; quoted = q; next = e })) where
  pub one_more : length (entries_left f (drop at v)) ≡ 1 + length (entries_left false (drop e v))
  one_more = ap length h.is ∙ rw g (omega arith)

  pub entry_less : length (entries_left false (drop e v)) < length (entries_left f (drop at v))
  entry_less = omega (arith, one_more)
