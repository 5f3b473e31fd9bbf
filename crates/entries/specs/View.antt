-- How an answer stands for what is left of a value or an entry. Assumes nothing.
use Rattle.std.specs.Prelude.{Option, Some, None}
use Rattle.spans.specs.declared.span.Span.{Span}
use Rattle.std.specs.Prelude.{ℕ, ◌+◌, ◌≤◌, ◌<◌, ◌≡◌, Bool, false, List, [], ◌∷◌, length, drop, get_or}
use Rattle.text.specs.Ascii.{Bytes}
use Rattle.spans.specs.Span.{bytes}
use Rattle.text.specs.Classes.{ends_plain}
use Rattle.tcl.specs.Join.{joint, joined_by}
use Rattle.entries.specs.Entry.{entry_bytes, entries_left}
use Rattle.entries.specs.declared.item.Item.{Item}

-- a word begins at i with the byte b
pub record Begins (v : Bytes) (i b : ℕ) : Type 0 where
  pub inside : i < length v
  pub is : b ≡ joined_by (joint (drop i v)) (get_or v i 0)
  pub word : ends_plain b ≡ false

-- the entries that are left, by the first of them
abbrev pub item_of : Bytes → Option Item → List Bytes
item_of v (Some r) = entry_bytes r.quoted (bytes v r.entry) ∷ entries_left false (drop r.next v)
item_of v None = []

abbrev pub item_end : Option Item → ℕ
item_end (Some r) = r.entry.at + r.entry.len
item_end None = 0

abbrev pub item_next : Option Item → ℕ
item_next (Some r) = r.next
item_next None = 0

-- t are the entries that are left of v, and r is what was found of them: the entry lies within v, and what is left begins behind v's end at the latest
pub record Finds (v : Bytes) (t : List Bytes) (r : Option Item) : Type 0 where
  pub is : t ≡ item_of v r
  pub within : item_end r ≤ length v
  pub next : item_next r ≤ length v + 1

-- the bytes of an entry by the first of them: what is left of an entry is again one
abbrev pub entry_got : Bool → Bytes → Option (ℕ × Span) → Bytes
entry_got q mem (Some (b, s)) = b ∷ entry_bytes q (bytes mem s)
entry_got q mem None = []

-- an instance, and no match of its own
abbrev pub join_got : Bytes → Option (ℕ × Span) → Bytes
join_got mem r = entry_got false mem r

-- the same where the entry lies in one slice
abbrev pub next_of : Bool → Bytes → Option (ℕ × ℕ) → Bytes
next_of q raw (Some (b, j)) = b ∷ entry_bytes q (drop j raw)
next_of q raw None = []
