-- How a `Name` stands for a byte string: a scope, a slash, and a word or an entry of a list. Assumes nothing.
use Rattle.std.specs.Prelude.{Option, Some, None}
use Rattle.std.specs.Prelude.{ℕ, ◌+◌, ◌≤◌, max, ◌≡◌, Bool, true, false, cond, not, ◌&&◌, [], ◌∷◌, ◌++◌, eqb}
use Rattle.text.specs.Ascii.{Bytes, ascii}
use Rattle.spans.specs.Span.{bytes}
use Rattle.spans.specs.declared.span.Span.{Span}
use Rattle.entries.specs.Entry.{entry_bytes}
use Rattle.names.specs.Scoped.{scoped}
use Rattle.names.specs.declared.name.Name.{Name}
use Rattle.names.specs.declared.name.Form.{Form}
use Rattle.names.specs.declared.name.Form.TheVariants.{Word, Entry, Quoted}

abbrev pub named : Span → Bool → Span → Form → Name
named s p w f = record { scope = s; sep = p; word = w; form = f }

-- a word as it stands, an entry as it stands in a list, or a quoted entry of a list
abbrev pub entry_of : Form → Bytes → Bytes
entry_of Word w = w
entry_of Entry w = entry_bytes false w
entry_of Quoted w = entry_bytes true w

abbrev pub stands : Form → Bool
stands Word = true
stands Entry = false
stands Quoted = false

abbrev pub quotes : Form → Bool
quotes Word = false
quotes Entry = false
quotes Quoted = true

abbrev pub slash : Bool → Bytes
slash sep = cond sep (ascii "/") []

-- the scope, a slash, the word
unfoldable pub name_of : Bytes → Name → Bytes
name_of mem n = bytes mem n.scope ++ (slash n.sep ++ entry_of n.form (bytes mem n.word))

-- a name that is a word as it stands
abbrev pub is_word : Name → Bool
is_word n = eqb n.scope.len 0 && (not n.sep && stands n.form)

-- where a name ends
abbrev pub span_end : Span → ℕ
span_end s = s.at + s.len

abbrev pub name_end : Name → ℕ
name_end n = max (span_end n.scope) (span_end n.word)

-- ---- what is left, as the answer of a read tells it

-- of a word or an entry: its first byte, and the span without it
abbrev pub form_got : Form → Bytes → Option (ℕ × Span) → Bytes
form_got f mem (Some (b, w)) = b ∷ entry_of f (bytes mem w)
form_got f mem None = []

-- of a name
abbrev pub step_of : Bytes → Option (ℕ × Name) → Bytes
step_of mem (Some (b, n)) = b ∷ name_of mem n
step_of mem None = []

-- ---- a name that is made

-- r is the name of w below the scope, and ends where these end at the latest
pub record Makes (mem : Bytes) (scope w : Span) (form : Form) (r : Name) : Type 0 where
  pub is : name_of mem r ≡ scoped (bytes mem scope) (entry_of form (bytes mem w))
  pub ends : name_end r ≤ max (span_end scope) (span_end w)
