-- What tells that the first part of a text is not a name, before the two are compared byte by byte: where the answer is true, it is not. Assumes nothing.
use Rattle.std.specs.Prelude.{ℕ, ◌≡◌, Bool, true, not, ◌&&◌, ◌++◌, eqb, None}
use Rattle.text.specs.Ascii.{Bytes}
use Rattle.spans.specs.Span.{bytes}
use Rattle.spans.specs.declared.span.Span.{Span}
use Rattle.names.specs.Name.{entry_of}
use Rattle.names.specs.declared.name.Form.{Form}
use Rattle.names.specs.Parts.{parts, behind}
use Rattle.refs.specs.Text.{text_of}
use Rattle.refs.specs.declared.Ref.{Ref}

-- of a word, in whatever form it is read and whatever stands behind it
pub record WordOff (mem : Bytes) (s : Span) (w : Bytes) (r : Bool) : Type 0 where
  pub is : r ≡ true → (f : Form) (q : Bytes) → None ≡ behind w (parts (entry_of f (bytes mem s) ++ q))

-- the text begins with a word
abbrev pub begins_plain : Ref → Bool
begins_plain r = not r.cut && (eqb r.name.scope.len 0 && not r.name.sep)

-- of a text
pub record TextOff (mem : Bytes) (x : Ref) (w : Bytes) (r : Bool) : Type 0 where
  pub is : r ≡ true → (job : Bytes) → None ≡ behind w (parts (text_of job mem x))
