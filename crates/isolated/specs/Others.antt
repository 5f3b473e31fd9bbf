-- What tells two ports apart before they are compared byte by byte: where the answer is true, they are not the same. Assumes nothing.
use Rattle.std.specs.Prelude.{ℕ, ◌≡◌, Bool, true, false, not, ◌&&◌, ◌||◌, ◌++◌, eqb}
use Rattle.text.specs.Ascii.{Bytes}
use Rattle.text.specs.Compare.{same}
use Rattle.spans.specs.Span.{bytes}
use Rattle.spans.specs.declared.span.Span.{Span}
use Rattle.names.specs.Name.{entry_of, name_of}
use Rattle.names.specs.declared.name.Name.{Name}
use Rattle.names.specs.declared.name.Form.{Form}
use Rattle.refs.specs.Text.{text_of}
use Rattle.isolated.specs.Table.{port_ref}
use Rattle.isolated.specs.declared.Isolated.{Isolated}

-- words, in whatever forms they are read and whatever stands behind them
pub record WordsApart (mem : Bytes) (s t : Span) (r : Bool) : Type 0 where
  pub is : r ≡ true → (f g : Form) (p q : Bytes) → false ≡ same (entry_of f (bytes mem s) ++ p) (entry_of g (bytes mem t) ++ q)

-- one scope, by its place; a slash behind it in both or in none
abbrev pub one_scope : Name → Name → Bool
one_scope a b = (eqb a.scope.at b.scope.at && eqb a.scope.len b.scope.len) && ((a.sep && b.sep) || (not a.sep && not b.sep))

-- names, whatever stands behind them
pub record NamesApart (mem : Bytes) (a b : Name) (r : Bool) : Type 0 where
  pub is : r ≡ true → (p q : Bytes) → false ≡ same (name_of mem a ++ p) (name_of mem b ++ q)

-- ports
pub record Other (job mem : Bytes) (x y : Isolated) (r : Bool) : Type 0 where
  pub is : r ≡ true → false ≡ same (text_of job mem (port_ref x)) (text_of job mem (port_ref y))
