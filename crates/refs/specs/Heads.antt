-- A text without its part of the job, and what tells two texts apart by their ends. Assumes nothing.
use Rattle.std.specs.Prelude.{◌≡◌, Bool, false, true, not, ◌&&◌, ◌||◌, List, [], ◌∷◌, ◌++◌, eqb}
use Rattle.text.specs.Ascii.{Bytes}
use Rattle.text.specs.Compare.{same}
use Rattle.names.specs.Name.{stands, is_word}
use Rattle.refs.specs.Text.{ref_of}
use Rattle.refs.specs.declared.Ref.{Ref}

-- whether a list has something
abbrev pub is_there : {A : Type 0} → List A → Bool
is_there [] = false
is_there (x ∷ xs) = true

abbrev pub head_ref : Ref → Ref
head_ref r = ref_of r.name r.cut r.upto r.sep r.last 0 0

-- the name is whole, and nothing but a slash stands behind it
abbrev pub is_bare : Ref → Bool
is_bare r = not r.cut && ((eqb r.last.scope.len 0 && eqb r.last.word.len 0) && (not r.last.sep && stands r.last.form))

-- the text is a whole name
abbrev pub is_name : Ref → Bool
is_name r = is_bare r && (not r.sep && eqb r.len 0)

-- the text is a word as it stands
abbrev pub is_plain : Ref → Bool
is_plain r = is_name r && is_word r.name

-- a slash in both or in none
abbrev pub one_slash : Bool → Bool → Bool
one_slash a b = (a && b) || (not a && not b)

-- where r is true, texts that end so are not the same
pub record Apart (u v : Bytes) (r : Bool) : Type 0 where
  pub is : r ≡ true → (p q : Bytes) → false ≡ same (p ++ u) (q ++ v)
