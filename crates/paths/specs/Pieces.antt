-- A path in its pieces: what stands before the names below a module's path, and the retained entries that may equal a path.
-- Assumes nothing.
use Rattle.std.specs.Prelude.{ℕ, ◌+◌, ◌<◌, ◌^◌, ◌≡◌, refl, Bool, cond, not, List, [], ◌∷◌, ◌++◌, length}
use Rattle.std.proofs.Common.{sym, append_assoc}
use Rattle.text.specs.Ascii.{Bytes, byte}
use Rattle.text.specs.Compare.{same}
use Rattle.design.specs.Lists.{those}
use Rattle.design.specs.Paths.{child_path}
use Rattle.names.specs.Name.{name_of}
use Rattle.names.specs.declared.name.Name.{Name}

-- "the empty one under a scope other than the top equals no path": the entries that count, for paths relative to the scope
abbrev pub entries_below : Bool → List Bytes → List Bytes
entries_below below es = cond below (those (λ e. not (same e [])) es) es

-- "parted by dots; what is empty altogether adds no dot": what stands before a name below a path
abbrev pub stem : Bytes → Bytes
stem [] = []
stem (b ∷ p) = (b ∷ p) ++ (byte "." ∷ [])

pub stem_child : (p n : Bytes) → child_path p n ≡ stem p ++ n
stem_child [] n = refl
stem_child (b ∷ p) n = sym (append_assoc (b ∷ p) (byte "." ∷ []) n)

-- the element's length is at hand, and the path is not too long to count
pub record Sized (mem : Bytes) (e : Name) (elen : ℕ) (tail name : Bytes) : Type 0 where
  pub is : elen ≡ length (name_of mem e)
  pub fits : elen + (length tail + length name) < 2 ^ 40
