-- The file that a path names, by its number. Assumes nothing.
use Rattle.std.specs.Prelude.{ℕ, suc, ◌≤◌, ◌<◌, ◌≡◌, refl, Bool, true, false, cond, List, [], ◌∷◌, length, drop, Option, None, Some}
use Rattle.std.proofs.Common.{arith, ◌∙◌, drop_of_length-le}
use Rattle.text.specs.Ascii.{Bytes}
use Rattle.text.specs.Compare.{same}
use Rattle.text.specs.Sames.{same_eq}
use Rattle.joblines.specs.Job.{File}
use Rattle.jobindex.specs.Index.{path_at, body_at, file_at, rows}
use Rattle.jobindex.specs.Rows.{rows_length, rows_here}
use Rattle.read.specs.Reading.{file_named}

-- the number of the first file with a path, from 0; how many files there are, where none has it
unfoldable pub place_of : List File → Bytes → ℕ
place_of [] path = 0
place_of (f ∷ fs) path = cond (same f.path path) 0 (suc (place_of fs path))

-- ---- laws

pub place_le : (fs : List File) (p : Bytes) → place_of fs p ≤ length fs
unfolding place_of
place_le [] p = omega arith
place_le (f ∷ fs) p = go (same f.path p) (place_le fs p)
  where
    go : (t : Bool) → place_of fs p ≤ length fs → cond t 0 (suc (place_of fs p)) ≤ suc (length fs)
    go true h = omega arith
    go false h = omega arith

-- what stands there is the file that is named
abbrev pub body_of : List File → Option Bytes
body_of [] = None
body_of (f ∷ fs) = Some f.body

named_is : (fs : List File) (p : Bytes) → file_named fs p ≡ body_of (drop (place_of fs p) fs)
unfolding place_of file_named
named_is [] p = refl
named_is (f ∷ fs) p = go (same f.path p) (named_is fs p)
  where
    go : (t : Bool) → file_named fs p ≡ body_of (drop (place_of fs p) fs) → cond t (Some f.body) (file_named fs p) ≡ body_of (drop (cond t 0 (suc (place_of fs p))) (f ∷ fs))
    go true e = refl
    go false e = e

-- the file at its place has the path
abbrev pub PathIs : Bytes → List File → Type 0
PathIs p [] = Unit {0}
PathIs p (f ∷ fs) = f.path ≡ p

path_is : (fs : List File) (p : Bytes) → PathIs p (drop (place_of fs p) fs)
unfolding place_of
path_is [] p = tt
path_is (f ∷ fs) p = go (same f.path p) refl (path_is fs p)
  where
    go : (t : Bool) → same f.path p ≡ t → PathIs p (drop (place_of fs p) fs) → PathIs p (drop (cond t 0 (suc (place_of fs p))) (f ∷ fs))
    go true h e = same_eq f.path p h
    go false h e = e

module _ (job : Bytes) (index : List ℕ) (n r : ℕ) (p : Bytes) (e : r ≡ place_of (rows (file_at job index) n) p) where
  -- there is none
  pub none_named : r ≡ n → file_named (rows (file_at job index) n) p ≡ None
  none_named h =
      let l : length (rows (file_at job index) n) ≡ n = rows_length (file_at job index) n in
      named_is (rows (file_at job index) n) p ∙ rw (← e, drop_of_length-le (rows (file_at job index) n) {i = r} (omega arith))

  -- it is file r, and has the path
  pub one_named : r < n → file_named (rows (file_at job index) n) p ≡ Some (body_at job index r)
  one_named h = named_is (rows (file_at job index) n) p ∙ rw (← e, rows_here (file_at job index) n r h)

  pub one_path : r < n → path_at job index r ≡ p
  one_path h = rw (rows_here (file_at job index) n r h) at (rw (← e) at (path_is (rows (file_at job index) n) p))

  pub place_below : r ≤ n
  place_below = omega (arith, e, place_le (rows (file_at job index) n) p, rows_length (file_at job index) n)
