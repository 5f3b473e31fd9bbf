-- The fields of a job's lines: NAME, PATH, D, DIR, KIND, style, NET (document 01, "The job comes in").
-- Assumes nothing.
use Prim.Native.String.{String}
use Rattle.std.specs.Prelude.{Bool, true, false, cond, not, ◌&&◌, ◌||◌, List, [], ◌∷◌, length, leb, Option, None, Some}
use Rattle.text.specs.Ascii.{Bytes, ascii, byte}
use Rattle.text.specs.Classes.{opens_name, in_name}
use Rattle.text.specs.Compare.{same}
use Rattle.text.specs.Scan.{all, split_at}
use Rattle.fields.specs.Limits.{most_name}

-- "NAME is 1 to 64 of letters, digits, `_`, `$`, not beginning with a digit or `$`."
unfoldable pub is_name : Bytes → Bool
is_name [] = false
is_name (b ∷ bs) = opens_name b && (all in_name bs && leb (length (b ∷ bs)) most_name)

-- "The PATH of `file` and `start` has parts without LF joined by `/`, none empty, `.` or `..`." (A line has no LF in it.)
unfoldable pub is_part : Bytes → Bool
is_part p = not (same p []) && (not (same p (ascii ".")) && not (same p (ascii "..")))

unfoldable pub is_path : Bytes → Bool
is_path p = all is_part (split_at (byte "/") p)

-- what a word stands for, by a table of words; nothing where it is none of them
abbrev pub among : {A : Type 0} → List (String × A) → Bytes → Option A
among [] w = None
among (r ∷ rs) w = cond (same w (ascii r.0)) (Some r.1) (among rs w)

-- "D is 1 for unpacked dimensions, else 0."
unfoldable pub dims_of : Bytes → Option Bool
dims_of w = among (("0", false) ∷ ("1", true) ∷ []) w

-- "DIR is `in`, `out`, `inout`, `ref`, `none`"
pub data Dir : Type 0 where
  input output inout ref undirected : Dir

unfoldable pub dir_of : Bytes → Option Dir
dir_of w = among (("in", input) ∷ ("out", output) ∷ ("inout", inout) ∷ ("ref", ref) ∷ ("none", undirected) ∷ []) w

-- "KIND is `net`, `data`, `odd` (real, string, event, chandle) or a body port's `in`, `out`, `inout`, `ref`."
pub data Kind : Type 0 where
  net variable odd : Kind
  body : Dir → Kind

unfoldable pub kind_of : Bytes → Option Kind
kind_of w =
    among
    (("net", net) ∷ ("data", variable) ∷ ("odd", odd)
    ∷ ("in", body input) ∷ ("out", body output) ∷ ("inout", body inout) ∷ ("ref", body ref) ∷ [])
    w

-- "`style=ansi|nonansi|empty`"
pub data Style : Type 0 where
  ansi nonansi empty : Style

unfoldable pub style_of : Bytes → Option Style
style_of w = among (("ansi", ansi) ∷ ("nonansi", nonansi) ∷ ("empty", empty) ∷ []) w

-- "NET `-` means not a plain identifier"; any other NET is a NAME
unfoldable pub is_net : Bytes → Bool
is_net w = is_name w || same w (ascii "-")
