-- A line of the job: its value's place, and the section that it ends.
-- Assumes nothing.
use mathlib.Core.Path.{◌≡◌, refl, ap, ◌∙◌, sym}
use Prim.Native.Nat.{ℕ, suc, ◌+◌, ◌-◌, ◌<◌, ◌≤◌}
use native.Mathlib.Omega.{arith}
use mathlib.Core.Bool.{Bool, true, false, cond}
use mathlib.Core.List.{[], ◌∷◌, ◌++◌}
use lib.ListN.{length, take, drop, get_or, length-drop}
use lib.Dec.{eqb}
use lib.Seq.{drop-drop, length-take-le, take-add, take-suc}
use borrow.Author.Tests.{eqb-true}
use Rattle.text.specs.Ascii.{Bytes, byte}
use Rattle.text.specs.Scan.{before, up_to}
use Rattle.text.specs.Lists.{drop_take}
use Rattle.joblines.specs.Sections.{lines_in}
use Rattle.joblines.specs.Scanned.{Whole, whole_none, whole_append, whole_line, lines_more}
use Rattle.jobindex.specs.Index.{bytes_at, section}
use Rattle.jobsteps.specs.State.{IsLine, line_of}

-- what stands before the first b has no b
front_free : (b : ℕ) (s : Bytes) → up_to b (take (up_to b s) s) ≡ up_to b s
unfolding before
front_free b [] = refl
front_free b (x ∷ s) = go (eqb x b) refl (front_free b s)
  where
    go : (q : Bool) → eqb x b ≡ q → up_to b (take (up_to b s) s) ≡ up_to b s → up_to b (take (cond q 0 (suc (up_to b s))) (x ∷ s)) ≡ cond q 0 (suc (up_to b s))
    go true e f = refl
    go false e f = rw (e, f)

found : (b : ℕ) (s : Bytes) → up_to b s < length s → get_or s (up_to b s) 0 ≡ b
unfolding before
found b [] h = absurd (omega arith)
found b (x ∷ s) h = go (eqb x b) refl (λ l. found b s l) h
  where
    go : (q : Bool) → eqb x b ≡ q → (up_to b s < length s → get_or s (up_to b s) 0 ≡ b) → cond q 0 (suc (up_to b s)) < suc (length s) → get_or (x ∷ s) (cond q 0 (suc (up_to b s))) 0 ≡ b
    go true e f l = eqb-true x b e
    go false e f l = f (omega arith)

-- ---- nothing, from a place up to it
pub section_none : (job : Bytes) (n : ℕ) → section job n n ≡ []
section_none job n = let z : n - n ≡ 0 = omega arith in rw z

pub section_whole : (job : Bytes) (n : ℕ) → Whole (section job n n)
section_whole job n = rw (section_none job n) whole_none

module _ (job : Bytes) (from end : ℕ) (L : IsLine job from end) where
  size : up_to (byte "\n") (drop from job) ≡ end - from
  size = omega (arith, L.ends)

  pub from_end : from ≤ end
  from_end = omega (arith, L.ends)

  pub line_length : length (line_of job from end) ≡ end - from
  line_length = length-take-le (end - from) (drop from job) (omega (arith, length-drop from job, from_end, L.inside))

  -- the value that stands k bytes behind the line's first
  pub value_is : (k : ℕ) → bytes_at job (from + k) (length (drop k (line_of job from end))) ≡ drop k (line_of job from end)
  value_is k =
      rw (length-drop k (line_of job from end), line_length, drop_take k (end - from) (drop from job), drop-drop k from job)

  line_free : up_to (byte "\n") (line_of job from end) ≡ length (line_of job from end)
  line_free = ap (λ n. up_to (byte "\n") (take n (drop from job))) (sym size) ∙ (front_free (byte "\n") (drop from job) ∙ (size ∙ sym line_length))

  line_lf : get_or (drop from job) (end - from) 0 ≡ byte "\n"
  line_lf = ap (λ n. get_or (drop from job) n 0) (sym size) ∙ found (byte "\n") (drop from job) (omega (arith, size, length-drop from job, from_end, L.inside))

  -- the line with its LF
  line_whole : section job from (end + 1) ≡ line_of job from end ++ (byte "\n" ∷ [])
  line_whole =
      let n : end + 1 - from ≡ suc (end - from) = omega (arith, from_end) in
      rw (n, take-suc (drop from job) (end - from) 0 (omega (arith, length-drop from job, from_end, L.inside)), line_lf)

  module _ (a : ℕ) (h : a ≤ from) where
    pub section_more : section job a (end + 1) ≡ section job a from ++ (line_of job from end ++ (byte "\n" ∷ []))
    section_more =
        let n : end + 1 - a ≡ from - a + (end + 1 - from) = omega (arith, from_end) in
        let m : a + (from - a) ≡ from = omega arith in
        rw (n, take-add (from - a) (end + 1 - from) (drop a job), drop-drop (from - a) a job, m) (ap (λ l. section job a from ++ l) line_whole)

    module _ (w : Whole (section job a from)) where
      pub lines_grow : lines_in (section job a (end + 1)) ≡ lines_in (section job a from) ++ (line_of job from end ∷ [])
      lines_grow = rw section_more (lines_more (section job a from) (line_of job from end) w line_free)

      pub whole_grow : Whole (section job a (end + 1))
      whole_grow = rw section_more (whole_append (section job a from) (line_of job from end ++ (byte "\n" ∷ [])) w (whole_line (line_of job from end) line_free))
