-- Laws: sections of the job, cut at the places that a step along its lines finds.
-- Assumes nothing.
use Rattle.std.specs.Prelude.{◌≡◌, refl, ℕ, zero, suc, ◌+◌, ◌-◌, ◌<◌, ◌≤◌, Bool, true, false, cond, [], ◌∷◌, ◌++◌, length, take, drop, eqb, leb}
use Rattle.std.proofs.Common.{ap, ◌∙◌, sym, suc-add, arith, length-take, length-drop, take-append-drop, take-take, drop-drop, length-take-le, le-ltb, eqb-true, leb-true, leb-false, Fits}
use Rattle.std.proofs.Math.Nat.{sub-zero}
use Rattle.std.specs.Int.{w64}
use Rattle.text.specs.Ascii.{Bytes, byte}
use Rattle.text.specs.Scan.{before, up_to, Ends}
use Rattle.text.specs.Lists.{drop_take, take_none}
use Rattle.joblines.specs.Sections.{lines_in, gather, ports_in}
use Rattle.joblines.specs.Scanned.{Whole, whole_none, whole_append, whole_line, lines_none, lines_at}
use Rattle.jobindex.specs.Index.{bytes_at, section}
use Rattle.lines.specs.Cursors.{Cut, Stepped}

module _ (job : Bytes) (a b e : ℕ) where
  pub section_rest : a ≤ b → b ≤ e → drop (b - a) (section job a e) ≡ section job b e
  section_rest h g =
      let n : e - a - (b - a) ≡ e - b = omega arith in
      let m : a + (b - a) ≡ b = omega arith in
      drop_take (b - a) (e - a) (drop a job) ∙ rw (n, drop-drop (b - a) a job, m)

  pub section_front : b ≤ e → take (b - a) (section job a e) ≡ section job a b
  section_front h = take-take (b - a) (e - a) (drop a job) (omega arith)

  pub section_two : a ≤ b → b ≤ e → section job a e ≡ section job a b ++ section job b e
  section_two h g = sym (take-append-drop (b - a) (section job a e)) ∙ rw (section_front g, section_rest h g)

pub section_none : (job : Bytes) (a e : ℕ) → e ≤ a → section job a e ≡ []
section_none job a e h = let z : e - a ≡ 0 = omega arith in rw z

pub no_ports : (job : Bytes) (a : ℕ) → ports_in (section job a a) ≡ []
unfolding lines_in gather
no_ports job a = rw (section_none job a a (omega arith))

pub section_long : (job : Bytes) (a e : ℕ) → length (section job a e) ≤ e - a
section_long job a e = omega (arith, length-take (e - a) (drop a job))

pub section_inside : (job : Bytes) (a e : ℕ) → length (section job a e) ≤ length job - a
section_inside job a e = omega (arith, length-take (e - a) (drop a job), length-drop a job)

-- ---- a line up to its LF has no LF
abbrev lf : ℕ
lf = byte "\n"

clean : (s : Bytes) → up_to lf (take (up_to lf s) s) ≡ length (take (up_to lf s) s)
unfolding before
clean [] = refl
clean (x ∷ s) = go (eqb x lf) refl (clean s)
  where
    go : (q : Bool) → eqb x lf ≡ q → up_to lf (take (up_to lf s) s) ≡ length (take (up_to lf s) s) → up_to lf (take (cond q 0 (suc (up_to lf s))) (x ∷ s)) ≡ length (take (cond q 0 (suc (up_to lf s))) (x ∷ s))
    go true e f = refl
    go false e f = rw (e, f)

ended : (s : Bytes) → up_to lf s < length s → take (up_to lf s + 1) s ≡ take (up_to lf s) s ++ (lf ∷ [])
unfolding before
ended [] h = absurd (omega arith)
ended (x ∷ s) h = go (eqb x lf) refl (λ g. ended s g) h
  where
    go : (q : Bool) → eqb x lf ≡ q → (up_to lf s < length s → take (up_to lf s + 1) s ≡ take (up_to lf s) s ++ (lf ∷ [])) → cond q 0 (suc (up_to lf s)) < suc (length s)
        → take (cond q 0 (suc (up_to lf s)) + 1) (x ∷ s) ≡ take (cond q 0 (suc (up_to lf s))) (x ∷ s) ++ (lf ∷ [])
    go true e f g = ap (λ n. n ∷ []) (eqb-true x lf e)
    go false e f g = rw (suc-add, f (omega arith))

whole_ended : (s : Bytes) → up_to lf s < length s → Whole (take (up_to lf s + 1) s)
whole_ended s h = rw (ended s h) (whole_line (take (up_to lf s) s) (clean s))

-- ---- the line from `at` on, as a scan of the section s finds its LF
cut_none : (job : Bytes) (at end : ℕ) → lines_in (section job at end) ≡ [] → Cut job at end end
cut_none job at end h =
    record {
      none = λ g. h;
      from = λ g. absurd (omega arith);
      there = λ g. absurd (omega arith);
      line = λ g. absurd (omega arith);
      whole = λ g. absurd (omega arith);
    }

module _ (job : Bytes) (at end : ℕ) where
  pub cut_empty : end ≤ at → Cut job at end end
  unfolding lines_in
  cut_empty h = cut_none job at end (rw (section_none job at end h))

  module _ (s : Bytes) (es : s ≡ take (end - at) (drop at job)) (n : ℕ) (ends : Ends (0 + up_to lf (drop 0 s)) (length s) n) where
    pub cut_last : n ≡ length s → Cut job at end end
    cut_last h = cut_none job at end (rw es at (lines_none s (le-ltb (up_to lf s) (length s) (omega (arith, ends.is_at)))))

    pub cut_fits : (n ≡ length s → ⊥) → at + n < length job
    cut_fits h = omega (arith, ends.within, ap length es, section_inside job at end)

    pub cut_room : Fits w64 end → (n ≡ length s → ⊥) → Fits w64 (at + n)
    cut_room f h = record { fits = omega (arith, f.fits, ends.within, ap length es, section_long job at end) }

    module _ (g : at < end) (h : n ≡ length s → ⊥) where
      inside : (n < end - at) × ((at + n < length job) × (n < length s))
      inside = (omega (arith, ends.within, ap length es, section_long job at end), (cut_fits h, omega (arith, ends.within)))

      pub cut_here : Cut job at end (at + n)
      cut_here =
          let i = inside in
          let here : n ≡ up_to lf s = omega (arith, ends.is_at) in
          let z : at + n - at ≡ n = omega arith in
          let y : at + n + 1 - at ≡ n + 1 = omega arith in
          let front : take n s ≡ section job at (at + n) = rw (z, es) (take-take n (end - at) (drop at job) (omega (arith, i.0))) in
          let front1 : take (n + 1) s ≡ section job at (at + n + 1) = rw (y, es) (take-take (n + 1) (end - at) (drop at job) (omega (arith, i.0))) in
          let rest : drop (n + 1) s ≡ section job (at + n + 1) end = rw (es, ← y) (section_rest job at (at + n + 1) end (omega arith) (omega (arith, i.0))) in
          record {
            none = λ k. absurd (omega (arith, i.0));
            from = λ k. omega arith;
            there = λ k. i.1.0;
            line = λ k. ap lines_in (sym es) ∙ (lines_at s 0 n ends.is_at i.1.1 ∙ rw (sub-zero, front, rest));
            whole = λ k. rw (← front1, here) (whole_ended s (omega (arith, i.1.1)));
          }

-- ---- lines passed over: from `at` to i
pub record Passed (job : Bytes) (at i : ℕ) : Type 0 where
  pub from : at ≤ i
  pub whole : Whole (section job at i)

pub passed_none : (job : Bytes) (at : ℕ) → Passed job at at
passed_none job at = record { from = omega arith; whole = rw (section_none job at at (omega arith)) whole_none }

pub passed_on : (job : Bytes) (at i j : ℕ) → Passed job at i → i ≤ j → Whole (section job i j) → Passed job at j
passed_on job at i j p h w = record { from = omega (arith, p.from); whole = rw (section_two job at i j p.from h) (whole_append (section job at i) (section job i j) p.whole w) }

pub stepped_on : (job : Bytes) (at i j end : ℕ) → Passed job at i → Stepped job i end j → Passed job at j
stepped_on job at i j end p s = passed_on job at i j p (omega (arith, s.further)) s.whole

-- ---- a part of a line's value v, which is the job from i up to e
module _ (job : Bytes) (i e : ℕ) (v : Bytes) (ev : v ≡ drop 5 (section job i e)) (h : i ≤ e) (g : e ≤ length job) where
  rest_of : (n : ℕ) → drop n v ≡ take (e - i - (5 + n)) (drop (i + (5 + n)) job)
  rest_of n = rw (ev, drop-drop n 5 (section job i e), drop_take (5 + n) (e - i) (drop i job), drop-drop (5 + n) i job)

  pub span_is : (n l : ℕ) → bytes_at job (e - length (drop n v)) (length (take l (drop n v))) ≡ take l (drop n v)
  span_is n l = go (leb (5 + n) (e - i)) refl
    where
      long : length (drop n v) ≡ length (take (e - i - (5 + n)) (drop (i + (5 + n)) job))
      long = ap length (rest_of n)

      go : (q : Bool) → leb (5 + n) (e - i) ≡ q → bytes_at job (e - length (drop n v)) (length (take l (drop n v))) ≡ take l (drop n v)
      go true t =
          let b = leb-true (5 + n) (e - i) t in
          let m : length (take (e - i - (5 + n)) (drop (i + (5 + n)) job)) ≡ e - i - (5 + n) = length-take-le (e - i - (5 + n)) (drop (i + (5 + n)) job) (omega (arith, length-drop (i + (5 + n)) job)) in
          let at : e - length (drop n v) ≡ i + (5 + n) = omega (arith, long, m) in
          rw (at, rest_of n) (take_front l (e - i - (5 + n)) (drop (i + (5 + n)) job))
        where
          take_front : (l k : ℕ) (z : Bytes) → take (length (take l (take k z))) z ≡ take l (take k z)
          take_front zero k z = refl
          take_front (suc l) zero z = refl
          take_front (suc l) (suc k) [] = refl
          take_front (suc l) (suc k) (x ∷ z) = ap (λ (r : Bytes). x ∷ r) (take_front l k z)
      go false t =
          let b = leb-false (5 + n) (e - i) t in
          let z : e - i - (5 + n) ≡ 0 = omega arith in
          let none : drop n v ≡ [] = rest_of n ∙ rw z in
          rw (none, take_none l)

  pub value_short : length v ≤ e
  value_short = omega (arith, ap length ev, length-drop 5 (section job i e), section_long job i e)
