-- What a word comes to, and where it lies: laws as the needs ask them. Assumes nothing.
use Rattle.std.specs.Prelude.{Result, Ok, Err}
use Rattle.substitution.specs.declared.put.Full.{Full}
use Rattle.substitution.specs.Room.{full}
use Prim.Native.Nat.{◌+◌, ◌-◌, ◌<◌, ◌≤◌, suc, ℕ}
use mathlib.Core.Bool.{Bool, ◌&&◌, ◌||◌, cond, false, true}
use mathlib.Core.Path.{◌∙◌, ◌≡◌, ap, refl, sym}
use mathlib.Core.List.{List, [], ◌++◌, ◌∷◌}
use native.Mathlib.Omega.{arith}
use lib.Seq.{drop-append-add, drop-append-le, drop_at, drop-drop, length-take-le, take_all, take-append-le, take-take}
use lib.ListN.{get_or-eq_default, drop, get_or, length, length-drop, length-take, take}
use lib.Dec.{eqb, leb}
use borrow.Author.Tests.{le-ltb, leb-false, leb-true, lt-ltb, ne_eqb}
use borrow.Author.Rules.{rules}
use Rattle.spans.specs.declared.span.Span.{Span}
use Rattle.commands.specs.Stored.{Filed, Placed, PlacedAt, PlacedOver, as_written, written_at}
use Rattle.commands.specs.Reading.{result}
use Rattle.tcl.specs.Words.{Kind, kind_of, other, plain}
use Rattle.substitution.specs.Puts.{puts_ends, puts_over, puts_within, puts_wrote}
use Rattle.text.specs.Scan.{Ends, before, up_to}
use Rattle.spans.specs.Writes.{wrote_front, wrote_none}
use Rattle.tcl.specs.Substitution.{Variable, has_dollar, known, piece_more, piece_name, substitute, value}
use Rattle.text.specs.Lists.{drop_take}
use Rattle.text.specs.Classes.{is_space}
use Rattle.spans.specs.Span.{◌⋯◌, bytes}
use Rattle.text.specs.Ascii.{byte}
use Rattle.substitution.specs.Put.{Puts}
use Rattle.substitution.specs.Written.{written}
use Rattle.tcl.specs.Rewrite.{rewrite}
use Rattle.spans.specs.Area.{Wrote}
use Rattle.spans.specs.Reach.{filed, stored, reach_held}

-- ---- in the area

at_end_lem : (files l : List ℕ) (o : ℕ) (all : List ℕ) → o ≤ length l → bytes (files ++ (take o l ++ all)) ((length files + o) ⋯ length all) ≡ all
unfolding bytes
at_end_lem files l o all h =
    rw (drop-append-add files (take o l ++ all) o, drop_at (take o l) all o (length-take-le o l h)) (take_all (length all) all (omega arith))

module _ (files l₀ l : List ℕ) (o limit : ℕ) (all : List ℕ) (p : Result ℕ Full) (w : Puts l₀ l o limit all p) where
  pub area_placed : (e : ℕ) → p ≡ Ok e → limit ≤ length l₀ → PlacedAt files l₀ l o limit all all ((length files + o) ⋯ (e - o)) e
  area_placed e g h =
      let v : Wrote l₀ l o all e = puts_wrote l₀ l o limit all p w e g in
      let m : e ≤ limit = puts_within l₀ l o limit all p w e g in
      let z : e - o ≡ length all = omega (arith, v.ends) in
      let k : e ≤ length l₀ = omega arith in
      let n : o ≤ length l₀ = omega (arith, v.ends) in
      record {
        is = rw (wrote_front l₀ l o all e v k, z) (at_end_lem files l₀ o all n);
        wrote = v;
        fits = m;
        inside = rw (reach_held (length files) ((length files + o) ⋯ (e - o)) (stored (omega arith))) (omega (arith, v.ends));
      }

  pub area_over : p ≡ Err full → PlacedOver l₀ l o limit all
  area_over g = record { over = puts_over l₀ l o limit all p w g; kept = w.kept; back = w.back }

  pub area_up : (e : ℕ) → p ≡ Ok e → o ≤ e
  area_up e g = omega (arith, puts_ends l₀ l o limit all p w e g)

pub ruleset areas = (rules, area_placed, area_over, area_up)

-- ---- in the files

pub in_files : (files x : List ℕ) (at len : ℕ) → at + len ≤ length files → bytes (files ++ x) (at ⋯ len) ≡ take len (drop at files)
unfolding bytes
in_files files x at len h =
    let a : at ≤ length files = omega arith in
    let b : len ≤ length (drop at files) = rw length-drop (omega arith) in
    rw (drop-append-le at files x a, take-append-le len (drop at files) x b)

pub filed_at : (files l p : List ℕ) (at o limit : ℕ) → p ≡ take (length p) (drop at files) → at + length p ≤ length files → o ≤ limit → PlacedAt files l l o limit p [] (at ⋯ length p) o
filed_at files l p at o limit e h g =
    record {
      is = in_files files (take o l) at (length p) h ∙ sym e;
      wrote = wrote_none l o;
      fits = g;
      inside = rw (reach_held (length files) (at ⋯ length p) (filed h)) (omega arith);
    }

-- a plain word without `$` is what it is written
plain_same : (vs : List Variable) (b : List ℕ) → length b ≤ up_to (byte "$") b → substitute vs b ≡ b
unfolding rewrite before piece_more piece_name known
plain_same vs [] h = refl
plain_same vs (x ∷ b) h = go (eqb x (byte "$")) refl h (λ g. plain_same vs b g)
  where
    go : (t : Bool) → eqb x (byte "$") ≡ t → suc (length b) ≤ cond t 0 (suc (before (λ (y : ℕ). eqb y (byte "$")) b)) → (length b ≤ before (λ (y : ℕ). eqb y (byte "$")) b → substitute vs b ≡ b) → substitute vs (x ∷ b) ≡ x ∷ b
    go true e g f = absurd (omega arith)
    go false e g f = rw e (ap (λ (r : List ℕ). x ∷ r) (f (omega arith)))

module _ (files l₀ l body : List ℕ) (vs : List Variable) (o limit e : ℕ) (d : Ends (0 + up_to (byte "$") (drop 0 body)) (length body) e) where
  pub plain_dollar : (r : Result (Span × ℕ) Full) → Placed files l₀ l o limit (substitute vs (written false body)) (substitute vs (written false body)) r → e < length body → Placed files l₀ l o limit (substitute vs body) (cond (has_dollar body) (substitute vs body) []) r
  unfolding written
  plain_dollar r p h =
      let k : up_to (byte "$") body < length body = omega (arith, d.is_at) in
      rw (lt-ltb (up_to (byte "$") body) (length body) k) p

module _ (files l body : List ℕ) (vs : List Variable) (o limit e : ℕ) (d : Ends (0 + up_to (byte "$") (drop 0 body)) (length body) e) where
  pub plain_none : (at : ℕ) → body ≡ take (length body) (drop at files) → at + length body ≤ length files → o ≤ limit → length body ≤ e → PlacedAt files l l o limit (substitute vs body) (cond (has_dollar body) (substitute vs body) []) (at ⋯ length body) o
  plain_none at a b c h =
      let k : length body ≤ up_to (byte "$") body = omega (arith, d.is_at) in
      rw (le-ltb (up_to (byte "$") body) (length body) k, plain_same vs body k) (filed_at files l body at o limit a b c)

pub ruleset plains = (rules, plain_dollar, plain_none)

-- ---- by its first byte

pub front_is : (p ys : List ℕ) (n : ℕ) → p ≡ take n ys → take (length p) ys ≡ p
front_is p ys n e = go (leb n (length ys)) refl
  where
    go : (t : Bool) → leb n (length ys) ≡ t → take (length p) ys ≡ p
    go true g = let h : n ≤ length ys = leb-true n (length ys) g in let q : length p ≡ n = ap length e ∙ length-take-le n ys h in rw q (sym e)
    go false g =
        let h : length ys ≤ n = let k : length ys < n = leb-false n (length ys) g in omega arith in
        let q : p ≡ ys = e ∙ take_all n ys h in
        rw (← q) (take_all (length p) p (omega arith))

-- a part of the text is a part of the files
module _ (files : List ℕ) (base : ℕ) (t : List ℕ) (f : Filed files base t) (p : List ℕ) (a n : ℕ) (e : p ≡ take n (drop a t)) (h : a ≤ length t) where
  part_in : a + length p ≤ length t
  part_in =
      let l : length (take n (drop a t)) ≤ length (drop a t) = rw length-take (omega arith) in
      omega (arith, ap length e, l, length-drop a t)

  pub part_fits : base + a + length p ≤ length files
  part_fits = omega (arith, part_in, f.inside)

  pub part_files : p ≡ take (length p) (drop (base + a) files)
  part_files =
      let g : length p ≤ length t - a = omega (arith, part_in) in
      sym (front_is p (drop a t) n e) ∙ rw f.is (ap (λ (x : List ℕ). take (length p) x) (drop_take a (length t) (drop base files)) ∙ take-take (length p) (length t - a) (drop a (drop base files)) g ∙ rw (drop-drop a base files))

some_byte : (t : List ℕ) (a c : ℕ) → c ≡ get_or t a 0 → 1 ≤ c → a < length t
some_byte t a c e h = go (leb (length t) a) refl
  where
    go : (b : Bool) → leb (length t) a ≡ b → a < length t
    go true g = let l : length t ≤ a = leb-true (length t) a g in absurd (omega (arith, e, get_or-eq_default t 0 l))
    go false g = leb-false (length t) a g

module _ (files : List ℕ) (base : ℕ) (t : List ℕ) (f : Filed files base t) (s : Span) (whole : List ℕ) (a : whole ≡ take (s.len + 1) (drop s.at t)) (h : s.at + s.len ≤ length t) where
  low : s.at ≤ length t
  low = omega arith

  pub whole_fits : base + s.at + length whole ≤ length files
  whole_fits = part_fits files base t f whole s.at (s.len + 1) a low

  pub whole_files : whole ≡ take (length whole) (drop (base + s.at) files)
  whole_files = part_files files base t f whole s.at (s.len + 1) a low

module _ (files : List ℕ) (base : ℕ) (t : List ℕ) (f : Filed files base t) (s : Span) (vs : List Variable) (c : ℕ) (k : c ≡ get_or t s.at 0) where
  pub word_brace : (l inner : List ℕ) (m o limit : ℕ) → inner ≡ take m (drop (s.at + 1) t) → m ≡ s.len - 1 → c ≡ byte "{" → o ≤ limit → PlacedAt files l l o limit (value vs (written_at t s)) (result vs (written_at t s)) ((base + s.at + 1) ⋯ length inner) o
  unfolding written_at kind_of
  word_brace l inner m o limit a b z h =
      let g : s.at < length t = some_byte t s.at c k (omega arith) in
      let g' : s.at + 1 ≤ length t = omega arith in
      let q : base + (s.at + 1) ≡ base + s.at + 1 = omega arith in
      let u : inner ≡ take (length inner) (drop (base + s.at + 1) files) = rw q at (part_files files base t f inner (s.at + 1) m a g') in
      let v : base + s.at + 1 + length inner ≤ length files = rw q at (part_fits files base t f inner (s.at + 1) m a g') in
      rw (← k, z, ← b, ← a) (filed_at files l inner (base + s.at + 1) o limit u v h)

  pub word_quote : (l₀ l inner : List ℕ) (m o limit : ℕ) (r : Result (Span × ℕ) Full) → Placed files l₀ l o limit (substitute vs (written true inner)) (substitute vs (written true inner)) r → inner ≡ take m (drop (s.at + 1) t) → m ≡ s.len - 1 → c ≡ byte "\"" → Placed files l₀ l o limit (value vs (written_at t s)) (result vs (written_at t s)) r
  unfolding written_at kind_of written
  word_quote l₀ l inner m o limit r p a b z = rw (← k, z, ← b, ← a) p

  module _ (whole : List ℕ) (a : whole ≡ take (s.len + 1) (drop s.at t)) (h : s.at + s.len ≤ length t) where
    pub word_bracket : (l : List ℕ) (o limit : ℕ) → c ≡ byte "[" → o ≤ limit → PlacedAt files l l o limit (value vs (written_at t s)) (result vs (written_at t s)) ((base + s.at) ⋯ length whole) o
    unfolding written_at kind_of
    word_bracket l o limit z g = rw (← k, z, ← a) (filed_at files l whole (base + s.at) o limit (whole_files files base t f s whole a h) (whole_fits files base t f s whole a h) g)

  pub word_plain : (l₀ l whole : List ℕ) (o limit : ℕ) (r : Result (Span × ℕ) Full) → Placed files l₀ l o limit (substitute vs whole) (cond (has_dollar whole) (substitute vs whole) []) r → whole ≡ take (s.len + 1) (drop s.at t) → (c ≡ byte "{" → ⊥) → (c ≡ byte "\"" → ⊥) → (c ≡ byte "[" → ⊥) → Placed files l₀ l o limit (value vs (written_at t s)) (result vs (written_at t s)) r
  unfolding written_at kind_of
  word_plain l₀ l whole o limit r p a x y z =
      let other : written_at t s ≡ plain (take (s.len + 1) (drop s.at t)) = rw (← k, ne_eqb c (byte "{") x, ne_eqb c (byte "\"") y, ne_eqb c (byte "[") z) (go (eqb c (byte "\n") || eqb c (byte ";")) (is_space c) (eqb c (byte "#") && false)) in
      rw (other, ← a) p
    where
      go : (u v w : Bool) → as_written (cond u Kind.ends (cond v Kind.blank (cond w Kind.comment Kind.other))) t s ≡ plain (take (s.len + 1) (drop s.at t))
      go true v w = refl
      go false true w = refl
      go false false true = refl
      go false false false = refl

pub ruleset placings = (rules, word_brace, word_quote, whole_fits, whole_files, word_bracket, word_plain)
