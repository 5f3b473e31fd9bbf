-- A name cut at its first slash, where a slice holds it: laws as the needs ask them. Assumes nothing.
use Prim.Native.Nat.{ℕ, suc, ◌+◌, ◌-◌, ◌*◌, ◌^◌, ◌≤◌, ◌<◌}
use native.Mathlib.Nat.{suc-add}
use native.Mathlib.Omega.{arith}
use mathlib.Core.Path.{◌≡◌, refl, sym, ap, ◌∙◌}
use mathlib.Core.Bool.{Bool, true, false, cond, not}
use Rattle.std.specs.Prelude.{None, Some}
use mathlib.Core.List.{List, [], ◌∷◌, ◌++◌, append-nil}
use lib.Dec.{eqb}
use lib.ListN.{length, take, drop, length-take, length-drop, length-append, drop_of_length-le}
use lib.Seq.{drop-drop, take_all}
use borrow.Author.Rules.{rules}
use borrow.Author.Tests.{eqb-true, eqb-false, not-true, not-false}
use Rattle.text.specs.Ascii.{Bytes, byte}
use Rattle.text.specs.Compare.{same, starts_with}
use Rattle.text.specs.Lists.{drop_take, take_none}
use Rattle.text.specs.Sames.{same_refl, same_eq, differ}
use Rattle.text.specs.Scan.{before, is, up_to, onto, split_at, Ends}
use Rattle.text.specs.Scans.{before_le}
use Rattle.spans.specs.Span.{◌⋯◌, bytes}
use Rattle.spans.specs.Frame.{size_in}
use Rattle.spans.specs.declared.span.Span.{Span}
use Rattle.names.specs.Name.{named, entry_of, name_of, is_word}
use Rattle.names.specs.Frame.{alone_is, under_is}
use Rattle.names.specs.Laws.{word_is}
use Rattle.names.specs.Parts.{parts, first_part, behind, part_of, onto_first_lem, part_same, part_other}
use Rattle.names.specs.declared.name.Name.{Name}
use Rattle.names.specs.declared.name.Form.TheVariants.{Word}
use Rattle.names.specs.declared.part.Part.{Part}
use Rattle.names.specs.declared.part.Part.TheVariants.{Same, Last, Other}
use Rattle.names.proofs.Written.{span_two}

-- ---- the first slash

abbrev slash_at : Bytes → ℕ
slash_at p = up_to (byte "/") p

-- it stands in p
cut_in : (p q : Bytes) → slash_at p < length p → parts (p ++ q) ≡ take (slash_at p) p ∷ parts (drop (slash_at p + 1) p ++ q)
unfolding before split_at
cut_in [] q h = absurd (omega arith)
cut_in (x ∷ p) q h = go (eqb x (byte "/")) (cut_in p q) h
  where
    go : (t : Bool) → (slash_at p < length p → parts (p ++ q) ≡ take (slash_at p) p ∷ parts (drop (slash_at p + 1) p ++ q))
        → cond t 0 (suc (slash_at p)) < suc (length p)
        → cond t ([] ∷ parts (p ++ q)) (onto x (parts (p ++ q))) ≡ take (cond t 0 (suc (slash_at p))) (x ∷ p) ∷ parts (drop (cond t 0 (suc (slash_at p)) + 1) (x ∷ p) ++ q)
    go true r g = refl
    go false r g = let l : slash_at p < length p = omega arith in rw (r l, suc-add)

-- it stands behind p
cut_behind : (p q : Bytes) → slash_at p ≡ length p → parts (p ++ (byte "/" ∷ q)) ≡ p ∷ parts q
unfolding before split_at
cut_behind [] q h = refl
cut_behind (x ∷ p) q h = go (eqb x (byte "/")) (cut_behind p q) h
  where
    go : (t : Bool) → (slash_at p ≡ length p → parts (p ++ (byte "/" ∷ q)) ≡ p ∷ parts q)
        → cond t 0 (suc (slash_at p)) ≡ suc (length p)
        → cond t ([] ∷ parts (p ++ (byte "/" ∷ q))) (onto x (parts (p ++ (byte "/" ∷ q)))) ≡ (x ∷ p) ∷ parts q
    go true r g = absurd (omega arith)
    go false r g = let l : slash_at p ≡ length p = omega arith in rw (r l)

-- there is none
cut_none : (p : Bytes) → slash_at p ≡ length p → parts p ≡ p ∷ []
unfolding before split_at
cut_none [] h = refl
cut_none (x ∷ p) h = go (eqb x (byte "/")) (cut_none p) h
  where
    go : (t : Bool) → (slash_at p ≡ length p → parts p ≡ p ∷ []) → cond t 0 (suc (slash_at p)) ≡ suc (length p) → cond t ([] ∷ parts p) (onto x (parts p)) ≡ (x ∷ p) ∷ []
    go true r g = absurd (omega arith)
    go false r g = let l : slash_at p ≡ length p = omega arith in rw (r l)

-- the first part
first_is : (p : Bytes) → first_part (parts p) ≡ take (slash_at p) p
unfolding before split_at
first_is [] = refl
first_is (x ∷ p) = go (eqb x (byte "/")) (parts p) (first_is p)
  where
    go : (t : Bool) (ps : List Bytes) → first_part ps ≡ take (slash_at p) p → first_part (cond t ([] ∷ ps) (onto x ps)) ≡ take (cond t 0 (suc (slash_at p))) (x ∷ p)
    go true ps e = refl
    go false [] e = ap (λ (l : Bytes). x ∷ l) e
    go false (q ∷ ps) e = ap (λ (l : Bytes). x ∷ l) e

-- ---- whether the first part of a slice is w

taken : (p : Bytes) → length (take (slash_at p) p) ≡ slash_at p
taken p = length-take (slash_at p) p ∙ omega (arith, before_le (is (byte "/")) p)

module _ (p w : Bytes) (t : Bool) (e : t ≡ starts_with w p) where
  pub begins_not : not t ≡ true → false ≡ same (first_part (parts p)) w
  begins_not h = go (same (first_part (parts p)) w) refl
    where
      go : (b : Bool) → same (first_part (parts p)) w ≡ b → false ≡ b
      go false g = refl
      go true g =
          let q : take (slash_at p) p ≡ w = sym (first_is p) ∙ same_eq (first_part (parts p)) w g in
          let n : length w ≡ slash_at p = ap length (sym q) ∙ taken p in
          sym (not-true t h) ∙ (e ∙ rw (n, q) (same_refl w))

  pub begins_by : not t ≡ false → (k : ℕ) → Ends (0 + up_to (byte "/") (drop 0 p)) (length p) k → eqb k (length w) ≡ same (first_part (parts p)) w
  begins_by h k n =
      let m : k ≡ slash_at p = omega (arith, n.is_at) in
      rw (m, first_is p) (go (eqb (slash_at p) (length w)) refl)
    where
      go : (b : Bool) → eqb (slash_at p) (length w) ≡ b → b ≡ same (take (slash_at p) p) w
      go true g = let l : slash_at p ≡ length w = eqb-true (slash_at p) (length w) g in rw l (sym (not-false t h) ∙ e)
      go false g = differ (take (slash_at p) p) w (λ q. eqb-false (slash_at p) (length w) g (sym (taken p) ∙ q))

pub ruleset begins = (rules, begins_not, begins_by)

-- where it is, what stands behind it
module _ (p w : Bytes) (e : same (first_part (parts p)) w ≡ true) where
  first_w : take (slash_at p) p ≡ w
  first_w = sym (first_is p) ∙ same_eq (first_part (parts p)) w e

  slash_at_lem : slash_at p ≡ length w
  slash_at_lem = sym (taken p) ∙ ap length first_w

  up_to_lem : length w ≤ length p
  up_to_lem = omega (arith, slash_at_lem, before_le (is (byte "/")) p)

  module _ (h : length w ≡ length p) where
    all_w : p ≡ w
    all_w = sym (take_all (slash_at p) p (omega (arith, slash_at_lem))) ∙ first_w

    part_last : parts p ≡ w ∷ []
    part_last = cut_none p (slash_at_lem ∙ h) ∙ ap (λ (x : Bytes). x ∷ []) all_w

    part_behind : (q : Bytes) → parts (p ++ (byte "/" ∷ q)) ≡ w ∷ parts q
    part_behind q = cut_behind p q (slash_at_lem ∙ h) ∙ ap (λ (x : Bytes). x ∷ parts q) all_w

  part_in : (q : Bytes) → (length w ≡ length p → ⊥) → parts (p ++ q) ≡ w ∷ parts (drop (length w + 1) p ++ q)
  part_in q h =
      let l : slash_at p < length p = omega (arith, slash_at_lem, up_to_lem, h) in
      cut_in p q l ∙ rw (first_w, slash_at_lem)

found : (s w : Bytes) (qs : List Bytes) → parts s ≡ w ∷ qs → Some qs ≡ behind w (parts s)
found s w qs e = rw (e, same_refl w)

-- ---- the same of a string

module _ (files area p w : Bytes) (s : Span) (r : Bool) (e : r ≡ same (first_part (parts p)) w) where
  in_files : (i : ℕ) → i ≡ length files - s.at → s.len ≤ i → p ≡ take s.len (drop s.at files) → p ≡ bytes (files ++ area) s
  in_files i n h f = let z : s.len - (length files - s.at) ≡ 0 = omega arith in f ∙ sym (span_two files area s ∙ rw (z, append-nil (take s.len (drop s.at files))))

  in_area : length files ≤ s.at → p ≡ take s.len (drop (s.at - length files) area) → p ≡ bytes (files ++ area) s
  in_area h f =
      let z : s.len - (length files - s.at) ≡ s.len = omega arith in
      f ∙ sym (span_two files area s ∙ rw (drop_of_length-le files {i = s.at} h, take_none, z))

  pub begins_files : p ≡ take s.len (drop s.at files) → (i : ℕ) → i ≡ length files - s.at → s.len ≤ i → r ≡ same (first_part (parts (bytes (files ++ area) s))) w
  begins_files f i n h = e ∙ ap (λ (x : Bytes). same (first_part (parts x)) w) (in_files i n h f)

  pub begins_area : p ≡ take s.len (drop (s.at - length files) area) → length files ≤ s.at → r ≡ same (first_part (parts (bytes (files ++ area) s))) w
  begins_area f h = e ∙ ap (λ (x : Bytes). same (first_part (parts x)) w) (in_area h f)

module _ (mem w : Bytes) (s : Span) (n : Name) (h : n ≡ named (0 ⋯ 0) false s Word) (r : Part) (e : part_of mem r ≡ behind w (parts (name_of mem n))) where
  read_is : part_of mem r ≡ behind w (parts (bytes mem s))
  read_is = e ∙ ap (λ (x : Bytes). behind w (parts x)) (ap (name_of mem) h ∙ alone_is mem s Word)

  is_first_lem : (qs : List Bytes) → parts (bytes mem s) ≡ w ∷ qs → true ≡ same (first_part (parts (bytes mem s))) w
  is_first_lem qs g = sym (rw g (same_refl w))

  pub cross_more : (u : Name) → r ≡ Same u → true ≡ same (first_part (parts (bytes mem s))) w
  cross_more u g = is_first_lem (parts (name_of mem u)) (part_same (bytes mem s) w (parts (name_of mem u)) (sym (ap (part_of mem) g) ∙ read_is))

  pub cross_last : r ≡ Last → true ≡ same (first_part (parts (bytes mem s))) w
  cross_last g = is_first_lem [] (part_same (bytes mem s) w [] (sym (ap (part_of mem) g) ∙ read_is))

  pub cross_other : r ≡ Other → false ≡ same (first_part (parts (bytes mem s))) w
  cross_other g = sym (part_other (bytes mem s) w (sym (ap (part_of mem) g) ∙ read_is))

pub ruleset spans = (rules, begins_files, begins_area, cross_more, cross_last, cross_other)

-- ---- what is left of a word

rest_is : (mem : Bytes) (s : Span) (k : ℕ) → bytes mem ((s.at + k + 1) ⋯ (s.len - k - 1)) ≡ drop (k + 1) (bytes mem s)
unfolding bytes
rest_is mem s k =
    let a : s.at + k + 1 ≡ s.at + (k + 1) = omega arith in
    let b : s.len - k - 1 ≡ s.len - (k + 1) = omega arith in
    rw (a, b) (sym (drop_take (k + 1) s.len (drop s.at mem) ∙ rw (drop-drop (k + 1) s.at mem)))

module _ (files area w : Bytes) (s : Span) (t : Bool) (e : t ≡ same (first_part (parts (bytes (files ++ area) s))) w) where
  pub word_other : not t ≡ true → None ≡ behind w (parts (bytes (files ++ area) s))
  word_other h = rw (← e, not-true t h)

  module _ (h : not t ≡ false) (k : ℕ) (l : k ≡ length (bytes (files ++ area) s)) where
    is_w : same (first_part (parts (bytes (files ++ area) s))) w ≡ true
    is_w = sym e ∙ not-false t h

    pub word_last : length w ≡ k → Some [] ≡ behind w (parts (bytes (files ++ area) s))
    word_last g = found (bytes (files ++ area) s) w [] (part_last (bytes (files ++ area) s) w is_w (g ∙ l))

    module _ (g : length w ≡ k → ⊥) where
      more : length w ≡ length (bytes (files ++ area) s) → ⊥
      more x = g (x ∙ sym l)

      pub word_more_lem : (r : Name) → r ≡ named (0 ⋯ 0) false ((s.at + length w + 1) ⋯ (s.len - length w - 1)) Word → Some (parts (name_of (files ++ area) r)) ≡ behind w (parts (bytes (files ++ area) s))
      word_more_lem r q =
          let p = bytes (files ++ area) s in
          let a : name_of (files ++ area) r ≡ drop (length w + 1) p = ap (name_of (files ++ area)) q ∙ (alone_is (files ++ area) _ Word ∙ rest_is (files ++ area) s (length w)) in
          let b : parts p ≡ w ∷ parts (drop (length w + 1) p) = rw (append-nil p, append-nil (drop (length w + 1) p)) at (part_in p w is_w [] more) in
          rw a (found p w (parts (drop (length w + 1) p)) b)

      in_span : length w + 1 ≤ length (bytes (files ++ area) s)
      in_span = omega (arith, up_to_lem (bytes (files ++ area) s) w is_w, more)

      in_len : length w + 1 ≤ s.len
      in_len = omega (arith, in_span, size_in (files ++ area) s)

      in_mem : s.at + length w + 1 ≤ length files + length area
      unfolding bytes
      in_mem = omega (arith, in_span, length-take s.len (drop s.at (files ++ area)), length-drop s.at (files ++ area), length-append files area)

      pub rest_len : length w ≤ s.len
      rest_len = omega (arith, in_len)

      pub rest_slash : 1 ≤ s.len - length w
      rest_slash = omega (arith, in_len)

      module _ (u : length files * 1 < 2 ^ 63) (v : length area * 1 < 2 ^ 63) where
        pub rest_at : s.at + length w < 2 ^ 64
        rest_at = omega (arith, in_mem)

        pub rest_past : s.at + length w + 1 < 2 ^ 64
        rest_past = omega (arith, in_mem)

pub ruleset cuts = (rules, word_other, word_last, word_more_lem, rest_at, rest_past, rest_len, rest_slash)

-- ---- what is left of a name with a slash behind its scope

first_front : (p q : Bytes) → first_part (parts (p ++ (byte "/" ∷ q))) ≡ first_part (parts p)
unfolding split_at
first_front [] q = refl
first_front (x ∷ p) q = go (eqb x (byte "/")) (first_front p q)
  where
    go : (t : Bool) → first_part (parts (p ++ (byte "/" ∷ q))) ≡ first_part (parts p)
        → first_part (cond t ([] ∷ parts (p ++ (byte "/" ∷ q))) (onto x (parts (p ++ (byte "/" ∷ q))))) ≡ first_part (cond t ([] ∷ parts p) (onto x (parts p)))
    go true e = refl
    go false e = onto_first_lem x (parts (p ++ (byte "/" ∷ q))) ∙ (ap (λ (l : Bytes). x ∷ l) e ∙ sym (onto_first_lem x (parts p)))

-- what stands behind the slash
abbrev rear : Bytes → Name → Bytes
rear mem n = entry_of n.form (bytes mem n.word)

module _ (mem w : Bytes) (n : Name) (z : n.sep ≡ true) (t : Bool) (e : t ≡ same (first_part (parts (bytes mem n.scope))) w) where
  name_is : name_of mem n ≡ bytes mem n.scope ++ (byte "/" ∷ rear mem n)
  unfolding name_of
  name_is = rw z

  pub scope_other : not t ≡ true → None ≡ behind w (parts (name_of mem n))
  scope_other h = rw (name_is, first_front (bytes mem n.scope) (rear mem n), ← e, not-true t h)

  module _ (h : not t ≡ false) (k : ℕ) (l : k ≡ length (bytes mem n.scope)) where
    pub scope_last : length w ≡ k → (r : Name) → r ≡ named (0 ⋯ 0) false n.word n.form → Some (parts (name_of mem r)) ≡ behind w (parts (name_of mem n))
    scope_last g r q =
        let p = bytes mem n.scope in
        let a : name_of mem r ≡ rear mem n = ap (name_of mem) q ∙ alone_is mem n.word n.form in
        rw (name_is, a) (found (p ++ (byte "/" ∷ rear mem n)) w (parts (rear mem n)) (part_behind p w (sym e ∙ not-false t h) (g ∙ l) (rear mem n)))

    pub scope_more : (length w ≡ k → ⊥) → Some (parts (name_of mem (named ((n.scope.at + length w + 1) ⋯ (n.scope.len - length w - 1)) true n.word n.form))) ≡ behind w (parts (name_of mem n))
    scope_more g =
        let p = bytes mem n.scope in
        let a = under_is mem ((n.scope.at + length w + 1) ⋯ (n.scope.len - length w - 1)) n.word n.form in
        let b = part_in p w (sym e ∙ not-false t h) (byte "/" ∷ rear mem n) (λ x. g (x ∙ sym l)) in
        rw (name_is, a, rest_is mem n.scope (length w)) (found (p ++ (byte "/" ∷ rear mem n)) w (parts (drop (length w + 1) p ++ (byte "/" ∷ rear mem n))) b)

pub ruleset scopes = (rules, scope_other, scope_last, scope_more, rest_at, rest_past, rest_len, rest_slash)

-- ---- a name that is a word

pub word_by : (mem w : Bytes) (n : Name) (t : Bool) (r : Part) → t ≡ is_word n → t ≡ true → part_of mem r ≡ behind w (parts (bytes mem n.word)) → part_of mem r ≡ behind w (parts (name_of mem n))
word_by mem w n t r e h g = g ∙ ap (λ (x : Bytes). behind w (parts x)) (sym (word_is mem n (sym e ∙ h)))

pub ruleset words = (rules, word_by)
