-- Two texts compared from their ends: laws as the needs ask them. Assumes nothing.
use Prim.Native.Nat.{ℕ, suc, ◌+◌, ◌-◌}
use mathlib.Core.Path.{◌≡◌, refl, sym, ap, ap₂, ◌∙◌}
use mathlib.Core.Bool.{Bool, true, false, not, ◌&&◌}
use mathlib.Core.List.{[], ◌∷◌, ◌++◌, append-nil, append_assoc}
use native.Mathlib.Omega.{arith}
use lib.Dec.{eqb}
use lib.ListN.{length, take, drop, get_or}
use borrow.Author.Rules.{rules}
use borrow.Author.Tests.{eqb-false, eqb-true}
use Rattle.text.specs.Ascii.{Bytes}
use Rattle.text.specs.Compare.{same}
use Rattle.text.specs.Sames.{same_refl, same_eq, differ, both, no_true}
use Rattle.spans.specs.Span.{bytes}
use Rattle.out.specs.Emit.{Out, emit}
use Rattle.out.specs.Bytewise.{flat}
use Rattle.names.specs.Name.{stands, name_of, is_word, slash}
use Rattle.names.specs.Laws.{stands_word, word_is}
use Rattle.refs.specs.Text.{text_of, front_of}
use Rattle.refs.specs.Heads.{head_ref, is_bare, is_name, is_plain, one_slash, Apart}
use Rattle.refs.specs.Laws.{name_is}
use Rattle.refs.specs.declared.Ref.{Ref}

-- ---- ends of the same length

length_append : (p u : Bytes) → length (p ++ u) ≡ length p + length u
length_append [] u = omega arith
length_append (x ∷ p) u = omega (arith, length_append p u)

pub same_ends : (p q u v : Bytes) → length u ≡ length v → same (p ++ u) (q ++ v) ≡ same p q && same u v
unfolding same
same_ends [] [] u v h = refl
same_ends [] (y ∷ q) u v h = sym (differ u (y ∷ (q ++ v)) (λ e. omega (arith, e, h, length_append q v)))
same_ends (x ∷ p) [] u v h = sym (differ (x ∷ (p ++ u)) v (λ e. omega (arith, e, h, length_append p u)))
same_ends (x ∷ p) (y ∷ q) u v h = rw (same_ends p q u v h) (and_assoc (eqb x y) (same p q) (same u v))
  where
    and_assoc : (a b c : Bool) → a && (b && c) ≡ (a && b) && c
    and_assoc true b c = refl
    and_assoc false b c = refl

and_true : (b : Bool) → b && true ≡ b
and_true true = refl
and_true false = refl

and_false : (b : Bool) → b && false ≡ false
and_false true = refl
and_false false = refl

no_is : (b : Bool) → not b ≡ true → b ≡ false
no_is true h = absurd (no_true h)
no_is false h = refl

yes_is : (b : Bool) → not b ≡ false → b ≡ true
yes_is true h = refl
yes_is false h = absurd (no_true (sym h))

-- ---- the text is what stands before the part of the job, and that part

pub head_part : (job mem : Bytes) (r : Ref) → text_of job mem r ≡ text_of job mem (head_ref r) ++ take r.len (drop r.at job)
unfolding text_of
head_part job mem r = go (front_of r.cut r.upto (name_of mem r.name)) (slash r.sep) (name_of mem r.last) (take r.len (drop r.at job))
  where
    go : (a b c d : Bytes) → a ++ (b ++ (c ++ d)) ≡ (a ++ (b ++ (c ++ []))) ++ d
    go a b c d = rw (append-nil c) (ap (λ (l : Bytes). a ++ l) (sym (append_assoc b c d)) ∙ sym (append_assoc a (b ++ c) d))

-- ---- the last bytes

abbrev last_of : ℕ → Bytes → ℕ
last_of x [] = x
last_of x (y ∷ l) = last_of y l

last_get : (x : ℕ) (l : Bytes) → get_or (x ∷ l) (length l) 0 ≡ last_of x l
last_get x [] = refl
last_get x (y ∷ l) = last_get y l

abbrev end : Bytes → ℕ
end [] = 0
end (x ∷ l) = last_of x l

last_append : (x : ℕ) (p : Bytes) (y : ℕ) (u : Bytes) → last_of x (p ++ (y ∷ u)) ≡ last_of y u
last_append x [] y u = refl
last_append x (z ∷ p) y u = last_append z p y u

end_append : (p : Bytes) (y : ℕ) (u : Bytes) → end (p ++ (y ∷ u)) ≡ last_of y u
end_append [] y u = refl
end_append (x ∷ p) y u = last_append x p y u

ends_differ : (x y : ℕ) (u v p q : Bytes) → (last_of x u ≡ last_of y v → ⊥) → false ≡ same (p ++ (x ∷ u)) (q ++ (y ∷ v))
ends_differ x y u v p q h = go (same (p ++ (x ∷ u)) (q ++ (y ∷ v))) refl
  where
    go : (b : Bool) → same (p ++ (x ∷ u)) (q ++ (y ∷ v)) ≡ b → false ≡ b
    go false e = refl
    go true e = absurd (h (sym (end_append p x u) ∙ ap (λ (l : Bytes). end l) (same_eq _ _ e) ∙ end_append q y v))

pub not_apart : (u v : Bytes) → Apart u v false
not_apart u v = record { is = λ e. absurd (no_true e) }

pub is_apart : (u v : Bytes) → (length u ≡ 0 → ⊥) → (length v ≡ 0 → ⊥) → (get_or u (length u - 1) 0 ≡ get_or v (length v - 1) 0 → ⊥) → Apart u v true
is_apart [] v h g z = absurd (h refl)
is_apart (x ∷ u) [] h g z = absurd (g refl)
is_apart (x ∷ u) (y ∷ v) h g z =
    let a : suc (length u) - 1 ≡ length u = omega arith in
    let b : suc (length v) - 1 ≡ length v = omega arith in
    record { is = λ _. λ p q. ends_differ x y u v p q (λ k. z (rw (a, b) (last_get x u ∙ k ∙ sym (last_get y v)))) }

pub apart_by : (u v : Bytes) → (length u ≡ 0 → ⊥) → (length v ≡ 0 → ⊥) → Apart u v (not (eqb (get_or u (length u - 1) 0) (get_or v (length v - 1) 0)))
apart_by u v h g = go (eqb (get_or u (length u - 1) 0) (get_or v (length v - 1) 0)) refl
  where
    go : (b : Bool) → eqb (get_or u (length u - 1) 0) (get_or v (length v - 1) 0) ≡ b → Apart u v (not b)
    go true e = not_apart u v
    go false e = is_apart u v h g (eqb-false _ _ e)

pub ruleset aparts = (rules, not_apart, apart_by)

-- ---- what stands before

module _ (job mem : Bytes) where
  bare_is : (r : Ref) → is_bare r ≡ true → text_of job mem (head_ref r) ≡ name_of mem r.name ++ slash r.sep
  unfolding text_of name_of bytes
  bare_is r h =
      let a = both (not r.cut) _ h in
      let b = both (eqb r.last.scope.len 0 && eqb r.last.word.len 0) _ a.1 in
      let c = both (eqb r.last.scope.len 0) _ b.0 in
      let d = both (not r.last.sep) (stands r.last.form) b.1 in
      let e : r.last.scope.len ≡ 0 = eqb-true _ _ c.0 in
      let f : r.last.word.len ≡ 0 = eqb-true _ _ c.1 in
      rw (no_is r.cut a.0, e, f, no_is r.last.sep d.0, stands_word r.last.form d.1, append-nil (slash r.sep))

  plain_is : (r : Ref) → is_plain r ≡ true → text_of job mem r ≡ bytes mem r.name.word
  plain_is r h = let a = both (is_name r) (is_word r.name) h in name_is job mem r a.0 ∙ word_is mem r.name a.1

  pub put_word : (f : ℕ → Bytes) (o o' : Out) (r : Ref) (p : Bool) → p ≡ is_plain r → p ≡ true → o' ≡ emit o (flat f (bytes mem r.name.word)) → o' ≡ emit o (flat f (text_of job mem r))
  put_word f o o' r p e h g = rw (plain_is r (sym e ∙ h)) g

  slashes : (a b : Bool) → one_slash a b ≡ true → a ≡ b
  slashes true true h = refl
  slashes false false h = refl
  slashes true false h = absurd (no_true h)
  slashes false true h = absurd (no_true h)

  pub bare_same : (a b : Ref) (p q s r : Bool) → p ≡ is_bare a → q ≡ is_bare b → s ≡ one_slash a.sep b.sep → p && (q && s) ≡ true → r ≡ same (name_of mem a.name) (name_of mem b.name) → r ≡ same (text_of job mem (head_ref a)) (text_of job mem (head_ref b))
  bare_same a b p q s r e f g h k =
      let t = both p (q && s) h in
      let u = both q s t.1 in
      let m : a.sep ≡ b.sep = slashes a.sep b.sep (sym g ∙ u.1) in
      k ∙ sym (rw (bare_is a (sym e ∙ t.0), bare_is b (sym f ∙ u.0), m) (same_ends (name_of mem a.name) (name_of mem b.name) (slash b.sep) (slash b.sep) refl ∙ rw (same_refl (slash b.sep)) (and_true _)))

  pub heads_same : (a b x y : Ref) (r : Bool) → x ≡ head_ref a → y ≡ head_ref b → r ≡ same (text_of job mem x) (text_of job mem y) → r ≡ same (text_of job mem (head_ref a)) (text_of job mem (head_ref b))
  heads_same a b x y r e f k = k ∙ rw (e, f)

  module _ (a b : Ref) (u v : Bytes) (e : u ≡ take a.len (drop a.at job)) (f : v ≡ take b.len (drop b.at job)) where
    left_is : text_of job mem a ≡ text_of job mem (head_ref a) ++ u
    left_is = head_part job mem a ∙ ap (λ (l : Bytes). text_of job mem (head_ref a) ++ l) (sym e)

    right_is : text_of job mem b ≡ text_of job mem (head_ref b) ++ v
    right_is = head_part job mem b ∙ ap (λ (l : Bytes). text_of job mem (head_ref b) ++ l) (sym f)

    pub refs_apart : (t : Bool) → Apart u v t → t ≡ true → false ≡ same (text_of job mem a) (text_of job mem b)
    refs_apart t w h = w.is h (text_of job mem (head_ref a)) (text_of job mem (head_ref b)) ∙ sym (ap₂ same left_is right_is)

    ends_are : length u ≡ length v → same (text_of job mem a) (text_of job mem b) ≡ same (text_of job mem (head_ref a)) (text_of job mem (head_ref b)) && same u v
    ends_are n = ap₂ same left_is right_is ∙ same_ends (text_of job mem (head_ref a)) (text_of job mem (head_ref b)) u v n

    module _ (n : length u ≡ length v) (s : Bool) (g : s ≡ same u v) where
      pub refs_differ : not s ≡ true → false ≡ same (text_of job mem a) (text_of job mem b)
      refs_differ h = sym (ends_are n ∙ rw (sym g ∙ no_is s h) (and_false (same (text_of job mem (head_ref a)) (text_of job mem (head_ref b)))))

      pub refs_same : not s ≡ false → (r : Bool) → r ≡ same (text_of job mem (head_ref a)) (text_of job mem (head_ref b)) → r ≡ same (text_of job mem a) (text_of job mem b)
      refs_same h r k = k ∙ sym (ends_are n ∙ rw (sym g ∙ yes_is s h) (and_true (same (text_of job mem (head_ref a)) (text_of job mem (head_ref b)))))

pub name_by : (r : Ref) (p : Bool) → p ≡ is_bare r → p && (not r.sep && eqb r.len 0) ≡ is_name r
name_by r p e = rw e

pub plain_by : (r : Ref) (p q : Bool) → p ≡ is_name r → q ≡ is_word r.name → p && q ≡ is_plain r
plain_by r p q e f = rw (e, f)

pub ruleset words = (rules, name_by, plain_by, put_word)

pub ruleset heads = (rules, bare_same, heads_same)
