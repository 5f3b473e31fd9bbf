-- The first byte of an entry and what is left of it: laws as the needs ask them. Assumes nothing.
use Rattle.std.specs.Prelude.{Option, Some, None}
use Prim.Native.Nat.{ℕ, ◌+◌, ◌≤◌, ◌<◌}
use mathlib.Core.Path.{◌≡◌, refl, ap, ◌∙◌}
use mathlib.Core.Bool.{Bool, true, false, cond, not, ◌&&◌}
use mathlib.Core.List.{[], ◌∷◌}
use native.Mathlib.Omega.{arith}
use lib.Dec.{eqb}
use lib.ListN.{length, drop, get_or}
use borrow.Author.Rules.{rules}
use borrow.Author.Tests.{eq-eqb, ne_eqb, not-true, not-false}
use Rattle.text.specs.Ascii.{Bytes, byte}
use Rattle.spans.specs.Span.{bytes, got_of}
use Rattle.spans.specs.declared.span.Span.{Span}
use Rattle.tcl.specs.Rewrite.{rewrite}
use Rattle.tcl.specs.Join.{joint_by, joint, joined_by, join}
use Rattle.tcl.specs.Substitution.{escape, unescape}
use Rattle.entries.specs.Entry.{entry_bytes}
use Rattle.entries.specs.Raw.{join_first, join_here, join_end}
use Rattle.entries.specs.View.{entry_got, join_got}
use Rattle.std.specs.Option.{option_or}

-- ---- joined

join_none : (x : ℕ) (xs : Bytes) → joint (x ∷ xs) ≡ 0 → join (x ∷ xs) ≡ x ∷ join xs
unfolding joined_by
join_none x xs e = join_first x xs ∙ ap (λ (n : ℕ). joined_by n x ∷ join (drop n xs)) e

join_one : (x y : ℕ) (xs : Bytes) → joint (x ∷ y ∷ xs) ≡ 1 → join (x ∷ y ∷ xs) ≡ byte " " ∷ join xs
unfolding joined_by
join_one x y xs e = join_first x (y ∷ xs) ∙ ap (λ (n : ℕ). joined_by n x ∷ join (drop n (y ∷ xs))) e

join_two : (x y z : ℕ) (xs : Bytes) → joint (x ∷ y ∷ z ∷ xs) ≡ 2 → join (x ∷ y ∷ z ∷ xs) ≡ byte " " ∷ join xs
unfolding joined_by
join_two x y z xs e = join_first x (y ∷ z ∷ xs) ∙ ap (λ (n : ℕ). joined_by n x ∷ join (drop n (y ∷ z ∷ xs))) e

-- by the bytes that stand there
by_first : (a b c : ℕ) → (a ≡ byte "\\" → ⊥) → joint_by a b c ≡ 0
unfolding joint_by
by_first a b c h = rw (ne_eqb a (byte "\\") h)

by_last : (a : ℕ) → a ≡ byte "\\" → joint_by a 0 0 ≡ 0
unfolding joint_by
by_last a h = rw (eq-eqb a (byte "\\") h)

by_lf : (a b c : ℕ) → a ≡ byte "\\" → b ≡ byte "\n" → joint_by a b c ≡ 1
unfolding joint_by
by_lf a b c h g = rw (eq-eqb a (byte "\\") h, eq-eqb b (byte "\n") g)

by_second : (a b c : ℕ) → a ≡ byte "\\" → (b ≡ byte "\n" → ⊥) → (b ≡ byte "\r" → ⊥) → joint_by a b c ≡ 0
unfolding joint_by
by_second a b c h g f = rw (eq-eqb a (byte "\\") h, ne_eqb b (byte "\n") g, ne_eqb b (byte "\r") f)

by_third : (a b c : ℕ) → a ≡ byte "\\" → (b ≡ byte "\n" → ⊥) → (c ≡ byte "\n" → ⊥) → joint_by a b c ≡ 0
unfolding joint_by
by_third a b c h g f = rw (eq-eqb a (byte "\\") h, ne_eqb b (byte "\n") g, ne_eqb c (byte "\n") f) (go (eqb b (byte "\r")))
  where
    go : (t : Bool) → ◌≡◌ {A = ℕ} (cond (t && false) 2 0) 0
    go true = refl
    go false = refl

by_crlf : (a b c : ℕ) → a ≡ byte "\\" → (b ≡ byte "\n" → ⊥) → b ≡ byte "\r" → c ≡ byte "\n" → joint_by a b c ≡ 2
unfolding joint_by
by_crlf a b c h g f z = rw (eq-eqb a (byte "\\") h, ne_eqb b (byte "\n") g, eq-eqb b (byte "\r") f, eq-eqb c (byte "\n") z)

-- w is what is left, and each `first` tells a byte of it
module _ (mem w : Bytes) (p : Option (ℕ × Span)) (e : w ≡ got_of mem p) where
  pub joins_none : p ≡ None → join w ≡ []
  unfolding rewrite
  joins_none h = rw (e, h)

  module _ (a : ℕ) (t : Span) (h : p ≡ Some (a, t)) where
    pub joins_plain : (a ≡ byte "\\" → ⊥) → join w ≡ a ∷ join (bytes mem t)
    joins_plain g = rw (e, h) (join_none a (bytes mem t) (by_first a (get_or (bytes mem t) 0 0) (get_or (bytes mem t) 1 0) g))

    module _ (q : Option (ℕ × Span)) (f : bytes mem t ≡ got_of mem q) (g : a ≡ byte "\\") where
      pub joins_last : q ≡ None → join w ≡ a ∷ join (bytes mem t)
      joins_last k = rw (e, h, f, k) (join_none a [] (by_last a g))

      module _ (b : ℕ) (u : Span) (k : q ≡ Some (b, u)) where
        pub joins_lf : b ≡ byte "\n" → join w ≡ byte " " ∷ join (bytes mem u)
        joins_lf z = rw (e, h, f, k) (join_one a b (bytes mem u) (by_lf a b (get_or (bytes mem u) 0 0) g z))

        module _ (z : b ≡ byte "\n" → ⊥) where
          pub joins_other : (b ≡ byte "\r" → ⊥) → join w ≡ a ∷ join (bytes mem t)
          joins_other y = rw (e, h, f, k) (join_none a (b ∷ bytes mem u) (by_second a b (get_or (bytes mem u) 0 0) g z y))

          module _ (o : Option (ℕ × Span)) (d : bytes mem u ≡ got_of mem o) (y : b ≡ byte "\r") where
            pub joins_cr : o ≡ None → join w ≡ a ∷ join (bytes mem t)
            joins_cr x =
                let n : (0 ≡ byte "\n") → ⊥ = λ l. absurd (omega arith) in
                rw (e, h, f, k, d, x) (join_none a (b ∷ []) (by_third a b 0 g z n))

            module _ (c : ℕ) (v : Span) (x : o ≡ Some (c, v)) where
              pub joins_crlf : c ≡ byte "\n" → join w ≡ byte " " ∷ join (bytes mem v)
              joins_crlf l = rw (e, h, f, k, d, x) (join_two a b c (bytes mem v) (by_crlf a b c g z y l))

              pub joins_third : (c ≡ byte "\n" → ⊥) → join w ≡ a ∷ join (bytes mem t)
              joins_third l = rw (e, h, f, k, d, x) (join_none a (b ∷ c ∷ bytes mem v) (by_third a b c g z l))

pub ruleset joins = (rules, joins_none, joins_plain, joins_last, joins_lf, joins_other, joins_cr, joins_crlf, joins_third)

-- ---- backslashes dropped

keep_plain : (b : ℕ) (w : Bytes) → (b ≡ byte "\\" → ⊥) → unescape (b ∷ w) ≡ b ∷ unescape w
unfolding rewrite escape
keep_plain b [] h = refl
keep_plain b (c ∷ w) h = rw (ne_eqb b (byte "\\") h)

keep_next : (b c : ℕ) (w : Bytes) → b ≡ byte "\\" → unescape (b ∷ c ∷ w) ≡ c ∷ unescape w
unfolding rewrite escape
keep_next b c w h = rw (eq-eqb b (byte "\\") h)

keep_last : (b : ℕ) → unescape (b ∷ []) ≡ b ∷ unescape []
unfolding rewrite escape
keep_last b = refl

-- ---- an entry by its first byte

module _ (quoted : Bool) (w : Bytes) where
  entry_none : join w ≡ [] → entry_bytes quoted w ≡ []
  unfolding rewrite
  entry_none e = rw e (go quoted)
    where
      go : (t : Bool) → cond t (unescape []) [] ≡ []
      go true = refl
      go false = refl

  module _ (b : ℕ) (u : Bytes) (e : join w ≡ b ∷ join u) where
    entry_raw : quoted ≡ false → entry_bytes quoted w ≡ b ∷ entry_bytes quoted u
    entry_raw z = rw (z, e)

    entry_plain : quoted ≡ true → (b ≡ byte "\\" → ⊥) → entry_bytes quoted w ≡ b ∷ entry_bytes quoted u
    entry_plain z h = rw (z, e) (keep_plain b (join u) h)

    entry_last : quoted ≡ true → join u ≡ [] → entry_bytes quoted w ≡ b ∷ entry_bytes quoted u
    entry_last z h = rw (z, e, h) (keep_last b)

    entry_next : (c : ℕ) (x : Bytes) → quoted ≡ true → b ≡ byte "\\" → join u ≡ c ∷ join x → entry_bytes quoted w ≡ c ∷ entry_bytes quoted x
    entry_next c x z h g = rw (z, e, g) (keep_next b c (join x) h)

module _ (mem : Bytes) (quoted : Bool) (w : Bytes) (p : Option (ℕ × Span)) (f : join w ≡ join_got mem p) where
  pub got_none : p ≡ None → entry_bytes quoted w ≡ []
  got_none h = entry_none quoted w (rw h at f)

  module _ (b : ℕ) (t : Span) (h : p ≡ Some (b, t)) where
    head : join w ≡ b ∷ join (bytes mem t)
    head = rw h at f

    pub got_raw : not quoted ≡ true → entry_bytes quoted w ≡ b ∷ entry_bytes quoted (bytes mem t)
    got_raw z = entry_raw quoted w b (bytes mem t) head (not-true quoted z)

    pub got_plain : not quoted ≡ false → (b ≡ byte "\\" → ⊥) → entry_bytes quoted w ≡ b ∷ entry_bytes quoted (bytes mem t)
    got_plain z g = entry_plain quoted w b (bytes mem t) head (not-false quoted z) g

    module _ (q : Option (ℕ × Span)) (k : join (bytes mem t) ≡ join_got mem q) (z : not quoted ≡ false) where
      pub got_last : q ≡ None → entry_bytes quoted w ≡ b ∷ entry_bytes quoted (bytes mem t)
      got_last g = entry_last quoted w b (bytes mem t) head (not-false quoted z) (rw g at k)

      pub got_next : (c : ℕ) (u : Span) → q ≡ Some (c, u) → b ≡ byte "\\" → entry_bytes quoted w ≡ c ∷ entry_bytes quoted (bytes mem u)
      got_next c u g l = entry_next quoted w b (bytes mem t) head c (bytes mem u) (not-false quoted z) l (rw g at k)

      -- the second byte where there is one, else the first
      pub got_or : (r : Option (ℕ × Span)) → r ≡ option_or q (Some (b, t)) → b ≡ byte "\\" → entry_bytes quoted w ≡ entry_got quoted mem r
      got_or r e l = rw e (go q refl)
        where
          go : (x : Option (ℕ × Span)) → q ≡ x → entry_bytes quoted w ≡ entry_got quoted mem (option_or x (Some (b, t)))
          go None g = got_last g
          go (Some (c, u)) g = got_next c u g l

pub ruleset gots = (rules, got_none, got_raw, got_plain, got_last, got_next)

-- ---- the same in one slice

module _ (raw : Bytes) (i : ℕ) (quoted : Bool) where
  pub next_none : length raw ≤ i → entry_bytes quoted (drop i raw) ≡ []
  next_none h = entry_none quoted (drop i raw) (join_end raw i h)

  module _ (n b : ℕ) (e : n ≡ joint (drop i raw)) (g : b ≡ joined_by n (get_or raw i 0)) (h : i < length raw) where
    pub next_raw : not quoted ≡ true → entry_bytes quoted (drop i raw) ≡ b ∷ entry_bytes quoted (drop (i + 1 + n) raw)
    next_raw z = entry_raw quoted (drop i raw) b (drop (i + 1 + n) raw) (join_here raw i n b e g h) (not-true quoted z)

    pub next_plain : not quoted ≡ false → (b ≡ byte "\\" → ⊥) → entry_bytes quoted (drop i raw) ≡ b ∷ entry_bytes quoted (drop (i + 1 + n) raw)
    next_plain z l = entry_plain quoted (drop i raw) b (drop (i + 1 + n) raw) (join_here raw i n b e g h) (not-false quoted z) l

    pub next_last : not quoted ≡ false → length raw ≤ i + 1 + n → entry_bytes quoted (drop i raw) ≡ b ∷ entry_bytes quoted (drop (i + 1 + n) raw)
    next_last z l = entry_last quoted (drop i raw) b (drop (i + 1 + n) raw) (join_here raw i n b e g h) (not-false quoted z) (join_end raw (i + 1 + n) l)

    pub next_next : (m c : ℕ) → m ≡ joint (drop (i + 1 + n) raw) → c ≡ joined_by m (get_or raw (i + 1 + n) 0) → not quoted ≡ false → b ≡ byte "\\" → i + 1 + n < length raw → entry_bytes quoted (drop i raw) ≡ c ∷ entry_bytes quoted (drop (i + 1 + n + 1 + m) raw)
    next_next m c d k z y l = entry_next quoted (drop i raw) b (drop (i + 1 + n) raw) (join_here raw i n b e g h) c (drop (i + 1 + n + 1 + m) raw) (not-false quoted z) y (join_here raw (i + 1 + n) m c d k l)

pub ruleset nexts = (rules, next_none, next_raw, next_plain, next_last, next_next)
