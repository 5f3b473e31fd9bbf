-- The next entry of a value, and all of them: laws as the needs ask them. Assumes nothing.
use Rattle.std.specs.Prelude.{Option, Some}
use Prim.Native.Nat.{ℕ, zero, suc, ◌+◌, ◌-◌, ◌≤◌, ◌<◌, ◌^◌, min}
use mathlib.Core.Path.{◌≡◌, refl, sym, ap, ◌∙◌}
use mathlib.Core.Bool.{Bool, true, false, cond, ◌&&◌, ◌||◌}
use mathlib.Core.List.{List, [], ◌∷◌, ◌++◌}
use Rattle.std.specs.Prelude.{None}
use native.Mathlib.Omega.{arith}
use native.Mathlib.Nat.{add-zero}
use lib.Dec.{eqb}
use lib.ListN.{length, take, drop, get_or}
use borrow.Author.Rules.{rules}
use borrow.Author.Tests.{eq-eqb, ne_eqb, eqb-true}
use Rattle.text.specs.Ascii.{Bytes, byte}
use Rattle.text.specs.Classes.{is_space, ends_plain}
use Rattle.text.specs.Scan.{before, Ends}
use Rattle.text.specs.Sames.{no_true}
use Rattle.spans.specs.Span.{◌⋯◌, bytes}
use Rattle.spans.specs.declared.span.Span.{Span}
use Rattle.tcl.specs.Rewrites.{rewrite_same}
use Rattle.tcl.specs.Join.{joint, joined_by, join}
use Rattle.tcl.specs.Words.{Word, braced, quoted, bracketed, plain, Kind, kind_of, size_of, words_of, span, inside, quote_size}
use Rattle.tcl.specs.Substitution.{known, lookup, piece_more, piece_name, image, substitute, unescape, value, values}
use Rattle.tcl.specs.Lists.{list}
use Rattle.tcl.specs.Machines.{word_kind}
use Rattle.entries.specs.Entry.{entry_bytes, first_after, words_left, entries_left}
use Rattle.entries.specs.Together.{list_is}
use Rattle.entries.specs.Loops.{list_short, one_more, entry_less}
use Rattle.entries.specs.Raw.{raw, state_of, join_here, join_end}
use Rattle.entries.specs.View.{Begins, Finds}
use Rattle.entries.specs.declared.item.Item.{Item}
use Rattle.entries.proofs.Closes.{brace_runs, quote_runs, bracket_runs, comment_span, plain_span, front_is, back_is, behind_is, with_first, with_both}

-- ---- without variables nothing is replaced

unknown : (n : Bytes) → known [] n ≡ None
unfolding known lookup
unknown [] = refl
unknown (x ∷ n) = refl

as_written_lem : (w : Bytes) → substitute [] w ≡ w
as_written_lem w = rewrite_same piece_more (image []) (λ s. rw (unknown (piece_name s))) 0 w

-- ---- a step of the reading

words_skip : (k : ℕ) (f : Bool) (xs : Bytes) → words_left k f xs ≡ words_left 0 f (drop k xs)
unfolding words_left
words_skip zero f [] = refl
words_skip zero f (x ∷ xs) = refl
words_skip (suc k) f [] = refl
words_skip (suc k) f (x ∷ xs) = words_skip k f xs

-- s is what is left, joined
words_step : (s : Bytes) (f : Bool) (b : ℕ) (t : Bytes) (k : Kind) → s ≡ b ∷ t → kind_of f b ≡ k → words_left 0 f s ≡ words_of k (b ∷ t) ++ words_left 0 (first_after k f) (drop (size_of k t) t)
unfolding words_left
words_step s f b t k e g = rw (e, g, words_skip (size_of k t) (first_after k f) t)

-- a word is read the same before and behind a command's first word
same_kind : (b : ℕ) (f : Bool) → eqb b (byte "#") && f ≡ false → kind_of f b ≡ kind_of false b
unfolding kind_of
same_kind b f k = rw (k, never (eqb b (byte "#")))
  where
    never : (t : Bool) → t && false ≡ false
    never true = refl
    never false = refl

same_after : (b : ℕ) (f : Bool) → ends_plain b ≡ false → first_after (kind_of false b) f ≡ first_after (kind_of false b) false
unfolding first_after
same_after b f h = rw (word_kind b h) (go (eqb b (byte "{")) (eqb b (byte "\"")) (eqb b (byte "[")))
  where
    go : (x y z : Bool) → first_after (cond x Kind.brace (cond y Kind.quote (cond z Kind.bracket Kind.other))) f ≡ first_after (cond x Kind.brace (cond y Kind.quote (cond z Kind.bracket Kind.other))) false
    go true y z = refl
    go false true z = refl
    go false false true = refl
    go false false false = refl

words_same : (s : Bytes) (f : Bool) (b : ℕ) (t : Bytes) → s ≡ b ∷ t → ends_plain b ≡ false → eqb b (byte "#") && f ≡ false → words_left 0 f s ≡ words_left 0 false s
words_same s f b t e h k =
    words_step s f b t (kind_of false b) e (same_kind b f k)
    ∙ ap (λ (u : Bool). words_of (kind_of false b) (b ∷ t) ++ words_left 0 u (drop (size_of (kind_of false b) t) t)) (same_after b f h)
    ∙ sym (words_step s false b t (kind_of false b) e refl)

-- ---- a word

module _ (v : Bytes) (i b : ℕ) (w : Begins v i b) where
  -- it begins with a byte of its own
  alone : joint (drop i v) ≡ 0
  unfolding joined_by
  alone = go (eqb (joint (drop i v)) 0) refl
    where
      go : (u : Bool) → eqb (joint (drop i v)) 0 ≡ u → joint (drop i v) ≡ 0
      go true q = eqb-true (joint (drop i v)) 0 q
      go false q = absurd (no_true (sym w.word ∙ ap ends_plain (w.is ∙ blank q)))
        where
          blank : eqb (joint (drop i v)) 0 ≡ false → joined_by (joint (drop i v)) (get_or v i 0) ≡ byte " "
          blank z = rw z

  begins : join (drop i v) ≡ b ∷ join (drop (i + 1) v)
  begins =
      let q : b ≡ joined_by 0 (get_or v i 0) = rw alone at w.is in
      join_here v i 0 b (sym alone) q w.inside ∙ rw (add-zero (i + 1))

  -- the entries that are left are the word x, which is the entry s, and those from `next` on
  item_is : (k : Kind) (x : Word) (m : ℕ) (s : Span) (q : Bool) (next : ℕ) → kind_of false b ≡ k → words_of k (b ∷ join (drop (i + 1) v)) ≡ x ∷ [] → first_after k false ≡ false → size_of k (join (drop (i + 1) v)) ≡ m → entry_bytes q (bytes v s) ≡ value [] x → join (drop next v) ≡ drop m (join (drop (i + 1) v)) → entries_left false (drop i v) ≡ entry_bytes q (bytes v s) ∷ entries_left false (drop next v)
  item_is k x m s q next g o f z y l =
      let p : words_left 0 false (join (drop i v)) ≡ x ∷ words_left 0 false (join (drop next v)) = words_step (join (drop i v)) false b (join (drop (i + 1) v)) k begins g ∙ rw (o, f, z, ← l) in
      ap (values []) p ∙ ap (λ (t : Bytes). t ∷ entries_left false (drop next v)) (sym y)

  module _ (e : ℕ) where
    pub item_brace : Ends (i + 1 + raw (span (state_of (byte "{")) 1 (join (drop (i + 1) v))) (drop (i + 1) v)) (length v) e → b ≡ byte "{" → Finds v (entries_left false (drop i v)) (Some (record { entry = ((i + 1) ⋯ (e - (i + 1))); quoted = false; next = (e + 1) }))
    unfolding state_of words_of size_of first_after bytes
    item_brace d z = record {
      is =
          item_is Kind.brace (braced (take (inside (byte "{") (byte "}") (join (drop (i + 1) v))) (join (drop (i + 1) v)))) (inside (byte "{") (byte "}") (join (drop (i + 1) v)) + 1) ((i + 1) ⋯ (e - (i + 1))) false (e + 1)
          (word_kind b w.word ∙ rw (eq-eqb b (byte "{") z)) refl refl refl
          (front_is (state_of (byte "{")) v (i + 1) e d) (behind_is (state_of (byte "{")) v (i + 1) e d brace_runs);
      within = omega (arith, d.is_at, d.within, w.inside);
      next = omega (arith, d.within);
    }

    pub item_quote : Ends (i + 1 + raw (span (state_of (byte "\"")) 1 (join (drop (i + 1) v))) (drop (i + 1) v)) (length v) e → (b ≡ byte "{" → ⊥) → b ≡ byte "\"" → Finds v (entries_left false (drop i v)) (Some (record { entry = ((i + 1) ⋯ (e - (i + 1))); quoted = true; next = (e + 1) }))
    unfolding state_of words_of size_of first_after bytes
    item_quote d y z = record {
      is =
          item_is Kind.quote (quoted (take (quote_size (join (drop (i + 1) v))) (join (drop (i + 1) v)))) (quote_size (join (drop (i + 1) v)) + 1) ((i + 1) ⋯ (e - (i + 1))) true (e + 1)
          (word_kind b w.word ∙ rw (ne_eqb b (byte "{") y, eq-eqb b (byte "\"") z)) refl refl refl
          (ap (λ (t : Bytes). unescape t) (front_is (state_of (byte "\"")) v (i + 1) e d) ∙ sym (as_written_lem (unescape (take (quote_size (join (drop (i + 1) v))) (join (drop (i + 1) v))))))
          (behind_is (state_of (byte "\"")) v (i + 1) e d quote_runs);
      within = omega (arith, d.is_at, d.within, w.inside);
      next = omega (arith, d.within);
    }

    pub item_bracket : (z : ℕ) → z ≡ min (e + 1) (length v) → Ends (i + 1 + raw (span (state_of (byte "[")) 1 (join (drop (i + 1) v))) (drop (i + 1) v)) (length v) e → (b ≡ byte "{" → ⊥) → (b ≡ byte "\"" → ⊥) → b ≡ byte "[" → Finds v (entries_left false (drop i v)) (Some (record { entry = (i ⋯ (z - i)); quoted = false; next = (e + 1) }))
    unfolding state_of words_of size_of first_after bytes
    item_bracket z u d x y g = record {
      is =
          item_is Kind.bracket (bracketed (take (inside (byte "[") (byte "]") (join (drop (i + 1) v)) + 2) (b ∷ join (drop (i + 1) v)))) (inside (byte "[") (byte "]") (join (drop (i + 1) v)) + 1) (i ⋯ (z - i)) false (e + 1)
          (word_kind b w.word ∙ rw (ne_eqb b (byte "{") x, ne_eqb b (byte "\"") y, eq-eqb b (byte "[") g)) refl refl refl
          (rw u (with_both (state_of (byte "[")) v i e b d alone begins bracket_runs))
          (behind_is (state_of (byte "[")) v (i + 1) e d bracket_runs);
      within = omega (arith, d.is_at, d.within, w.inside, u);
      next = omega (arith, d.within);
    }

    pub item_plain : Ends (i + 1 + raw (span (state_of (byte " ")) 1 (join (drop (i + 1) v))) (drop (i + 1) v)) (length v) e → (b ≡ byte "{" → ⊥) → (b ≡ byte "\"" → ⊥) → (b ≡ byte "[" → ⊥) → Finds v (entries_left false (drop i v)) (Some (record { entry = (i ⋯ (e - i)); quoted = false; next = e }))
    unfolding words_of size_of first_after bytes before
    item_plain d x y g =
        let p : b ∷ take (before ends_plain (join (drop (i + 1) v))) (join (drop (i + 1) v)) ≡ take (before ends_plain (b ∷ join (drop (i + 1) v))) (b ∷ join (drop (i + 1) v)) = rw w.word in
        record {
          is =
              item_is Kind.other (plain (take (before ends_plain (b ∷ join (drop (i + 1) v))) (b ∷ join (drop (i + 1) v)))) (before ends_plain (join (drop (i + 1) v))) (i ⋯ (e - i)) false e
              (word_kind b w.word ∙ rw (ne_eqb b (byte "{") x, ne_eqb b (byte "\"") y, ne_eqb b (byte "[") g)) refl refl refl
              (with_first (state_of (byte " ")) v i e b d alone begins ∙ rw (plain_span (join (drop (i + 1) v))) p ∙ sym (as_written_lem (take (before ends_plain (b ∷ join (drop (i + 1) v))) (b ∷ join (drop (i + 1) v)))))
              (back_is (state_of (byte " ")) v (i + 1) e d ∙ rw (plain_span (join (drop (i + 1) v))));
          within = omega (arith, d.is_at, d.within, w.inside);
          next = omega (arith, d.within);
        }

pub ruleset items = (rules, item_brace, item_quote, item_bracket, item_plain)

-- ---- the loop that looks for it

-- what is left has the answer's entries
pub record Left (v : Bytes) (t : List Bytes) (i : ℕ) (f : Bool) : Type 0 where
  pub keeps : t ≡ entries_left f (drop i v)

-- a byte that begins no word
pass : (v : Bytes) (i : ℕ) (f : Bool) (b : ℕ) (k : Kind) (j : ℕ) (t : Bytes) → join (drop i v) ≡ b ∷ t → kind_of f b ≡ k → words_of k (b ∷ t) ≡ [] → join (drop j v) ≡ drop (size_of k t) t → entries_left f (drop i v) ≡ entries_left (first_after k f) (drop j v)
pass v i f b k j t e g o l =
    let p : words_left 0 f (join (drop i v)) ≡ words_left 0 (first_after k f) (join (drop j v)) = words_step (join (drop i v)) f b t k e g ∙ rw (o, ← l) in
    ap (values []) p

-- neither a command's end nor white space
pub left_begins : (v : Bytes) (i n b : ℕ) → n ≡ joint (drop i v) → b ≡ joined_by n (get_or v i 0) → i < length v → eqb b (byte "\n") || eqb b (byte ";") ≡ false → (s : Bool) → s ≡ is_space b → s ≡ false → Begins v i b
left_begins v i n b e g h z s o y = record { inside = h; is = rw (← e) g; word = plain_not (is_space b) (eqb b (byte "\n")) (eqb b (byte ";")) (sym o ∙ y) z }
  where
    plain_not : (p q r : Bool) → p ≡ false → q || r ≡ false → p || r ≡ false
    plain_not true q r j k = absurd (no_true (sym j))
    plain_not false true r j k = absurd (no_true (sym k))
    plain_not false false r j k = k

module _ (v : Bytes) (t : List Bytes) (i : ℕ) (f : Bool) (inv : Left v t i f) where
  pub left_end : length v ≤ i → Finds v t None
  unfolding words_left
  left_end h = record { is = inv.keeps ∙ rw (join_end v i h); within = omega arith; next = omega arith }

  module _ (n b : ℕ) (e : n ≡ joint (drop i v)) (g : b ≡ joined_by n (get_or v i 0)) (h : i < length v) where
    pub left_ends : eqb b (byte "\n") || eqb b (byte ";") ≡ true → Left v t (i + 1 + n) true
    unfolding kind_of words_of size_of first_after
    left_ends z = record { keeps = inv.keeps ∙ pass v i f b Kind.ends (i + 1 + n) (join (drop (i + 1 + n) v)) (join_here v i n b e g h) (rw z) refl refl }

    module _ (z : eqb b (byte "\n") || eqb b (byte ";") ≡ false) (s : Bool) (o : s ≡ is_space b) where
      pub left_blank : s ≡ true → Left v t (i + 1 + n) f
      unfolding kind_of words_of size_of first_after
      left_blank y = record { keeps = inv.keeps ∙ pass v i f b Kind.blank (i + 1 + n) (join (drop (i + 1 + n) v)) (join_here v i n b e g h) (rw (z, ← o, y)) refl refl }

      module _ (y : s ≡ false) where
        pub left_comment : (j : ℕ) → Ends (i + 1 + n + raw (span (state_of (byte "#")) 1 (join (drop (i + 1 + n) v))) (drop (i + 1 + n) v)) (length v) j → eqb b (byte "#") && f ≡ true → Left v t j f
        unfolding kind_of words_of size_of first_after
        left_comment j d x =
            record {
              keeps =
                  inv.keeps
                  ∙ pass v i f b Kind.comment j (join (drop (i + 1 + n) v)) (join_here v i n b e g h) (rw (z, ← o, y, x)) refl
                  (back_is (state_of (byte "#")) v (i + 1 + n) j d ∙ rw (comment_span (join (drop (i + 1 + n) v))));
            }

        -- a word is the same behind a first word
        pub left_item : (r : Option Item) → Finds v (entries_left false (drop i v)) r → eqb b (byte "#") && f ≡ false → Finds v t r
        left_item r d x = record { is = inv.keeps ∙ ap (values []) (words_same (join (drop i v)) f b (join (drop (i + 1 + n) v)) (join_here v i n b e g h) (left_begins v i n b e g h z s o y).word x) ∙ d.is; within = d.within; next = d.next }

pub ruleset lefts = (rules, left_end, left_ends, left_blank, left_comment, left_item)

-- ---- all of them, counted

-- fewer are left behind the first
pub item_less : (v : Bytes) (at : ℕ) (f : Bool) (r : Option Item) (h : Finds v (entries_left f (drop at v)) r) (x : Item) → r ≡ Some x → length (entries_left false (drop x.next v)) < length (entries_left f (drop at v))
item_less v at f r h x g = entry_less v at f r h x.entry x.quoted x.next g

pub record Counts (v : Bytes) (n at : ℕ) (f : Bool) : Type 0 where
  pub keeps : n + length (entries_left f (drop at v)) ≡ length (list v)

pub count_start : (v : Bytes) → Counts v 0 0 true
count_start v = record { keeps = rw (list_is v) (omega arith) }

module _ (v : Bytes) (n at : ℕ) (f : Bool) (inv : Counts v n at f) (r : Option Item) (h : Finds v (entries_left f (drop at v)) r) where
  pub count_end : r ≡ None → n ≡ length (list v)
  count_end g = omega (arith, inv.keeps, rw g at (ap length h.is))

  module _ (x : Item) (g : r ≡ Some x) where
    pub count_step : Counts v (n + 1) x.next false
    count_step = record { keeps = omega (arith, inv.keeps, one_more v at f r h x.entry x.quoted x.next g) }

    pub count_fits : length v < 2 ^ 64 → n + 1 < 2 ^ 64
    count_fits l = omega (arith, l, inv.keeps, one_more v at f r h x.entry x.quoted x.next g, list_short v)

pub ruleset counts = (rules, item_less, count_start, count_end, count_step, count_fits)

-- ---- entry k

pub record Skips (v : Bytes) (t : List Bytes) (left at : ℕ) (f : Bool) : Type 0 where
  pub keeps : t ≡ drop left (entries_left f (drop at v))

pub skip_start : (v : Bytes) (k : ℕ) → Skips v (drop k (list v)) k 0 true
skip_start v k = record { keeps = rw (list_is v) }

module _ (v : Bytes) (t : List Bytes) (left at : ℕ) (f : Bool) (inv : Skips v t left at f) (r : Option Item) (h : Finds v (entries_left f (drop at v)) r) where
  pub skip_end : r ≡ None → Finds v t None
  skip_end g = record { is = inv.keeps ∙ rw (h.is, g) (nothing left); within = omega arith; next = omega arith }
    where
      nothing : (n : ℕ) → drop {A = Bytes} n [] ≡ []
      nothing zero = refl
      nothing (suc n) = refl

  module _ (x : Item) (g : r ≡ Some x) where
    pub skip_here : left ≡ 0 → Finds v t (Some x)
    skip_here z = record { is = inv.keeps ∙ rw (z, h.is, g); within = rw g at h.within; next = rw g at h.next }

    pub skip_step : (left ≡ 0 → ⊥) → Skips v t (left - 1) x.next false
    skip_step z =
        let l : left ≡ suc (left - 1) = omega arith in
        record { keeps = inv.keeps ∙ ap (λ (n : ℕ). drop n (entries_left f (drop at v))) l ∙ rw (h.is, g) }

pub ruleset skips = (rules, item_less, skip_start, skip_end, skip_here, skip_step)
