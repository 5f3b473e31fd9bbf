-- The commands of a text from a place on: laws of the definitions. Assumes nothing.
use Prim.Native.Nat.{◌+◌, ◌-◌, ◌<◌, ◌≤◌, suc, zero, ℕ}
use mathlib.Core.Bool.{Bool, ◌&&◌, ◌||◌, cond, false, true}
use mathlib.Core.Path.{◌≡◌, refl, sym}
use mathlib.Core.List.{List, [], ◌++◌, ◌∷◌, append-nil}
use native.Mathlib.Omega.{arith}
use lib.ListN.{drop, drop_of_length-le, get_or, length, length-append}
use lib.Seq.{drop-drop}
use lib.Dec.{eqb}
use borrow.Author.Tests.{lt-leb}
use Rattle.tcl.specs.Words.{Kind, Word, inside, kind_of, quote_size, size_of, words_of}
use Rattle.commands.specs.Reading.{most_words, parted, too_many}
use Rattle.tcl.specs.Commands.{done, done_by, kept_by, none_yet, reading}
use Rattle.tcl.specs.Machines.{word_kind}
use Rattle.text.specs.Classes.{ends_plain, is_space}
use Rattle.text.specs.Ascii.{byte}
use Rattle.commands.specs.Stored.{written_at}
use Rattle.text.specs.Lists.{here}
use Rattle.text.specs.Sames.{no_true}
use Rattle.text.specs.Scan.{before}
use Rattle.spans.specs.Span.{◌⋯◌}

pub reading_skip : (k : ℕ) (ws : List Word) (xs : List ℕ) → reading k ws xs ≡ reading 0 ws (drop k xs)
unfolding reading
reading_skip zero ws [] = refl
reading_skip zero ws (x ∷ xs) = refl
reading_skip (suc k) ws [] = refl
reading_skip (suc k) ws (x ∷ xs) = reading_skip k ws xs

-- the token at i is of kind K and ends at e
pub reading_step : (t : List ℕ) (i e : ℕ) (ws : List Word) (K : Kind) → i < length t → K ≡ kind_of (none_yet ws) (get_or t i 0) → e ≡ i + 1 + size_of K (drop (i + 1) t)
    → reading 0 ws (drop i t) ≡ done_by K ws ++ reading 0 (kept_by K ws ++ words_of K (drop i t)) (drop e t)
unfolding reading
reading_step t i e ws K h a b =
    rw (here t i h, ← a, reading_skip (size_of K (drop (i + 1) t)) (kept_by K ws ++ words_of K (get_or t i 0 ∷ drop (i + 1) t)) (drop (i + 1) t), drop-drop, ← b)

pub reading_end : (t : List ℕ) (i : ℕ) (ws : List Word) → length t ≤ i → reading 0 ws (drop i t) ≡ done ws
unfolding reading
reading_end t i ws h = rw (drop_of_length-le t {i = i} h)

pub done_is : (ws : List Word) → 0 < length ws → done ws ≡ ws ∷ []
done_is [] h = absurd (omega arith)
done_is (w ∷ ws) h = refl

-- ---- what begins with a byte

module _ (x : ℕ) where
  pub kind_end : (f : Bool) → eqb x (byte "\n") || eqb x (byte ";") ≡ true → kind_of f x ≡ Kind.ends
  unfolding kind_of
  kind_end f h = rw h

  module _ (h : eqb x (byte "\n") || eqb x (byte ";") ≡ false) where
    pub kind_blank : (f : Bool) → is_space x ≡ true → kind_of f x ≡ Kind.blank
    unfolding kind_of
    kind_blank f g = rw (h, g)

    module _ (g : is_space x ≡ false) where
      pub kind_comment : (f : Bool) → eqb x (byte "#") && f ≡ true → kind_of f x ≡ Kind.comment
      unfolding kind_of
      kind_comment f k = rw (h, g, k)

      -- a word's kind does not depend on where it stands
      pub kind_word : (f : Bool) → eqb x (byte "#") && f ≡ false → kind_of f x ≡ kind_of false x
      unfolding kind_of
      kind_word f k = rw (h, g, k, none (eqb x (byte "#")))
        where
          none : (t : Bool) → t && false ≡ false
          none true = refl
          none false = refl

      pub word_byte : ends_plain x ≡ false
      word_byte = rw (g, semi (eqb x (byte "\n")) h)
        where
          semi : (t : Bool) → t || eqb x (byte ";") ≡ false → eqb x (byte ";") ≡ false
          semi true e = absurd (no_true (sym e))
          semi false e = e

-- ---- the word that is written at a place

-- it is a word: neither a command's end nor white space nor a comment
abbrev pub is_word : Kind → Bool
is_word Kind.ends = false
is_word Kind.blank = false
is_word Kind.comment = false
is_word Kind.brace = true
is_word Kind.quote = true
is_word Kind.bracket = true
is_word Kind.other = true

pub is_word_lem : (x : ℕ) → ends_plain x ≡ false → is_word (kind_of false x) ≡ true
is_word_lem x h = rw (word_kind x h) (go (eqb x (byte "{")) (eqb x (byte "\"")) (eqb x (byte "[")))
  where
    go : (a b c : Bool) → is_word (cond a Kind.brace (cond b Kind.quote (cond c Kind.bracket Kind.other))) ≡ true
    go true b c = refl
    go false true c = refl
    go false false true = refl
    go false false false = refl

before_first : (t : List ℕ) (i : ℕ) → i < length t → ends_plain (get_or t i 0) ≡ false → before ends_plain (drop i t) ≡ before ends_plain (drop (i + 1) t) + 1
unfolding before
before_first t i h g = rw (here t i h, g) (omega arith)

pub written_is : (t : List ℕ) (i m : ℕ) (K : Kind) → is_word K ≡ true → K ≡ kind_of false (get_or t i 0) → i < length t → ends_plain (get_or t i 0) ≡ false → m ≡ size_of K (drop (i + 1) t) → words_of K (drop i t) ≡ written_at t (i ⋯ m) ∷ []
unfolding words_of size_of written_at
written_is t i m Kind.ends w k h e g = absurd (no_true w)
written_is t i m Kind.blank w k h e g = absurd (no_true w)
written_is t i m Kind.comment w k h e g = absurd (no_true w)
written_is t i m Kind.brace w k h e g =
    let q : m - 1 ≡ inside (byte "{") (byte "}") (drop (i + 1) t) = omega (arith, g) in
    rw (← k, drop-drop 1 i t, q)
written_is t i m Kind.quote w k h e g =
    let q : m - 1 ≡ quote_size (drop (i + 1) t) = omega (arith, g) in
    rw (← k, drop-drop 1 i t, q)
written_is t i m Kind.bracket w k h e g =
    let q : inside (byte "[") (byte "]") (drop (i + 1) t) + 2 ≡ m + 1 = omega (arith, g) in
    rw (← k, drop-drop 1 i t, q)
written_is t i m Kind.other w k h e g = rw (← k, before_first t i h e, g)

-- a word is kept and ends no command
pub word_done : (K : Kind) (ws : List Word) → is_word K ≡ true → done_by K ws ≡ []
word_done Kind.ends ws w = absurd (no_true w)
word_done Kind.blank ws w = refl
word_done Kind.comment ws w = refl
word_done Kind.brace ws w = refl
word_done Kind.quote ws w = refl
word_done Kind.bracket ws w = refl
word_done Kind.other ws w = refl

pub word_kept : (K : Kind) (ws : List Word) → is_word K ≡ true → kept_by K ws ≡ ws
word_kept Kind.ends ws w = absurd (no_true w)
word_kept Kind.blank ws w = refl
word_kept Kind.comment ws w = refl
word_kept Kind.brace ws w = refl
word_kept Kind.quote ws w = refl
word_kept Kind.bracket ws w = refl
word_kept Kind.other ws w = refl

-- ---- too many words

parted_over : (ws : List Word) (cs : List (List Word)) → most_words < length ws → parted (ws ∷ cs) ≡ too_many
unfolding parted
parted_over ws cs h = rw (lt-leb (length ws) most_words h)

done_over : (ws : List Word) (cs : List (List Word)) → most_words < length ws → parted (done ws ++ cs) ≡ too_many
done_over ws cs h = let g : 0 < length ws = omega arith in rw (done_is ws g) (parted_over ws cs h)

longer : (ws vs : List Word) → most_words < length ws → most_words < length (ws ++ vs)
longer ws vs h = rw (length-append ws vs) (omega arith)

pub parted_full : (k : ℕ) (ws : List Word) (xs : List ℕ) → most_words < length ws → parted (reading k ws xs) ≡ too_many
unfolding reading
parted_full k ws [] h = rw (← (append-nil (done ws))) (done_over ws [] h)
parted_full (suc k) ws (x ∷ xs) h = parted_full k ws xs h
parted_full zero ws (x ∷ xs) h = go (λ n vs g. parted_full n vs xs g) (kind_of (none_yet ws) x)
  where
    go : ((n : ℕ) (vs : List Word) → most_words < length vs → parted (reading n vs xs) ≡ too_many) → (K : Kind) → parted (done_by K ws ++ reading (size_of K xs) (kept_by K ws ++ words_of K (x ∷ xs)) xs) ≡ too_many
    go f Kind.ends = done_over ws (reading (size_of Kind.ends xs) ([] ++ words_of Kind.ends (x ∷ xs)) xs) h
    go f Kind.blank = f (size_of Kind.blank xs) (ws ++ words_of Kind.blank (x ∷ xs)) (longer ws (words_of Kind.blank (x ∷ xs)) h)
    go f Kind.comment = f (size_of Kind.comment xs) (ws ++ words_of Kind.comment (x ∷ xs)) (longer ws (words_of Kind.comment (x ∷ xs)) h)
    go f Kind.brace = f (size_of Kind.brace xs) (ws ++ words_of Kind.brace (x ∷ xs)) (longer ws (words_of Kind.brace (x ∷ xs)) h)
    go f Kind.quote = f (size_of Kind.quote xs) (ws ++ words_of Kind.quote (x ∷ xs)) (longer ws (words_of Kind.quote (x ∷ xs)) h)
    go f Kind.bracket = f (size_of Kind.bracket xs) (ws ++ words_of Kind.bracket (x ∷ xs)) (longer ws (words_of Kind.bracket (x ∷ xs)) h)
    go f Kind.other = f (size_of Kind.other xs) (ws ++ words_of Kind.other (x ∷ xs)) (longer ws (words_of Kind.other (x ∷ xs)) h)
