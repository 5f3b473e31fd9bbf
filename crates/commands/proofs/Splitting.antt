-- The loop that splits the next command: laws as the needs ask them. Assumes nothing.
use Rattle.std.specs.Prelude.{Option, Some, None, Result, Ok, Err}
use Rattle.substitution.specs.declared.put.Full.{Full}
use Rattle.substitution.specs.Room.{full}
use Prim.Native.Nat.{◌*◌, ◌+◌, ◌-◌, ◌<◌, ◌≤◌, suc, zero, ℕ}
use mathlib.Core.Path.{◌∙◌, ◌≡◌, ap, refl, sym}
use mathlib.Core.List.{List, [], ◌++◌, ◌∷◌, append-nil, map-append}
use mathlib.Core.Bool.{Bool, ◌&&◌, ◌||◌, false, true}
use native.Mathlib.Omega.{arith}
use native.Mathlib.Nat.{add-zero}
use lib.ListN.{drop, get_or, length, length-append, length-set, set}
use lib.Seq.{drop-drop}
use lib.Dec.{eqb}
use borrow.Author.Tests.{le-leb, ne_eqb}
use borrow.Author.Rules.{rules}
use Rattle.commands.proofs.Readings.{done_is, is_word_lem, is_word, kind_blank, kind_comment, kind_end, kind_word, parted_full, reading_end, reading_step, word_byte, word_done, word_kept, written_is}
use Rattle.tcl.specs.Words.{Kind, Word, kind_of, size_of, words_of}
use Rattle.tcl.specs.Commands.{commands, done, done_by, kept_by, none_yet, reading}
use Rattle.spans.specs.Frame.{last_end, last_end_push, pairs_push, push_back}
use Rattle.text.specs.Classes.{ends_plain, is_space}
use Rattle.text.specs.Scan.{Ends, up_to}
use Rattle.spans.specs.Span.{◌⋯◌, pairs}
use Rattle.commands.specs.Stored.{Splits, written_at, written_words}
use Rattle.text.specs.Ascii.{byte}
use Rattle.commands.specs.Reading.{most_words, parted}

-- the first n words are at hand, and what stands from i on is left
pub record Splitting (t : List ℕ) (at : ℕ) (l₀ l : List ℕ) (n i : ℕ) : Type 0 where
  pub keeps : commands (drop at t) ≡ reading 0 (written_words t l 0 n) (drop i t)
  pub back : drop (2 * n) l ≡ drop (2 * n) l₀
  pub long : length l ≡ length l₀
  pub inside : last_end (pairs l 0 n) ≤ length t
  pub few : n ≤ 128

pub splitting_start : (t : List ℕ) (at : ℕ) (l : List ℕ) → Splitting t at l l 0 at
unfolding pairs last_end
splitting_start t at l = record { keeps = refl; back = refl; long = refl; inside = omega arith; few = omega arith }

count_is : (t l : List ℕ) (k n : ℕ) → length (written_words t l k n) ≡ n
unfolding pairs
count_is t l k zero = refl
count_is t l k (suc n) = ap suc (count_is t l (k + 1) n)

none_is : (t l : List ℕ) (n : ℕ) → none_yet (written_words t l 0 n) ≡ eqb n 0
unfolding pairs
none_is t l zero = refl
none_is t l (suc n) = let z : suc n ≡ 0 → ⊥ = λ e. absurd (omega arith) in rw (ne_eqb (suc n) 0 z)

module _ (t : List ℕ) (at : ℕ) (l₀ l : List ℕ) (n i : ℕ) (inv : Splitting t at l₀ l n i) where
  ws : List Word
  ws = written_words t l 0 n

  -- the text is at its end
  module _ (h : length t ≤ i) where
    pub split_none : n ≡ 0 → Splits t at l₀ l (Ok None)
    unfolding parted pairs last_end ws
    split_none z =
        record {
          is = sym (rw (inv.keeps, reading_end t i (written_words t l 0 n) h, z));
          back = rw z at inv.back;
          long = inv.long;
          inside = omega arith;
          few = omega arith;
        }

    pub split_last : (n ≡ 0 → ⊥) → Splits t at l₀ l (Ok (Some (n, i)))
    unfolding parted ws
    split_last z =
        let g : 0 < length (written_words t l 0 n) = rw (count_is t l 0 n) (omega (arith, z)) in
        let f : length (written_words t l 0 n) ≤ most_words = rw (count_is t l 0 n) inv.few in
        let e : commands (drop i t) ≡ [] = reading_end t i [] h in
        record {
          is = sym (rw (inv.keeps, reading_end t i (written_words t l 0 n) h, done_is (written_words t l 0 n) g, le-leb (length (written_words t l 0 n)) most_words f, e));
          back = inv.back;
          long = inv.long;
          inside = inv.inside;
          few = inv.few;
        }

  module _ (h : i < length t) where
    step : (K : Kind) (e : ℕ) → K ≡ kind_of (eqb n 0) (get_or t i 0) → e ≡ i + 1 + size_of K (drop (i + 1) t) → commands (drop at t) ≡ done_by K ws ++ reading 0 (kept_by K ws ++ words_of K (drop i t)) (drop e t)
    unfolding ws
    step K e a b = inv.keeps ∙ reading_step t i e (written_words t l 0 n) K h (a ∙ rw (none_is t l n)) b

    -- LF or `;`
    module _ (g : eqb (get_or t i 0) (byte "\n") || eqb (get_or t i 0) (byte ";") ≡ true) where
      ended : commands (drop at t) ≡ done ws ++ commands (drop (i + 1) t)
      unfolding size_of words_of
      ended = step Kind.ends (i + 1) (sym (kind_end (get_or t i 0) (eqb n 0) g)) (sym (add-zero (i + 1)))

      pub split_empty : n ≡ 0 → Splitting t at l₀ l n (i + 1)
      unfolding pairs ws
      split_empty z =
          record {
            keeps = rw z (rw z at ended);
            back = inv.back;
            long = inv.long;
            inside = inv.inside;
            few = inv.few;
          }

      pub split_command : (n ≡ 0 → ⊥) → Splits t at l₀ l (Ok (Some (n, (i + 1))))
      unfolding parted ws
      split_command z =
          let k : 0 < length (written_words t l 0 n) = rw (count_is t l 0 n) (omega (arith, z)) in
          let f : length (written_words t l 0 n) ≤ most_words = rw (count_is t l 0 n) inv.few in
          record {
            is = sym (rw (ended, done_is (written_words t l 0 n) k, le-leb (length (written_words t l 0 n)) most_words f));
            back = inv.back;
            long = inv.long;
            inside = inv.inside;
            few = inv.few;
          }

    module _ (g : eqb (get_or t i 0) (byte "\n") || eqb (get_or t i 0) (byte ";") ≡ false) (f : Bool) (k : f ≡ is_space (get_or t i 0)) where
      pub split_blank : f ≡ true → Splitting t at l₀ l n (i + 1)
      unfolding size_of words_of ws
      split_blank y =
          record {
            keeps = step Kind.blank (i + 1) (sym (kind_blank (get_or t i 0) g (eqb n 0) (sym k ∙ y))) (sym (add-zero (i + 1))) ∙ rw append-nil;
            back = inv.back;
            long = inv.long;
            inside = inv.inside;
            few = inv.few;
          }

      module _ (y : f ≡ false) where
        space : is_space (get_or t i 0) ≡ false
        space = sym k ∙ y

        pub split_comment : (e : ℕ) → eqb (get_or t i 0) (byte "#") && eqb n 0 ≡ true → Ends (i + 1 + up_to (byte "\n") (drop (i + 1) t)) (length t) e → Splitting t at l₀ l n e
        unfolding size_of words_of ws
        split_comment e x d =
            record {
              keeps = step Kind.comment e (sym (kind_comment (get_or t i 0) g space (eqb n 0) x)) d.is_at ∙ rw append-nil;
              back = inv.back;
              long = inv.long;
              inside = inv.inside;
              few = inv.few;
            }

        pub split_byte : ends_plain (get_or t i 0) ≡ false
        split_byte = word_byte (get_or t i 0) g space

        module _ (x : eqb (get_or t i 0) (byte "#") && eqb n 0 ≡ false) where
          pushed : (m e : ℕ) → m ≡ size_of (kind_of false (get_or t i 0)) (drop (i + 1) t) → e ≡ i + 1 + m → commands (drop at t) ≡ reading 0 (ws ++ (written_at t (i ⋯ m) ∷ [])) (drop e t)
          pushed m e a b =
              let w : is_word (kind_of false (get_or t i 0)) ≡ true = is_word_lem (get_or t i 0) split_byte in
              step (kind_of false (get_or t i 0)) e (sym (kind_word (get_or t i 0) g space (eqb n 0) x)) (b ∙ rw a)
              ∙ rw (word_done (kind_of false (get_or t i 0)) ws w, word_kept (kind_of false (get_or t i 0)) ws w, written_is t i m (kind_of false (get_or t i 0)) w refl h split_byte a)

          pub split_full : n ≡ 128 → 256 ≤ length l₀ → Splits t at l₀ l (Err full)
          unfolding pairs last_end ws
          split_full z r =
              let m : ℕ = size_of (kind_of false (get_or t i 0)) (drop (i + 1) t) in
              let c : most_words < length (written_words t l 0 n ++ (written_at t (i ⋯ m) ∷ [])) = rw (length-append, count_is t l 0 n) (omega arith) in
              record {
                is = sym (rw (pushed m (i + 1 + m) refl refl) (parted_full 0 (written_words t l 0 n ++ (written_at t (i ⋯ m) ∷ [])) (drop (i + 1 + m) t) c));
                back = rw z at inv.back;
                long = inv.long;
                inside = omega arith;
                few = omega arith;
              }

          module _ (b : ℕ) (a : b ≡ 1 + size_of (kind_of false (get_or t i 0)) (drop (i + 1) t)) (r : i + b ≤ length t + 1) (z : n ≡ 128 → ⊥) (q : 256 ≤ length l₀) where
            room : 2 * n + 1 < length l
            room = omega (arith, inv.few, inv.long, z)

            pub split_word : Splitting t at l₀ (set (set l (2 * n) i) (2 * n + 1) (b - 1)) (n + 1) (i + b)
            unfolding ws
            split_word =
                let p : pairs (set (set l (2 * n) i) (2 * n + 1) (b - 1)) 0 (n + 1) ≡ pairs l 0 n ++ ((i ⋯ (b - 1)) ∷ []) = pairs_push l n i (b - 1) room in
                let u : 2 * n + 2 ≡ 2 * (n + 1) = omega arith in
                record {
                  keeps = pushed (b - 1) (i + b) (omega (arith, a)) (omega (arith, a)) ∙ rw (p, map-append);
                  back = push_back l n i (b - 1) room ∙ rw (← u, ← (drop-drop 2 (2 * n) l), ← (drop-drop 2 (2 * n) l₀), inv.back);
                  long = length-set (set l (2 * n) i) (2 * n + 1) (b - 1) ∙ length-set l (2 * n) i ∙ inv.long;
                  inside = rw (p, last_end_push) (omega (arith, inv.inside, a));
                  few = omega (arith, inv.few, z);
                }

pub ruleset splittings = (rules, split_none, split_last, split_empty, split_command, split_blank, split_comment, split_byte, split_full, split_word)
