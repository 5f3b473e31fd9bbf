-- How the numbers of the reader stand for words, and what its functions leave in what they are lent. Assumes nothing.
use Rattle.std.specs.Prelude.{Option, Some, None, Result, Ok, Err}
use Rattle.substitution.specs.declared.put.Full.{Full}
use Rattle.substitution.specs.Room.{full}
use Rattle.commands.specs.declared.next.Words.{Words}
use Rattle.std.specs.Prelude.{◌*◌, ◌+◌, ◌-◌, ◌<◌, ◌≤◌, ℕ, false, List, ◌++◌, map, ◌≡◌, drop, get_or, length, take}
use Rattle.spans.specs.declared.span.Span.{Span}
use Rattle.tcl.specs.Words.{Kind, Word, braced, bracketed, kind_of, plain, quoted}
use Rattle.spans.specs.Frame.{last_end}
use Rattle.spans.specs.Reach.{last_of, reach}
use Rattle.commands.specs.Reading.{Outcome, Parted, ended, first_of, nothing, outcome, parted, refused, results, too_many, parts, read}
use Rattle.tcl.specs.Substitution.{Variable, values}
use Rattle.spans.specs.Area.{Wrote}
use Rattle.spans.specs.Span.{bytes, pairs, strings}
use Rattle.text.specs.Ascii.{Bytes}
use Rattle.tcl.specs.Commands.{commands}

-- ---- splitting: a written word is where it begins in the text and how many bytes it has besides its first

abbrev pub as_written : Kind → Bytes → Span → Word
as_written Kind.ends t s = plain (take (s.len + 1) (drop s.at t))
as_written Kind.blank t s = plain (take (s.len + 1) (drop s.at t))
as_written Kind.comment t s = plain (take (s.len + 1) (drop s.at t))
as_written Kind.brace t s = braced (take (s.len - 1) (drop (s.at + 1) t))
as_written Kind.quote t s = quoted (take (s.len - 1) (drop (s.at + 1) t))
as_written Kind.bracket t s = bracketed (take (s.len + 1) (drop s.at t))
as_written Kind.other t s = plain (take (s.len + 1) (drop s.at t))

unfoldable pub written_at : Bytes → Span → Word
written_at t s = as_written (kind_of false (get_or t s.at 0)) t s

-- n of them, from the k-th on
abbrev pub written_words : Bytes → List ℕ → ℕ → ℕ → List Word
written_words t nums k n = map (written_at t) (pairs nums k n)

abbrev pub parts_of : Bytes → List ℕ → Result (Option (ℕ × ℕ)) Full → Parted
parts_of t nums (Ok (Some (n, next))) = parts (written_words t nums 0 n) (commands (drop next t))
parts_of t nums (Ok None) = nothing
parts_of t nums (Err _) = too_many

abbrev pub words_in : Result (Option (ℕ × ℕ)) Full → ℕ
words_in (Ok (Some (n, next))) = n
words_in (Ok None) = 0
words_in (Err _) = 0

-- how many numbers are written at the most
abbrev pub changed : Result (Option (ℕ × ℕ)) Full → ℕ
changed (Ok (Some (n, next))) = 2 * n
changed (Ok None) = 0
changed (Err _) = 256

pub record Splits (t : Bytes) (at : ℕ) (l₀ l : List ℕ) (r : Result (Option (ℕ × ℕ)) Full) : Type 0 where
  pub is : parts_of t l r ≡ parted (commands (drop at t))
  pub back : drop (changed r) l ≡ drop (changed r) l₀
  pub long : length l ≡ length l₀
  pub inside : last_end (pairs l 0 (words_in r)) ≤ length t
  pub few : words_in r ≤ 128

-- ---- substituting

-- the text is a part of the files, from `base` on
pub record Filed (files : Bytes) (base : ℕ) (t : Bytes) : Type 0 where
  pub is : t ≡ take (length t) (drop base files)
  pub inside : base + length t ≤ length files

-- the area was l₀ and is l: the bytes of a word stand at a span, of them `res` were written from o on, and the area ends at e
pub record PlacedAt (files : Bytes) (l₀ l : List ℕ) (o limit : ℕ) (val res : Bytes) (s : Span) (e : ℕ) : Type 0 where
  pub is : bytes (files ++ take e l) s ≡ val
  pub wrote : Wrote l₀ l o res e
  pub fits : e ≤ limit
  pub inside : reach (length files) s ≤ length files + e

-- they would pass the limit
pub record PlacedOver (l₀ l : List ℕ) (o limit : ℕ) (res : Bytes) : Type 0 where
  pub over : limit < o + length res
  pub kept : take o l ≡ take o l₀
  pub back : drop limit l ≡ drop limit l₀

abbrev pub Placed : Bytes → List ℕ → List ℕ → ℕ → ℕ → Bytes → Bytes → Result (Span × ℕ) Full → Type 0
Placed files l₀ l o limit val res (Ok (s, e)) = PlacedAt files l₀ l o limit val res s e
Placed files l₀ l o limit val res (Err _) = PlacedOver l₀ l o limit res

-- all words of a command; the numbers were k₀ and are k
pub record AllAt (files : Bytes) (l₀ l : List ℕ) (k₀ k : List ℕ) (vs : List Variable) (o limit : ℕ) (ws : List Word) (n e : ℕ) : Type 0 where
  pub are : strings (files ++ take e l) k 0 n ≡ values vs ws
  pub wrote : Wrote l₀ l o (results vs ws) e
  pub fits : e ≤ limit
  pub inside : last_of (reach (length files)) (pairs k 0 n) ≤ length files + e
  pub rest : drop (2 * n) k ≡ drop (2 * n) k₀

pub record AllOver (l₀ l : List ℕ) (k₀ k : List ℕ) (vs : List Variable) (o limit : ℕ) (ws : List Word) (n : ℕ) : Type 0 where
  pub over : limit < o + length (results vs ws)
  pub kept : take o l ≡ take o l₀
  pub back : drop limit l ≡ drop limit l₀
  pub rest : drop (2 * n) k ≡ drop (2 * n) k₀

abbrev pub Resolves : Bytes → List ℕ → List ℕ → List ℕ → List ℕ → List Variable → ℕ → ℕ → List Word → ℕ → Result ℕ Full → Type 0
Resolves files l₀ l k₀ k vs o limit ws n (Ok e) = AllAt files l₀ l k₀ k vs o limit ws n e
Resolves files l₀ l k₀ k vs o limit ws n (Err _) = AllOver l₀ l k₀ k vs o limit ws n

-- ---- the next command

abbrev pub outcome_of : Bytes → Bytes → List ℕ → Bytes → Result (Option Words) Full → Outcome
outcome_of files area nums t (Ok (Some r)) = read (strings (files ++ take r.end area) nums 0 r.count) (commands (drop r.next t)) r.end
outcome_of files area nums t (Ok None) = ended
outcome_of files area nums t (Err _) = refused

-- what is lent: a command read leaves its result bytes behind the others and its spans, which end by them and lie in the files or in the area, in the numbers
pub record Reads (files : Bytes) (l₀ l : List ℕ) (k₀ k : List ℕ) (o : ℕ) (all : Bytes) (n e : ℕ) : Type 0 where
  pub wrote : Wrote l₀ l o all e
  pub inside : last_of (reach (length files)) (pairs k 0 n) ≤ length files + e
  pub rest : drop (2 * n) k ≡ drop (2 * n) k₀

-- no command: nothing is changed
pub record Keeps (l₀ l : List ℕ) (k₀ k : List ℕ) : Type 0 where
  pub area : l ≡ l₀
  pub nums : k ≡ k₀

-- a limit is passed: nothing is changed but between o and the limit, and in the first 256 numbers
pub record Spoils (l₀ l : List ℕ) (k₀ k : List ℕ) (o limit : ℕ) : Type 0 where
  pub kept : take o l ≡ take o l₀
  pub back : drop limit l ≡ drop limit l₀
  pub rest : drop 256 k ≡ drop 256 k₀

abbrev pub Lent : Bytes → List ℕ → List ℕ → List ℕ → List ℕ → ℕ → ℕ → Bytes → Result (Option Words) Full → Type 0
Lent files l₀ l k₀ k o limit all (Ok (Some r)) = Reads files l₀ l k₀ k o all r.count r.end
Lent files l₀ l k₀ k o limit all (Ok None) = Keeps l₀ l k₀ k
Lent files l₀ l k₀ k o limit all (Err _) = Spoils l₀ l k₀ k o limit

-- the next command of the text t from `at` on
pub record NextOf (files t : Bytes) (at : ℕ) (vs : List Variable) (l₀ l : List ℕ) (o limit : ℕ) (k₀ k : List ℕ) (r : Result (Option Words) Full) : Type 0 where
  pub is : outcome_of files l k t r ≡ outcome vs o limit (commands (drop at t))
  pub lent : Lent files l₀ l k₀ k o limit (results vs (first_of (commands (drop at t)))) r
