-- Laws: a command within the limits of commands and lists, or past them. Assumes nothing.
use Rattle.std.specs.Prelude.{Option, Some, None}
use Prim.Native.Nat.{ℕ, ◌+◌, ◌≤◌, ◌<◌}
use mathlib.Core.Path.{◌≡◌, sym, ap, ◌∙◌}
use mathlib.Core.List.{List, ◌++◌}
use borrow.Author.Rules.{rules}
use borrow.Author.Tests.{le-leb, lt-leb}
use Rattle.text.specs.Ascii.{Bytes}
use Rattle.spans.specs.Span.{bytes, pair_at, strings}
use Rattle.args.specs.View.{words_from}
use Rattle.model.specs.Names.{Named}
use Rattle.model.specs.Within.{entries_of, lists_by}
use Rattle.read.specs.Reading.{line_of}
use Rattle.lists.specs.Values.{Whole}
use Rattle.lists.specs.Count.{counted}
use Rattle.loads.specs.Scoped.{line_is_lem}
use Rattle.plain.specs.Asks.{Lists}
use Rattle.plain.specs.Counted.{counted_in}

module _ (files area : Bytes) (words : List ℕ) (n before : ℕ) (v : Lists files area words n before) (c : Named) where
  abbrev by_line : List ℕ
  by_line = entries_of (lists_by c (line_of (strings (files ++ area) words 0 n)).name (line_of (strings (files ++ area) words 0 n)).rest)

  line_lists : entries_of (lists_by c (bytes (files ++ area) (pair_at words 0)) (words_from (files ++ area) words n 1)) ≡ by_line
  line_lists = ap (λ (l : List Bytes). entries_of (lists_by c (line_of l).name (line_of l).rest)) (sym (line_is_lem (files ++ area) words n v.named))

  -- too many commands
  pub too_many : (commands : ℕ) → 1024 < commands → (r : Option ℕ) → r ≡ None → r ≡ counted_in commands before by_line
  too_many commands h r e = e ∙ rw (lt-leb commands 1024 h)

  pub within_all : (commands : ℕ) → commands ≤ 1024 → (r : Option ℕ) → r ≡ counted before (entries_of (lists_by c (bytes (files ++ area) (pair_at words 0)) (words_from (files ++ area) words n 1))) → r ≡ counted_in commands before by_line
  within_all commands h r e = e ∙ ap (counted before) line_lists ∙ rw (le-leb commands 1024 h)

pub whole_of : (files area : Bytes) (words : List ℕ) (n before : ℕ) → Lists files area words n before → Whole files area words n × (before ≤ 1024)
whole_of files area words n before v = (v.whole, v.few)

pub ruleset counts = (rules, too_many, within_all, whole_of)
