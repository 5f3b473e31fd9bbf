-- What the reader's answer is told as. Assumes nothing.
use Prim.Native.Nat.{ℕ}
use mathlib.Core.Path.{◌≡◌, sym}
use mathlib.Core.List.{List}
use Rattle.text.specs.Ascii.{Bytes}
use borrow.Author.Rules.{rules}
use Rattle.joblines.specs.Parse.{parse}
use Rattle.jobindex.specs.Index.{module_row}
use Rattle.jobindex.specs.Rows.{rows_length}
use Rattle.jobindex.specs.declared.Header.{Header}
use Rattle.std.specs.Prelude.{Result, Ok, Err}
use Rattle.job.specs.declared.Refused.{Refused}
use Rattle.job.specs.Reader.{JobRead}
use Rattle.listing.specs.Listing.{Listed}
use Rattle.listing.specs.declared.Walk.{Walk}
use Rattle.walkc.specs.Counted.{module_count, Told}

module _ (job index index' : List ℕ) (r : Result Header Refused) (s : JobRead job index index' r) where
  pub tell_refused : (x : Refused) → r ≡ Err x → 0 ≡ module_count (parse job)
  tell_refused x e = rw (← s.says, e)

  pub tell_taken : (head : Header) → r ≡ Ok head → head.modules ≡ module_count (parse job)
  tell_taken head e = sym (rw (← s.says, e) (rows_length (module_row job index') head.modules))

pub ruleset tells = (rules, tell_refused, tell_taken)

pub walked : (prefix v : ℕ) (ps : List Bytes) (w : Walk) (text : Bytes) (ends : List ℕ) → Listed prefix v ps w text ends → Told prefix v ps w.entered w.count w.end w.used text ends
walked prefix v ps w text ends a = record { stamp = w.stamp; listed = a }

pub ruleset walks = (rules, walked)
