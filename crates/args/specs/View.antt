-- How the stored words of a command stand for its words, and the answers for what is asked of them. Assumes nothing.
use Rattle.std.specs.Prelude.{Bool}
use Rattle.std.specs.Prelude.{ℕ, zero, suc, ◌-◌, ◌≤◌, ◌≡◌, List, [], ◌∷◌, Option, None, Some}
use Rattle.text.specs.Ascii.{Bytes}
use Rattle.spans.specs.Span.{◌⋯◌, bytes, found_of, pairs, strings}
use Rattle.spans.specs.Reach.{last_of, span_end}
use Rattle.spans.specs.declared.span.Span.{Span}
use Rattle.tcl.specs.Arguments.{Role as Arguments-as-Role, State as Arguments-as-State}
use Rattle.args.specs.declared.role.Role.{Role}
use Rattle.args.specs.declared.role.Role.TheVariants.{Positional, Flag, Option as Role-as-Option}

-- of n stored words those from the i-th on; behind the command's name they begin at 1
abbrev pub words_from : Bytes → List ℕ → ℕ → ℕ → List Bytes
words_from mem words n i = strings mem words i (n - i)

-- the k-th of a list, from 0
unfoldable pub pick : {A : Type 0} → ℕ → List A → Option A
pick k [] = None
pick zero (x ∷ xs) = Some x
pick (suc k) (x ∷ xs) = pick k xs

-- a role, v being the word behind
abbrev pub role_as : Bytes → Role → Arguments-as-Role
role_as v Positional = Arguments-as-Role.positional
role_as v Flag = Arguments-as-Role.flag
role_as v Role-as-Option = Arguments-as-Role.option v

-- a state that was looked for
abbrev pub state_as : Bytes → Option (Bool × Span) → Option Arguments-as-State
state_as mem (Some (one, s)) = Some (record { one = one; value = bytes mem s })
state_as mem None = None

-- the states that a word is the key of: one or none
abbrev pub states_as : Bytes → Option (Bool × Span) → List Arguments-as-State
states_as mem (Some (one, s)) = record { one = one; value = bytes mem s } ∷ []
states_as mem None = []

-- ---- an answer by a measure of spans

abbrev pub found_by : (Span → ℕ) → Option Span → ℕ
found_by e (Some s) = e s
found_by e None = 0

abbrev pub state_by : (Span → ℕ) → Option (Bool × Span) → ℕ
state_by e (Some (one, s)) = e s
state_by e None = 0

-- where an answer ends
abbrev pub found_end : Option Span → ℕ
found_end f = found_by span_end f

-- ---- answers: what they say, and that by every measure they are at most the greatest of the stored words: they are one of these, or empty

pub record Reads (mem : Bytes) (words : List ℕ) (n : ℕ) (t : Bytes) (r : Span) : Type 0 where
  pub is : bytes mem r ≡ t
  pub within : (e : Span → ℕ) → e (0 ⋯ 0) ≡ 0 → e r ≤ last_of e (pairs words 0 n)

pub record Finds (mem : Bytes) (words : List ℕ) (n : ℕ) (t : Option Bytes) (r : Option Span) : Type 0 where
  pub is : found_of mem r ≡ t
  pub within : (e : Span → ℕ) → e (0 ⋯ 0) ≡ 0 → found_by e r ≤ last_of e (pairs words 0 n)

pub record States (mem : Bytes) (words : List ℕ) (n : ℕ) (t : Option Arguments-as-State) (r : Option (Bool × Span)) : Type 0 where
  pub is : state_as mem r ≡ t
  pub within : (e : Span → ℕ) → e (0 ⋯ 0) ≡ 0 → state_by e r ≤ last_of e (pairs words 0 n)

pub record StateHere (mem : Bytes) (words : List ℕ) (n : ℕ) (t : List Arguments-as-State) (r : Option (Bool × Span)) : Type 0 where
  pub is : t ≡ states_as mem r
  pub within : (e : Span → ℕ) → e (0 ⋯ 0) ≡ 0 → state_by e r ≤ last_of e (pairs words 0 n)
