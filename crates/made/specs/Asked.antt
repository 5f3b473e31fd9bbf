-- Laws: what the arguments of a command come to when they are stored. Assumes nothing.
use Rattle.std.specs.Prelude.{Some, None}
use Rattle.std.specs.Prelude.{ℕ, ◌+◌, ◌≤◌, ◌<◌, ◌^◌, max, ◌≡◌, refl, List, [], Option}
use Rattle.std.proofs.Common.{arith, ap, ◌∙◌, rules}
use Rattle.text.specs.Ascii.{Bytes}
use Rattle.spans.specs.Span.{◌⋯◌, bytes, pairs}
use Rattle.spans.specs.Reach.{span_end, last_of}
use Rattle.spans.specs.declared.span.Span.{Span}
use Rattle.tcl.specs.Rewrite.{rewrite}
use Rattle.tcl.specs.Commands.{reading}
use Rattle.tcl.specs.Lists.{list, together}
use Rattle.args.specs.View.{Reads, Finds, found_end}
use Rattle.model.specs.Commands.{or_else, list_of}
use Rattle.store.specs.Strings.{string, span_of, stored_of, no_string, maybe_of, maybe_found, below_found, found_or}
use Rattle.store.specs.Order.{of_maybe, of_maybe_below}
use Rattle.store.specs.declared.stored.Stored.{Stored}

-- nothing has no entries
pub list_none : list [] ≡ []
unfolding rewrite reading together
list_none = refl

-- the empty string
pub string_none : (mem : Bytes) → string mem no_string ≡ []
unfolding bytes
string_none mem = refl

-- ---- how far what was asked for reaches, by any measure at which nothing is 0
module _ (mem : Bytes) (words : List ℕ) (n : ℕ) (e : Span → ℕ) (z : e (0 ⋯ 0) ≡ 0) where
  pub read_by : (t : Bytes) (r : Span) → Reads mem words n t r → e r ≤ last_of e (pairs words 0 n)
  read_by t r a = a.within e z

  pub found_by_lem : (t : Option Bytes) (f : Option Span) → Finds mem words n t f → e (span_of (found_or f)) ≤ last_of e (pairs words 0 n)
  found_by_lem t None a = omega (arith, z)
  found_by_lem t (Some s) a = a.within e z

  pub maybe_by : (t : Option Bytes) (f : Option Span) → Finds mem words n t f → of_maybe (λ s. e (span_of s)) (maybe_found f) ≤ last_of e (pairs words 0 n)
  maybe_by t None a = omega arith
  maybe_by t (Some s) a = a.within e z

  pub below_by : (t : Option Bytes) (f : Option Span) (scope : Stored) → Finds mem words n t f → of_maybe_below (λ s. e (span_of s)) (below_found scope f) ≤ max (e (span_of scope)) (last_of e (pairs words 0 n))
  below_by t None scope a = omega arith
  below_by t (Some s) scope a = omega (arith, a.within e z)

module _ (mem : Bytes) (words : List ℕ) (n : ℕ) where
  -- ---- what it says
  pub named_is : (t : Bytes) (r : Span) → Reads mem words n t r → string mem (stored_of r) ≡ t
  named_is t r a = a.is

  pub list_found : (t : Option Bytes) (f : Option Span) → Finds mem words n t f → list (string mem (found_or f)) ≡ list_of t
  list_found t None a = rw (← a.is) (ap list (string_none mem) ∙ list_none)
  list_found t (Some s) a = rw (← a.is)

  pub or_found : (t : Option Bytes) (f : Option Span) → Finds mem words n t f → string mem (found_or f) ≡ or_else t []
  or_found t None a = rw (← a.is) (string_none mem)
  or_found t (Some s) a = rw (← a.is)

  pub maybe_found_lem : (t : Option Bytes) (f : Option Span) → Finds mem words n t f → maybe_of mem (maybe_found f) ≡ t
  maybe_found_lem t None a = a.is
  maybe_found_lem t (Some s) a = a.is

  -- ---- it can be stored
  pub read_fits : (t : Bytes) (r : Span) → Reads mem words n t r → last_of span_end (pairs words 0 n) < 2 ^ 32 → r.at + r.len < 2 ^ 32
  read_fits t r a h = omega (arith, a.within span_end refl)

  pub found_fits : (t : Option Bytes) (f : Option Span) → Finds mem words n t f → last_of span_end (pairs words 0 n) < 2 ^ 32 → found_end f < 2 ^ 32
  found_fits t f a h = omega (arith, a.within span_end refl)

pub ruleset asks = (rules, read_fits, found_fits)
