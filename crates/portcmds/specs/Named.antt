-- The first word of a command, below the scope. Assumes nothing.
use Rattle.std.specs.Prelude.{ℕ, ◌≤◌, max, ◌≡◌, List}
use Rattle.std.proofs.Common.{arith, ap}
use Rattle.text.specs.Ascii.{Bytes}
use Rattle.spans.specs.Span.{◌⋯◌, pairs}
use Rattle.spans.specs.Reach.{last_of}
use Rattle.spans.specs.declared.span.Span.{Span}
use Rattle.tcl.specs.Arguments.{name_of}
use Rattle.args.specs.View.{words_from, Reads}
use Rattle.model.specs.Scope.{scoped}
use Rattle.store.specs.Strings.{string, span_of, stored_of, below_of}
use Rattle.store.specs.Order.{of_below}
use Rattle.store.specs.declared.stored.Stored.{Stored}
use Rattle.store.specs.declared.stored.Below.{Below}

pub record BelowIs (mem : Bytes) (words : List ℕ) (n : ℕ) (scope : Stored) (r : Below) : Type 0 where
  pub is : below_of mem r ≡ scoped (string mem scope) (name_of (words_from mem words n 1))
  pub within : (e : Span → ℕ) → e (0 ⋯ 0) ≡ 0 → of_below (λ s. e (span_of s)) r ≤ max (e (span_of scope)) (last_of e (pairs words 0 n))

module _ (mem : Bytes) (words : List ℕ) (n : ℕ) (scope : Stored) where
  pub below_is : (r : Span) (x : Stored) → Reads mem words n (name_of (words_from mem words n 1)) r → x ≡ stored_of r → BelowIs mem words n scope (record { scope = scope; word = x })
  below_is r x a e = rw e (record { is = ap (scoped (string mem scope)) a.is; within = λ d z. omega (arith, a.within d z) })
