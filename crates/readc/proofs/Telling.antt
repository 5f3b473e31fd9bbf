-- Laws: what is told of an index and of a reading. Assumes nothing.
use Prim.Native.Nat.{ℕ}
use mathlib.Core.Path.{◌≡◌, sym, ◌∙◌}
use mathlib.Core.List.{List}
use borrow.Author.Rules.{rules}
use borrow.Author.Tests.{eq-eqb, ne_eqb}
use Rattle.out.specs.Emit.{Out, emit}
use Rattle.jobindex.specs.declared.Header.{Header}
use Rattle.std.specs.Prelude.{Result, Ok, Err, Option, is_some, Bool, true, false}
use Rattle.scopes.specs.declared.go.Stop.{Stop}
use Rattle.scopes.specs.Stops.{tag_of, stopped, not_stopped}
use Rattle.job.specs.declared.Refused.{Refused}
use Rattle.job.specs.Reader.{JobRead}
use Rattle.store.specs.declared.state.State.{State}
use Rattle.dump.specs.Tables.{state_text}
use Rattle.readc.specs.Told.{told_text, Indexes}

module _ (job nums₀ nums : List ℕ) (a : Result Header Refused) (s : JobRead job nums₀ nums a) where
  pub index_refused : (x : Refused) → a ≡ Err x → Indexes job nums₀ nums 0 0
  index_refused x e = record { answer = a; read = s; count_is = rw e; first_is = rw e }

  pub index_taken : (head : Header) → a ≡ Ok head → Indexes job nums₀ nums head.files head.startfile
  index_taken head e = record { answer = a; read = s; count_is = rw e; first_is = rw e }

pub ruleset indexes = (rules, index_refused, index_taken)

-- ---- the records
module _ (o : Out) (stop : Option Stop) (s : State) (b : Bool) (eb : b ≡ is_some stop) where
  pub none_told : b ≡ true → o ≡ emit o (told_text (tag_of stop) s)
  unfolding told_text emit
  none_told h = rw (ne_eqb (tag_of stop) 0 (stopped stop (sym eb ∙ h)))

  pub all_told : b ≡ false → (o' : Out) → o' ≡ emit o (state_text s) → o' ≡ emit o (told_text (tag_of stop) s)
  unfolding told_text
  all_told h o' e = rw (eq-eqb (tag_of stop) 0 (not_stopped stop (sym eb ∙ h))) e
