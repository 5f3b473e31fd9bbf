-- A command within the limits of commands and lists, or past them: how many entries there are with it, and what its reader makes of that.
-- Assumes nothing.
use Rattle.std.specs.Prelude.{Option, Some, None}
use Rattle.std.specs.Prelude.{ℕ, ◌+◌, ◌≡◌, refl, Bool, true, false, cond, ◌&&◌, List, leb}
use Rattle.std.proofs.Common.{sym, ap, ◌∙◌}
use Rattle.text.specs.Scan.{all}
use Rattle.model.specs.Limits.{most_commands}
use Rattle.model.specs.Within.{total}
use Rattle.store.specs.declared.state.State.{State}
use Rattle.lists.specs.Count.{counted}
use Rattle.scopes.specs.declared.go.Out.{Out}
use Rattle.scopes.specs.declared.go.Stop.TheVariants as stop
use Rattle.held.specs.Laws.{with_entries}
use Rattle.loads.specs.Steps.{counted_out}

-- command number `commands`, with ls entries more
abbrev pub counted_in : ℕ → ℕ → List ℕ → Option ℕ
counted_in commands before ls = cond (leb commands most_commands) (counted before ls) None

-- the state with these entries, or the refusal
abbrev pub out_by : State → Option ℕ → Out
out_by s (Some t) = record { stop = None; state = with_entries s t }
out_by s None = record { stop = Some stop.PastLimit; state = s }

-- ---- what the reader makes of it
by_limits : (s : State) (t : ℕ) (a b : Bool) → out_by s (cond a (cond b (Some t) None) None) ≡ cond (a && b) (record { stop = None; state = with_entries s t }) (record { stop = Some stop.PastLimit; state = s })
by_limits s t true true = refl
by_limits s t true false = refl
by_limits s t false b = refl

out_is : (s : State) (ls : List ℕ) → out_by s (counted_in s.count.commands s.count.entries ls) ≡ counted_out s ls
unfolding counted
out_is s ls = by_limits s (s.count.entries + total ls) (leb s.count.commands 1024) (all (λ k. leb k 64) ls && leb (s.count.entries + total ls) 1024)

module _ (s : State) (ls : List ℕ) (r : Option ℕ) (e : r ≡ counted_in s.count.commands s.count.entries ls) where
  pub out_within : (t : ℕ) → r ≡ Some t → ◌≡◌ {A = Out} (record { stop = None; state = with_entries s t }) (counted_out s ls)
  out_within t q = sym (ap (out_by s) q) ∙ ap (out_by s) e ∙ out_is s ls

  pub out_past : r ≡ None → ◌≡◌ {A = Out} (record { stop = Some stop.PastLimit; state = s }) (counted_out s ls)
  out_past q = sym (ap (out_by s) q) ∙ ap (out_by s) e ∙ out_is s ls
