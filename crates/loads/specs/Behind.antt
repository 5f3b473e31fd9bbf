-- Laws for the caller of a load: what is asked before it, and the state behind it. Assumes nothing.
use Rattle.std.specs.Prelude.{Option, Some, None}
use Rattle.store.specs.declared.stored.Stored.{Stored}
use Rattle.std.specs.Prelude.{ℕ, ◌≡◌, refl, List}
use Rattle.store.specs.Added.{with_head}
use Rattle.store.specs.declared.state.State.{State}
use Rattle.scopes.specs.Moves.{place_of}
use Rattle.loads.specs.Loads.{restored_by, Restores, top_back, head_back, Asked, Loading}
use Rattle.loads.specs.Scoped.{scoping}

pub asked_by : (job files area nums words : List ℕ) (count n k left : ℕ) (s : State) → Loading job files area nums words count n k left s → Asked files area words count n k (place_of s)
asked_by job files area nums words count n k left s v = record { line = scoping files area nums 1 s v.held words n v.worded; few = v.filed.few; file = v.file }

by_top : (m s : State) (x : Option Stored) → with_head s (record { scope = m.head.scope; top = top_back x s.head.top }) ≡ restored_by m s x
by_top m s None = refl
by_top m s (Some t) = refl

pub restores_by : (m s : State) → Restores m s (with_head s (head_back m.head s.head))
restores_by m s = by_top m s m.head.top
