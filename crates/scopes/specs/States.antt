-- Laws: what is left of a place, of the state that has it. Assumes nothing.
use Rattle.std.specs.Prelude.{ℕ, ◌≡◌, Bool, true, false, ◌++◌, take, Option, None, Some, Result}
use Rattle.std.proofs.Common.{ap}
use Rattle.std.specs.Prelude.{refl}
use Rattle.text.specs.Ascii.{Bytes}
use Rattle.model.specs.Scope.{entered}
use Rattle.store.specs.Strings.{string}
use Rattle.store.specs.declared.state.State.{State}
use Rattle.scopes.specs.declared.go.Place.{Place}
use Rattle.scopes.specs.declared.go.Stop.{Stop}
use Rattle.scopes.specs.Moves.{scope_fits, moved_to, place_of, out_of, Moves, Enters, Shifts, Leads}

module _ (files area area' : Bytes) (u : State) (r : Result Place Stop) where
  state_by_lem : (t : Bytes) (b : Bool) → Shifts files area area' (place_of u) t r b → Moves files area area' u t (out_of u r) b
  state_by_lem t true g =
      rw g.is
      record {
        tag = refl;
        scope = g.scope;
        state = ap (λ (k : ℕ). moved_to u g.place.scope k g.place.end) g.scopes;
        more = g.more;
        few = g.few;
        kept = g.kept;
        back = g.back;
        reaches = g.reaches;
        long = g.long;
      }
  state_by_lem t false g = rw g.is (record { tag = refl; state = refl; same = g.same })

pub moves_at : (files area area' : Bytes) (u : State) (t : Place → Bytes) (p : Place) (r : Result Place Stop) → place_of u ≡ p → Shifts files area area' p (t p) r (scope_fits p.scopes (t p)) → Moves files area area' u (t (place_of u)) (out_of u r) (scope_fits u.count.scopes (t (place_of u)))
moves_at files area area' u t p r e g = state_by_lem files area area' u r (t (place_of u)) (scope_fits u.count.scopes (t (place_of u))) (rw (← e) at g)

enters_by : (files area area' : Bytes) (u : State) (o : Option Bytes) (r : Result Place Stop) → Leads files area area' (place_of u) o r → Enters files area area' u o (out_of u r)
enters_by files area area' u None r g = rw g.is (record { tag = refl; state = refl; same = g.same })
enters_by files area area' u (Some w) r g =
    state_by_lem files area area' u r (entered (string (files ++ take u.fill.end area) u.head.scope) w)
    (scope_fits u.count.scopes (entered (string (files ++ take u.fill.end area) u.head.scope) w)) g

pub enters_at : (files area area' : Bytes) (u : State) (o : Place → Option Bytes) (p : Place) (r : Result Place Stop) → place_of u ≡ p → Leads files area area' p (o p) r → Enters files area area' u (o (place_of u)) (out_of u r)
enters_at files area area' u o p r e g = enters_by files area area' u (o (place_of u)) r (rw (← e) at g)
