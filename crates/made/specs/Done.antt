-- Laws: a command is carried out where the state that it leaves is in order, since every such state is within the limits of records. Assumes nothing.
use Rattle.std.specs.Prelude.{Some, None}
use Rattle.spans.specs.declared.span.Span.{Span}
use Rattle.std.specs.Prelude.{ℕ, ◌<◌, ◌≡◌, refl, true, List, length, Option, option_map}
use Rattle.std.proofs.Common.{arith, sym, ap, ◌∙◌, ne_eqb}
use Rattle.text.specs.Ascii.{Bytes}
use Rattle.args.specs.View.{Finds}
use Rattle.model.specs.Scope.{scoped}
use Rattle.model.specs.Records.{Model}
use Rattle.model.specs.Within.{records_fit}
use Rattle.store.specs.Strings.{string, maybe_below_of, below_found}
use Rattle.store.specs.View.{Store, model_of}
use Rattle.store.specs.Order.{Shaped, Bounded}
use Rattle.store.specs.Rows.{Packs}
use Rattle.store.specs.Added.{row_counted}
use Rattle.store.specs.Rowed.{rowed}
use Rattle.store.specs.Fits.{fits_all}
use Rattle.store.specs.Variables.{now_fits}
use Rattle.store.specs.declared.stored.Stored.{Stored}
use Rattle.store.specs.declared.row.Row.{Row}
use Rattle.store.specs.declared.state.State.{State}
use Rattle.made.specs.Made.{fine_made, row_made, reach_of, Kept, Did}
use Rattle.made.specs.Dids.{did_fine}

module _ (long : ℕ) (mem : Bytes) (st : Store) (log : Bytes) (s : State) (v : Shaped st s) (b : Bounded (reach_of long) (length mem) st s) where
  in_limits : (st' : Store) (u : State) (t : Model) → model_of mem st' u log ≡ t → Shaped st' u → records_fit t ≡ true
  in_limits st' u t e w = ap records_fit (sym e) ∙ fits_all (model_of mem st' u log) (now_fits mem st' u log w)

  -- with no row
  pub did_state : (u : State) (t : Model) → model_of mem st u log ≡ t → Shaped st u → Bounded (reach_of long) (length mem) st u → Kept s u → Did long mem st log s (fine_made u) t
  did_state u t e w c k = did_fine long mem st log s v b u t e (in_limits st u t e w) w c k

  -- with a row
  pub did_row : (r : Row) (t : Model) → 0 < r.kind → model_of mem (rowed st r) (row_counted s) log ≡ t → Shaped (rowed st r) (row_counted s) → Bounded (reach_of long) (length mem) (rowed st r) (row_counted s) → Packs r → Did long mem st log s (row_made s r) t
  did_row r t h e w c p =
      let z = ne_eqb r.kind 0 (λ q. absurd (omega arith)) in
      record { result = rw (z, e, in_limits (rowed st r) (row_counted s) t e w); shaped = rw z w; bounded = rw z c; packs = p; kept = record { count = refl; scope = refl; end = refl; log = refl; words = refl } }

-- what was found, below a scope
pub below_found_lem : (mem : Bytes) (words : List ℕ) (n : ℕ) (t : Option Bytes) (f : Option Span) (scope : Stored) → Finds mem words n t f → maybe_below_of mem (below_found scope f) ≡ option_map (scoped (string mem scope)) t
below_found_lem mem words n t None scope a = rw (← a.is)
below_found_lem mem words n t (Some s) scope a = rw (← a.is)
