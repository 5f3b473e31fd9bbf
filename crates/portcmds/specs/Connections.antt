-- connect_supply_net: what it does. Assumes nothing.
use Rattle.std.specs.Prelude.{Option, Some, None}
use Rattle.std.specs.Prelude.{ℕ, ◌+◌, ◌≡◌, length}
use Rattle.std.proofs.Common.{arith, ◌∙◌}
use Rattle.std.proofs.Math.Path.{refl, sym, ap}
use mathlib.Core.List.{List, [], ◌∷◌, ◌++◌, map}
use Rattle.text.specs.Ascii.{Bytes, ascii}
use Rattle.spans.specs.Reach.{reach, reach_end, none_reach}
use Rattle.spans.specs.declared.span.Span.{Span}
use Rattle.tcl.specs.Arguments.{option_of, name_of}
use Rattle.args.specs.View.{words_from, Reads, Finds}
use Rattle.model.specs.Scope.{scoped}
use Rattle.model.specs.Records.{Model, Connection, with_connections}
use Rattle.model.specs.Commands.{option_list, connect_command}
use Rattle.store.specs.Strings.{span_of, stored_of, found_or}
use Rattle.store.specs.View.{Store, connections_of, model_of}
use Rattle.store.specs.Added.{row_counted}
use Rattle.store.specs.Rowed.{connection_view, row_shaped, row_bounded}
use Rattle.store.specs.declared.stored.Stored.{Stored}
use Rattle.store.specs.declared.row.Row.{Row}
use Rattle.store.specs.declared.state.State.{State}
use Rattle.made.specs.declared.Made.{Made}
use Rattle.made.specs.declared.Brief.{Brief}
use Rattle.made.specs.declared.Deed.TheVariants as deed
use Rattle.made.specs.Made.{brief_of, row_made, reach_of, Ready, Did, Does}
use Rattle.made.specs.Done.{did_row}
use Rattle.made.specs.Asked.{list_found, found_by_lem}

-- the connections that the words name, in a scope
unfoldable pub new_connections : Bytes → List Bytes → List Connection
new_connections scope ws = map (λ (p : Bytes). record { port = scoped scope p; net = scoped scope (name_of ws) }) (option_list "-ports" ws)

module _ (long : ℕ) (mem : Bytes) (words : List ℕ) (n : ℕ) (st : Store) (log : Bytes) (s : State) (v : Ready long mem words n st s) where
  abbrev ws : List Bytes
  ws = words_from mem words n 1

  abbrev now : Model
  now = model_of mem st s log

  told : connect_command now ws ≡ with_connections now (now.connections ++ new_connections now.scope ws)
  unfolding connect_command new_connections
  told = refl

  module _ (r : Span) (f : Option Span) (a : Reads mem words n (name_of ws) r) (q : Finds mem words n (option_of (ascii "-ports") ws) f) where
    abbrev row : Row
    row = record { kind = 1; scope = s.head.scope; name = stored_of r; value = found_or f }

    row_is_lem : connections_of mem row ≡ new_connections now.scope ws
    unfolding connections_of new_connections model_of
    row_is_lem = rw (a.is, list_found mem words n (option_of (ascii "-ports") ws) f q)

    row_view : model_of mem (record { rows = st.rows ++ (row ∷ []); words = st.words }) (row_counted s) log ≡ connect_command now ws
    unfolding model_of
    row_view = connection_view mem st (row_counted s) log row refl ∙ ap (λ (l : List Connection). with_connections now (now.connections ++ l)) row_is_lem ∙ sym told

    pub connect_fine : (x y : Stored) (m : Made) → x ≡ stored_of r → y ≡ found_or f → m ≡ row_made s (record { kind = 1; scope = s.head.scope; name = x; value = y }) → Did long mem st log s m (connect_command now ws)
    connect_fine x y m ex ey em =
        rw (em, ex, ey)
        (did_row long mem st log s v.shaped v.bounded row (connect_command now ws) (omega arith) row_view
        (row_shaped st s row v.shaped (omega arith) (omega arith))
        (row_bounded (reach_of long) (length mem) st s row v.bounded (omega (arith, v.line, v.bounded.scope, a.within (reach long) (none_reach long), found_by_lem mem words n (reach long) (none_reach long) (option_of (ascii "-ports") ws) f q)))
        (record { kind = omega arith; at = omega (arith, v.small, v.bounded.scope, reach_end long (span_of s.head.scope)); len = omega (arith, v.shaped.scope) }))

-- ---- its deed
pub connected : (files area : Bytes) (words : List ℕ) (n : ℕ) (b : Brief) (r : Span) (f : Option Span) (x y : Stored) → Reads (files ++ area) words n (name_of (words_from (files ++ area) words n 1)) r → Finds (files ++ area) words n (option_of (ascii "-ports") (words_from (files ++ area) words n 1)) f → x ≡ stored_of r → y ≡ found_or f → Does files area words n (λ (s : State). brief_of s ≡ b) (deed.Row (record { kind = 1; scope = b.scope; name = x; value = y })) (λ (m : Model). connect_command m (words_from (files ++ area) words n 1))
connected files area words n b r f x y a q ex ey s e =
    rw (← (ap (λ (z : Brief). z.scope) e))
    (record { fits = tt; did = λ st log v. connect_fine (length files) (files ++ area) words n st log s v r f a q x y (row_made s (record { kind = 1; scope = s.head.scope; name = x; value = y })) ex ey refl })
