-- create_supply_port: what its words come to, and what it does. Assumes nothing.
use Rattle.std.specs.Prelude.{Option, Some, None}
use Rattle.std.specs.Prelude.{ℕ, ◌+◌, ◌≤◌, ◌<◌, max, ◌≡◌, List, [], ◌∷◌, ◌++◌, length}
use Rattle.std.proofs.Common.{arith, sym, ap, ◌∙◌}
use Rattle.std.proofs.Math.Path.{refl}
use Rattle.text.specs.Ascii.{Bytes, ascii}
use Rattle.spans.specs.Span.{◌⋯◌, pairs}
use Rattle.spans.specs.Reach.{last_of, reach, none_reach}
use Rattle.spans.specs.declared.span.Span.{Span}
use Rattle.tcl.specs.Arguments.{option_of, name_of}
use Rattle.args.specs.View.{words_from, Finds}
use Rattle.model.specs.Scope.{scoped}
use Rattle.model.specs.Within.{records_fit}
use Rattle.store.specs.declared.stored.Stored.{Stored}
use Rattle.store.specs.declared.state.State.{State}
use Rattle.store.specs.Tables.{sized_length}
use Rattle.store.specs.Variables.{now_fits}
use Rattle.made.specs.declared.Made.{Made}
use Rattle.made.specs.declared.Brief.{Brief}
use Rattle.made.specs.declared.Deed.TheVariants as deed
use Rattle.made.specs.Made.{brief_of, fine_made, full_made, reach_of, Ready, Did, Does}
use Rattle.made.specs.Dids.{one_over, did_full}
use Rattle.made.specs.Done.{did_state}
use Rattle.model.specs.Records.{Model, SupplyPort as Portʳ, with_ports}
use Rattle.model.specs.Commands.{or_else, port_command}
use Rattle.store.specs.Strings.{string, span_of, maybe_found}
use Rattle.store.specs.View.{Store, port_of, model_of}
use Rattle.store.specs.Order.{of_port}
use Rattle.store.specs.Added.{port_added}
use Rattle.store.specs.Fits.{fit_ports}
use Rattle.store.specs.Steps.{port_view, port_shaped, port_bounded}
use Rattle.store.specs.declared.stored.Below.{Below}
use Rattle.store.specs.declared.state.Port.{Port}
use Rattle.made.specs.Asked.{maybe_found_lem, maybe_by}
use Rattle.portcmds.specs.Named.{BelowIs}

-- the port that the words name, in a scope
unfoldable pub new_port : Bytes → List Bytes → Portʳ
new_port scope ws = record { name = scoped scope (name_of ws); direction = or_else (option_of (ascii "-direction") ws) (ascii "in") }

pub record PortIs (mem : Bytes) (words : List ℕ) (n : ℕ) (scope : Stored) (r : Port) : Type 0 where
  pub is : port_of mem r ≡ new_port (string mem scope) (words_from mem words n 1)
  pub within : (e : Span → ℕ) → e (0 ⋯ 0) ≡ 0 → of_port (λ s. e (span_of s)) r ≤ max (e (span_of scope)) (last_of e (pairs words 0 n))

module _ (mem : Bytes) (words : List ℕ) (n : ℕ) (scope : Stored) where
  pub port_is : (x : Below) (f : Option Span) (y : Option Stored) → BelowIs mem words n scope x → Finds mem words n (option_of (ascii "-direction") (words_from mem words n 1)) f → y ≡ maybe_found f → PortIs mem words n scope (record { name = x; direction = y })
  unfolding port_of new_port
  port_is x f y p q g =
      rw g
      (record {
        is = rw (p.is, maybe_found_lem mem words n (option_of (ascii "-direction") (words_from mem words n 1)) f q);
        within = λ d z. omega (arith, p.within d z, maybe_by mem words n d z (option_of (ascii "-direction") (words_from mem words n 1)) f q);
      })

-- ---- the command
module _ (long : ℕ) (mem : Bytes) (words : List ℕ) (n : ℕ) (st : Store) (log : Bytes) (s : State) (v : Ready long mem words n st s) where
  abbrev ws : List Bytes
  ws = words_from mem words n 1

  abbrev now : Model
  now = model_of mem st s log

  abbrev more : List Portʳ
  more = now.ports ++ (new_port now.scope ws ∷ [])

  told : port_command now ws ≡ with_ports now more
  unfolding port_command new_port
  told = refl

  count : length now.ports ≡ s.ports.n
  unfolding model_of
  count = sized_length (port_of mem) v.shaped.ports

  scope_is_lem : now.scope ≡ string mem s.head.scope
  unfolding model_of
  scope_is_lem = refl

  pub port_full : (r : Made) → 32 ≤ s.ports.n → r ≡ full_made s → Did long mem st log s r (port_command now ws)
  port_full r h e =
      rw e
      (did_full long mem st log s v.shaped v.bounded (port_command now ws)
      (ap records_fit told ∙ fit_ports now (now_fits mem st s log v.shaped) more ∙ one_over now.ports (new_port now.scope ws) s.ports.n 32 count h))

  pub port_fine : (d : Port) (u : State) (r : Made) → s.ports.n < 32 → PortIs mem words n s.head.scope d → u ≡ port_added s d → r ≡ fine_made u → Did long mem st log s r (port_command now ws)
  port_fine d u r h a e g =
      let l : s.ports.n < length s.ports.all = omega (arith, v.shaped.ports.long) in
      rw (g, e)
      (did_state long mem st log s v.shaped v.bounded (port_added s d) (port_command now ws)
      (port_view mem st s log d l ∙ ap (λ (y : Portʳ). with_ports now (now.ports ++ (y ∷ []))) (a.is ∙ ap (λ (z : Bytes). new_port z ws) (sym scope_is_lem)) ∙ sym told)
      (port_shaped st s v.shaped d h)
      (port_bounded (reach_of long) (length mem) st s v.bounded d l (omega (arith, a.within (reach long) (none_reach long), v.line, v.bounded.scope)))
      (record { count = refl; scope = refl; end = refl; log = refl; words = refl }))

-- ---- its deed
module _ (files area : Bytes) (words : List ℕ) (n : ℕ) (b : Brief) where
  abbrev does : Model → Model
  does m = port_command m (words_from (files ++ area) words n 1)

  pub ports_full : 32 ≤ b.ports → Does files area words n (λ (s : State). brief_of s ≡ b) deed.Full does
  ports_full h s e = record { fits = tt; did = λ st log v. port_full (length files) (files ++ area) words n st log s v (full_made s) (omega (arith, ap (λ (z : Brief). z.ports) e)) refl }

  pub ports_more : (d : Port) → b.ports < 32 → PortIs (files ++ area) words n b.scope d → Does files area words n (λ (s : State). brief_of s ≡ b) (deed.Port d) does
  ports_more d h a s e =
      let k : PortIs (files ++ area) words n s.head.scope d = rw (ap (λ (z : Brief). z.scope) e) a in
      record { fits = omega (arith, ap (λ (z : Brief). z.ports) e); did = λ st log v. port_fine (length files) (files ++ area) words n st log s v d (port_added s d) (fine_made (port_added s d)) (omega (arith, ap (λ (z : Brief). z.ports) e)) k refl refl }
