-- Laws: what a deed does to every state of which the brief and the domains are known. Assumes nothing.
use Rattle.store.specs.declared.state.Few.{Few}
use Rattle.std.specs.Prelude.{Option, Some, None}
use Rattle.store.specs.declared.stored.Below.{Below}
use Prim.Native.Nat.{ℕ, ◌≤◌, ◌<◌}
use native.Mathlib.Omega.{arith}
use mathlib.Core.Path.{◌≡◌, refl, sym, ap, ◌∙◌}
use mathlib.Core.List.{List, ◌++◌}
use lib.ListN.{length, get_or, take}
use Rattle.text.specs.Ascii.{Bytes, ascii}
use Rattle.spans.specs.declared.span.Span.{Span}
use Rattle.tcl.specs.Arguments.{option_of, name_of}
use Rattle.args.specs.View.{words_from, Reads, Finds}
use Rattle.model.specs.Records.{Model}
use Rattle.model.specs.Commands.{domain_command, supply_command}
use Rattle.store.specs.Strings.{stored_of, below_found}
use Rattle.store.specs.Added.{supplied_by}
use Rattle.store.specs.First.{first_at}
use Rattle.store.specs.declared.stored.Stored.{Stored}
use Rattle.store.specs.declared.state.Domain.{Domain}
use Rattle.store.specs.declared.state.State.{State}
use Rattle.made.specs.declared.Brief.{Brief}
use Rattle.made.specs.declared.Deed.TheVariants as deed
use Rattle.made.specs.Made.{brief_of, done_by, Does}
use Rattle.finddomain.specs.Named.{is_named}
use Rattle.domaincmds.specs.Domains.{DomainIs, domain_full, domain_fine}
use Rattle.domaincmds.specs.Supplies.{supply_warned, supply_fine}

module _ (files area : Bytes) (words : List ℕ) (n : ℕ) (b : Brief) where
  abbrev mem : Bytes
  mem = files ++ area

  abbrev ws : List Bytes
  ws = words_from mem words n 1

  -- ---- create_power_domain
  pub domain_full_does : 32 ≤ b.domains → Does files area words n (λ (s : State). brief_of s ≡ b) deed.Full (λ (m : Model). domain_command m ws)
  domain_full_does h = λ s q. record { fits = tt; did = λ st log v. domain_full (length files) mem words n st log s v (done_by s deed.Full) (omega (arith, h, ap (λ (z : Brief). z.domains) q)) refl }

  pub domain_fine_does : (d : Domain) → b.domains < 32 → DomainIs mem words n b.scope d → Does files area words n (λ (s : State). brief_of s ≡ b) (deed.Domain d) (λ (m : Model). domain_command m ws)
  domain_fine_does d h a =
      λ s q.
      let k : s.domains.n < 32 = omega (arith, h, ap (λ (z : Brief). z.domains) q) in
      let c : DomainIs mem words n s.head.scope d = rw (ap (λ (z : Brief). z.scope) q) a in
      record { fits = k; did = λ st log v. domain_fine (length files) mem words n st log s v d _ (done_by s (deed.Domain d)) k c refl refl }

  -- ---- set_domain_supply_net
  module _ (t : Few Domain) where
    abbrev Told : State → Type 0
    Told s = (brief_of s ≡ b) × (s.domains ≡ t)

    module _ (r : Span) (x : Stored) (a : Reads mem words n (name_of ws) r) (e : x ≡ stored_of r) (i : ℕ) (f : i ≡ first_at (is_named mem x) (take t.n t.all)) where
      -- the place is that of the state's table
      place : (s : State) → s.domains ≡ t → i ≡ first_at (is_named mem x) (take s.domains.n s.domains.all)
      place s q = f ∙ ap (λ (z : Few Domain). first_at (is_named mem x) (take z.n z.all)) (sym q)

      pub supply_warned_does : t.n ≤ i → Does files area words n Told (deed.Warning 3 x) (λ (m : Model). supply_command m ws)
      supply_warned_does h = λ s q. record { fits = tt; did = λ st log v. supply_warned (length files) mem words n st log s v r x a e i (place s q.1) (done_by s (deed.Warning 3 x)) (omega (arith, h, ap (λ (z : Few Domain). z.n) q.1)) refl }

      pub supply_fine_does : (z : Domain) → i < t.n → t.n ≤ 32 → (fp fg : Option Span) → Finds mem words n (option_of (ascii "-primary_power_net") ws) fp → Finds mem words n (option_of (ascii "-primary_ground_net") ws) fg → (p g : Option Below) (d : Domain) → p ≡ below_found b.scope fp → g ≡ below_found b.scope fg → d ≡ supplied_by (get_or t.all i z) p g → Does files area words n Told (deed.Supplied i d) (λ (m : Model). supply_command m ws)
      supply_fine_does z h l fp fg af ag p g d ep eg ed =
          λ s q.
          let k : i < s.domains.n = omega (arith, h, ap (λ (y : Few Domain). y.n) q.1) in
          record {
            fits = omega (arith, h, l);
            did = λ st log v.
                supply_fine (length files) mem words n st log s v r x a e i (place s q.1) z k fp fg af ag p g d _ (done_by s (deed.Supplied i d))
                (ep ∙ ap (λ (y : Brief). below_found y.scope fp) (sym q.0))
                (eg ∙ ap (λ (y : Brief). below_found y.scope fg) (sym q.0))
                (ed ∙ ap (λ (y : Few Domain). supplied_by (get_or y.all i z) p g) (sym q.1))
                refl
                refl;
          }
