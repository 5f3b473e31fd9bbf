-- create_power_domain: what its words come to, and what it does. Assumes nothing.
use Rattle.std.specs.Prelude.{Option, Some}
use Rattle.std.specs.Prelude.{ℕ, ◌+◌, ◌≤◌, ◌<◌, max, ◌≡◌, Bool, cond, List, [], ◌∷◌, ◌++◌, map, length, None}
use Rattle.std.proofs.Common.{arith, sym, ap, ◌∙◌}
use Rattle.std.proofs.Math.Path.{refl}
use Rattle.text.specs.Ascii.{Bytes, ascii}
use Rattle.spans.specs.Span.{◌⋯◌, pairs}
use Rattle.spans.specs.Reach.{last_of, reach, none_reach}
use Rattle.spans.specs.declared.span.Span.{Span}
use Rattle.tcl.specs.Arguments.{option_of, has_flag, name_of}
use Rattle.args.specs.View.{words_from, Reads, Finds}
use Rattle.model.specs.Scope.{scoped}
use Rattle.model.specs.Records.{Domain as Domainʳ, with_domains}
use Rattle.model.specs.Commands.{option_list, domain_command}
use Rattle.model.specs.Within.{records_fit}
use Rattle.store.specs.Strings.{string, span_of, stored_of, found_or}
use Rattle.store.specs.View.{Store, domain_of, model_of}
use Rattle.store.specs.Order.{of_domain}
use Rattle.store.specs.Added.{domain_added}
use Rattle.store.specs.Tables.{sized_length}
use Rattle.store.specs.Fits.{fit_domains}
use Rattle.store.specs.Variables.{now_fits}
use Rattle.store.specs.Steps.{domain_view, domain_shaped, domain_bounded}
use Rattle.store.specs.declared.stored.Stored.{Stored}
use Rattle.store.specs.declared.state.Domain.{Domain}
use Rattle.store.specs.declared.state.State.{State}
use Rattle.made.specs.declared.Made.{Made}
use Rattle.made.specs.Made.{fine_made, full_made, reach_of, Ready, Did}
use Rattle.made.specs.Dids.{one_fits, one_over, did_fine, did_full}
use Rattle.made.specs.Asked.{list_found, found_by_lem}

-- the domain that the words name, in a scope
unfoldable pub new_domain : Bytes → List Bytes → Domainʳ
new_domain scope ws =
    record {
      name = name_of ws;
      elements = map (scoped scope) (option_list "-elements" ws) ++ cond (has_flag (ascii "-include_scope") ws) (scope ∷ []) [];
      power = None;
      ground_net = None;
      scope = scope;
    }

pub record DomainIs (mem : Bytes) (words : List ℕ) (n : ℕ) (scope : Stored) (r : Domain) : Type 0 where
  pub is : domain_of mem r ≡ new_domain (string mem scope) (words_from mem words n 1)
  pub within : (e : Span → ℕ) → e (0 ⋯ 0) ≡ 0 → of_domain (λ s. e (span_of s)) r ≤ max (e (span_of scope)) (last_of e (pairs words 0 n))

module _ (mem : Bytes) (words : List ℕ) (n : ℕ) (scope : Stored) where
  pub domain_is : (named : Span) (x : Stored) (f : Option Span) (y : Stored) (b : Bool) → Reads mem words n (name_of (words_from mem words n 1)) named → x ≡ stored_of named → Finds mem words n (option_of (ascii "-elements") (words_from mem words n 1)) f → y ≡ found_or f → b ≡ has_flag (ascii "-include_scope") (words_from mem words n 1) → DomainIs mem words n scope (record { name = x; elements = y; whole = b; power = None; ground_net = None; scope = scope })
  unfolding domain_of new_domain
  domain_is named x f y b p e q g h =
      rw (e, g, h)
      (record {
        is = rw (p.is, list_found mem words n (option_of (ascii "-elements") (words_from mem words n 1)) f q);
        within = λ d z. omega (arith, p.within d z, found_by_lem mem words n d z (option_of (ascii "-elements") (words_from mem words n 1)) f q);
      })

-- ---- the command
module _ (long : ℕ) (mem : Bytes) (words : List ℕ) (n : ℕ) (st : Store) (log : Bytes) (s : State) (v : Ready long mem words n st s) where
  told : domain_command (model_of mem st s log) (words_from mem words n 1) ≡ with_domains (model_of mem st s log) ((model_of mem st s log).domains ++ (new_domain (model_of mem st s log).scope (words_from mem words n 1) ∷ []))
  unfolding domain_command new_domain
  told = refl

  count : length (model_of mem st s log).domains ≡ s.domains.n
  unfolding model_of
  count = sized_length (domain_of mem) v.shaped.domains

  pub domain_full : (r : Made) → 32 ≤ s.domains.n → r ≡ full_made s → Did long mem st log s r (domain_command (model_of mem st s log) (words_from mem words n 1))
  domain_full r h e =
      rw e
      (did_full long mem st log s v.shaped v.bounded (domain_command (model_of mem st s log) (words_from mem words n 1))
      (ap records_fit told
      ∙ fit_domains (model_of mem st s log) (now_fits mem st s log v.shaped) ((model_of mem st s log).domains ++ (new_domain (model_of mem st s log).scope (words_from mem words n 1) ∷ []))
      ∙ one_over (model_of mem st s log).domains (new_domain (model_of mem st s log).scope (words_from mem words n 1)) s.domains.n 32 count h))

  scope_is_lem : (model_of mem st s log).scope ≡ string mem s.head.scope
  unfolding model_of
  scope_is_lem = refl

  pub domain_fine : (d : Domain) (u : State) (r : Made) → s.domains.n < 32 → DomainIs mem words n s.head.scope d → u ≡ domain_added s d → r ≡ fine_made u → Did long mem st log s r (domain_command (model_of mem st s log) (words_from mem words n 1))
  domain_fine d u r h a e g =
      let l : s.domains.n < length s.domains.all = omega (arith, v.shaped.domains.long) in
      rw (g, e)
      (did_fine long mem st log s v.shaped v.bounded (domain_added s d) (domain_command (model_of mem st s log) (words_from mem words n 1))
      (domain_view mem st s log d l ∙ ap (λ (x : Domainʳ). with_domains (model_of mem st s log) ((model_of mem st s log).domains ++ (x ∷ []))) (a.is ∙ ap (λ (z : Bytes). new_domain z (words_from mem words n 1)) (sym scope_is_lem)) ∙ sym told)
      (ap records_fit told
      ∙ fit_domains (model_of mem st s log) (now_fits mem st s log v.shaped) ((model_of mem st s log).domains ++ (new_domain (model_of mem st s log).scope (words_from mem words n 1) ∷ []))
      ∙ one_fits (model_of mem st s log).domains (new_domain (model_of mem st s log).scope (words_from mem words n 1)) s.domains.n 32 count h)
      (domain_shaped st s v.shaped d h)
      (domain_bounded (reach_of long) (length mem) st s v.bounded d l (omega (arith, a.within (reach long) (none_reach long), v.line, v.bounded.scope)))
      (record { count = refl; scope = refl; end = refl; log = refl; words = refl }))
