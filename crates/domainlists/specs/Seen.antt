-- Laws: the entries of the stored retentions are those of the records that they stand for; stored records in order give what is asked. Assumes nothing.
use Rattle.std.specs.Prelude.{ℕ, ◌+◌, ◌≤◌, ◌<◌, ◌≡◌, refl, Bool, true, false, cond, take, get_or}
use Rattle.std.proofs.Common.{sym, ap, ◌∙◌, length-append}
use mathlib.Core.List.{List, [], ◌∷◌, ◌++◌, map, flat_map}
use Rattle.std.proofs.Math.ListN.{length}
use Rattle.text.specs.Ascii.{Bytes}
use Rattle.text.specs.Compare.{same}
use Rattle.design.specs.Lists.{those}
use Rattle.design.specs.Paths.{retained_path}
use Rattle.model.specs.Records.{Domain as Domainʳ, Retention as Retentionʳ}
use Rattle.model.specs.Within.{total}
use Rattle.texts.specs.Setting.{Setting}
use Rattle.texts.specs.Domains.{retained_entries, own_retained}
use Rattle.store.specs.Strings.{string}
use Rattle.store.specs.View.{Store, domain_of, retention_of, model_of}
use Rattle.store.specs.Order.{Within, none_left, one_more, of_domain}
use Rattle.store.specs.Tables.{within_get}
use Rattle.store.specs.declared.stored.Stored.{Stored}
use Rattle.store.specs.declared.state.Domain.{Domain}
use Rattle.store.specs.declared.state.Retention.{Retention}
use Rattle.store.specs.declared.state.State.{State}
use Rattle.made.specs.Made.{reach_of}
use Rattle.setting.specs.Orders.{Orders, holds_at, holds_long, domains_hold, retentions_hold}
use Rattle.domainlists.specs.Lists.{entries_of, all_entries, is_of, own_entries, OfDomain, OfRetentions}

-- ---- the entries

all_seen : (mem : Bytes) (l : List Retention) → flat_map (λ (r : Retentionʳ). r.elements) (map (retention_of mem) l) ≡ flat_map (entries_of mem) l
unfolding retention_of flat_map
all_seen mem [] = refl
all_seen mem (x ∷ l) = ap (λ (r : List Bytes). entries_of mem x ++ r) (all_seen mem l)

pub all_entries_lem : (mem : Bytes) (st : Store) (s : State) (log : Bytes) → retained_entries (model_of mem st s log) ≡ all_entries mem s.retentions
unfolding model_of
all_entries_lem mem st s log = all_seen mem (take s.retentions.n s.retentions.all)

abbrev named : Bytes → Stored → Retentionʳ → Bool
named mem domain r = same r.domain (string mem domain)

own_first : (mem : Bytes) (domain : Stored) (x : Retention) (rs : List Retentionʳ) (xs : List Retention) (b : Bool) → is_of mem domain x ≡ b → flat_map (λ (r : Retentionʳ). r.elements) rs ≡ flat_map (entries_of mem) xs
    → flat_map (λ (r : Retentionʳ). r.elements) (cond (named mem domain (retention_of mem x)) (retention_of mem x ∷ rs) rs) ≡ flat_map (entries_of mem) (cond b (x ∷ xs) xs)
unfolding retention_of flat_map
own_first mem domain x rs xs true e h = rw e (ap (λ (r : List Bytes). entries_of mem x ++ r) h)
own_first mem domain x rs xs false e h = rw e h

own_seen : (mem : Bytes) (domain : Stored) (l : List Retention) → flat_map (λ (r : Retentionʳ). r.elements) (those (named mem domain) (map (retention_of mem) l)) ≡ flat_map (entries_of mem) (those (is_of mem domain) l)
unfolding those flat_map
own_seen mem domain [] = refl
own_seen mem domain (x ∷ l) = own_first mem domain x (those (named mem domain) (map (retention_of mem) l)) (those (is_of mem domain) l) (is_of mem domain x) refl (own_seen mem domain l)

pub own_entries_lem : (mem : Bytes) (st : Store) (s : State) (log : Bytes) (t : Setting) (d : Domain) → t.records ≡ model_of mem st s log → map (retained_path t.scope) (own_entries mem s.retentions d.name) ≡ own_retained t (domain_of mem d)
unfolding model_of domain_of
own_entries_lem mem st s log t d e = rw e (ap (map (retained_path t.scope)) (sym (own_seen mem d.name (take s.retentions.n s.retentions.all))))

-- ---- what is asked

-- a bound of the records is one of what stands for them
pub within_map : {A B : Type 0} (f : B → ℕ) (g : A → B) (n : ℕ) (l : List A) → Within f n (map g l) → Within (λ (a : A). f (g a)) n l
within_map f g n [] w = none_left
within_map f g n (x ∷ l) (one_more p w) = one_more p (within_map f g n l w)

total_flat : (mem : Bytes) (l : List Retention) → total (map (λ (r : Retentionʳ). length r.elements) (map (retention_of mem) l)) ≡ length (flat_map (entries_of mem) l)
unfolding total flat_map retention_of
total_flat mem [] = refl
total_flat mem (x ∷ l) = ap (λ (n : ℕ). length (entries_of mem x) + n) (total_flat mem l) ∙ sym (length-append (entries_of mem x) (flat_map (entries_of mem) l))

module _ (files area : Bytes) (nums : List ℕ) (s : State) (o : Orders files area nums s) where
  pub elements_few : Within (λ (d : Domain). length (domain_of (files ++ area) d).elements) 65 (take s.domains.n s.domains.all)
  unfolding model_of
  elements_few = within_map (λ (d : Domainʳ). length d.elements) (domain_of (files ++ area)) 65 (take s.domains.n s.domains.all) o.few.domains

  pub orders_domain : (table : List ℕ) (i : ℕ) (d : Domain) → i < s.domains.n → 325 ≤ length table → OfDomain files area (get_or s.domains.all i d) table
  orders_domain table i d h room =
      let e : of_domain (reach_of (length files)) (get_or s.domains.all i d) ≤ length (files ++ area) = holds_at (of_domain (reach_of (length files))) (length (files ++ area)) s.domains.n s.domains.all (domains_hold files area nums s o) i d h in
      let l : s.domains.n ≤ length s.domains.all = holds_long (of_domain (reach_of (length files))) (length (files ++ area)) s.domains.n s.domains.all (domains_hold files area nums s o) in
      record { small = o.small; strings = e; few = within_get (λ (x : Domain). length (domain_of (files ++ area) x).elements) s.domains.all s.domains.n i d elements_few h l; room = room }

  pub retained_few : length (all_entries (files ++ area) s.retentions) ≤ 1024
  unfolding model_of
  retained_few = rw (total_flat (files ++ area) (take s.retentions.n s.retentions.all)) at o.few.retained

  pub orders_retentions : (table : List ℕ) → 5120 ≤ length table → OfRetentions files area s.retentions table
  orders_retentions table room = record { small = o.small; holds = retentions_hold files area nums s o; few = retained_few; room = room }
