-- Laws: the entries of some retentions are no more than those of all. Assumes nothing.
use Rattle.store.specs.declared.state.Few.{Few}
use Rattle.store.specs.declared.state.Retention.{Retention}
use Rattle.std.specs.Prelude.{◌≤◌, ◌≡◌, refl, Bool, true, false, cond, length, take}
use Rattle.std.proofs.Common.{ap, arith, length-append}
use mathlib.Core.List.{List, [], ◌∷◌, ◌++◌, flat_map}
use Rattle.text.specs.Ascii.{Bytes}
use Rattle.design.specs.Lists.{those}
use Rattle.store.specs.declared.stored.Stored.{Stored}
use Rattle.domainlists.specs.Lists.{entries_of, all_entries, is_of, own_entries}

pub flat_first : {A B : Type 0} (f : A → List B) (x : A) (l : List A) → flat_map f (x ∷ l) ≡ f x ++ flat_map f l
unfolding flat_map
flat_first f x l = refl

pub those_flat : {A B : Type 0} (p : A → Bool) (f : A → List B) (l : List A) → length (flat_map f (those p l)) ≤ length (flat_map f l)
unfolding those
those_flat p f [] = omega arith
those_flat p f (x ∷ l) = go (p x) (those_flat p f l)
  where
    go : (b : Bool) → length (flat_map f (those p l)) ≤ length (flat_map f l) → length (flat_map f (cond b (x ∷ those p l) (those p l))) ≤ length (flat_map f (x ∷ l))
    go true h = omega (arith, h, length-append (f x) (flat_map f (those p l)), length-append (f x) (flat_map f l), ap length (flat_first f x (those p l)), ap length (flat_first f x l))
    go false h = omega (arith, h, length-append (f x) (flat_map f l), ap length (flat_first f x l))

pub own_less : (mem : Bytes) (t : Few Retention) (domain : Stored) → length (own_entries mem t domain) ≤ length (all_entries mem t)
own_less mem t domain = those_flat (is_of mem domain) (entries_of mem) (take t.n t.all)
