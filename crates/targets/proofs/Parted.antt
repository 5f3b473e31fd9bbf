-- Whether the first part of a text is a name: laws as the needs ask them. Assumes nothing.
use Prim.Native.Nat.{ℕ, ◌+◌, ◌≤◌, ◌<◌, ◌^◌}
use native.Mathlib.Omega.{arith}
use mathlib.Core.Path.{◌≡◌, sym, ap, ◌∙◌}
use mathlib.Core.Bool.{Bool, true}
use Rattle.std.specs.Prelude.{Option, None, Some}
use mathlib.Core.List.{List, []}
use lib.ListN.{length, drop, get_or, drop_of_length-le}
use borrow.Author.Rules.{rules}
use borrow.Author.Tests.{eq-eqb, ne_eqb}
use Rattle.text.specs.Ascii.{Bytes, byte}
use Rattle.text.specs.Compare.{same}
use Rattle.text.specs.Lists.{here}
use Rattle.names.specs.Name.{name_of}
use Rattle.names.specs.Parts.{parts, behind, part_of, onto_first_lem, onto_others, parts_at, parts_on, parts_none}
use Rattle.names.specs.declared.name.Name.{Name}
use Rattle.names.specs.declared.part.Part.{Part}
use Rattle.names.specs.declared.part.Part.TheVariants as part
use Rattle.refs.specs.Text.{text_of, step_of, whole_ref}
use Rattle.refs.specs.Heads.{is_name}
use Rattle.refs.specs.Laws.{whole_is, name_is}
use Rattle.refs.specs.declared.Ref.{Ref}

-- t is the answer: what is left of the first part is what is left of s, or not
pub record Takes (job mem s : Bytes) (t : Option (List Bytes)) (x : Ref) (i : ℕ) : Type 0 where
  pub keeps : behind (drop i s) (parts (text_of job mem x)) ≡ t
  pub short : length s < 2 ^ 64

pub take_fits : (job mem s : Bytes) (t : Option (List Bytes)) (x : Ref) (i : ℕ) → Takes job mem s t x i → i < length s → i + 1 < 2 ^ 64
take_fits job mem s t x i inv h = omega (arith, inv.short)

module _ (job mem s : Bytes) (t : Option (List Bytes)) (x : Ref) (i : ℕ) (inv : Takes job mem s t x i) where
  pub take_short : text_of job mem x ≡ step_of job mem None → i < length s → None ≡ t
  unfolding same
  take_short e l = rw (e, parts_none, here s i l) at inv.keeps

  pub take_last : text_of job mem x ≡ step_of job mem None → length s ≤ i → Some [] ≡ t
  unfolding same
  take_last e l = rw (e, parts_none, drop_of_length-le s {i = i} l) at inv.keeps

  module _ (b : ℕ) (u : Ref) (e : text_of job mem x ≡ step_of job mem (Some (b, u))) where
    pub take_early : b ≡ byte "/" → i < length s → None ≡ t
    unfolding same
    take_early g l = rw (e, parts_at b (text_of job mem u) g, here s i l) at inv.keeps

    pub take_end : b ≡ byte "/" → length s ≤ i → Some (parts (text_of job mem u)) ≡ t
    unfolding same
    take_end g l = rw (e, parts_at b (text_of job mem u) g, drop_of_length-le s {i = i} l) at inv.keeps

    module _ (g : b ≡ byte "/" → ⊥) where
      pub take_long : length s ≤ i → None ≡ t
      unfolding same
      take_long l = rw (e, parts_on b (text_of job mem u) g, onto_first_lem, drop_of_length-le s {i = i} l) at inv.keeps

      pub take_stop : i < length s → (b ≡ get_or s i 0 → ⊥) → None ≡ t
      unfolding same
      take_stop l z = rw (e, parts_on b (text_of job mem u) g, onto_first_lem, here s i l, ne_eqb b (get_or s i 0) z) at inv.keeps

      pub take_step : i < length s → b ≡ get_or s i 0 → Takes job mem s t u (i + 1)
      unfolding same
      take_step l z = record { keeps = rw (e, parts_on b (text_of job mem u) g, onto_first_lem, onto_others, here s i l, eq-eqb b (get_or s i 0) z) at inv.keeps; short = inv.short }

pub ruleset takes = (rules, take_fits, take_short, take_last, take_early, take_end, take_long, take_stop, take_step)

-- ---- a text that is a whole name

module _ (job mem : Bytes) (r : Ref) (t : Bool) (e : t ≡ is_name r) (h : t ≡ true) (w : Bytes) (p : Part) (k : part_of mem p ≡ behind w (parts (name_of mem r.name))) where
  named_is : part_of mem p ≡ behind w (parts (text_of job mem r))
  named_is = k ∙ ap (λ (x : Bytes). behind w (parts x)) (sym (name_is job mem r (sym e ∙ h)))

  pub name_more : (x : Name) → p ≡ part.Same x → (u : Ref) → u ≡ whole_ref x → Some (parts (text_of job mem u)) ≡ behind w (parts (text_of job mem r))
  name_more x g u f = ap (λ (y : Ref). Some (parts (text_of job mem y))) f ∙ (ap (λ (y : Bytes). Some (parts y)) (whole_is job mem x) ∙ (sym (ap (part_of mem) g) ∙ named_is))

  pub name_last : p ≡ part.Last → Some [] ≡ behind w (parts (text_of job mem r))
  name_last g = sym (ap (part_of mem) g) ∙ named_is

  pub name_other : p ≡ part.Other → None ≡ behind w (parts (text_of job mem r))
  name_other g = sym (ap (part_of mem) g) ∙ named_is

pub ruleset names = (rules, name_more, name_last, name_other)
