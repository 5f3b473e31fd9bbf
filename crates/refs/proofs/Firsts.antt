-- The first byte of a text in pieces: laws as the needs ask them. Assumes nothing.
use Rattle.std.specs.Prelude.{Option, Some, None}
use Prim.Native.Nat.{ℕ, zero, suc, ◌+◌, ◌-◌, ◌≤◌, ◌<◌}
use mathlib.Core.Path.{◌≡◌, refl, sym, ap, ◌∙◌}
use mathlib.Core.Bool.{Bool, true, false, ◌&&◌}
use mathlib.Core.List.{[], ◌∷◌, ◌++◌}
use native.Mathlib.Numerals.{add-one, sub-one}
use lib.Dec.{eqb}
use lib.ListN.{length, take, drop, get_or, drop_of_length-le}
use lib.Seq.{drop-cons}
use borrow.Author.Rules.{rules}
use borrow.Author.Tests.{eqb-true}
use Rattle.text.specs.Ascii.{Bytes, byte}
use Rattle.text.specs.Lists.{take_none}
use Rattle.text.specs.Sames.{both, no_true}
use Rattle.names.specs.Name.{name_of, slash, step_of as name_step}
use Rattle.names.specs.declared.name.Name.{Name}
use Rattle.refs.specs.Text.{front_of, text_of, step_of, Starts, ref_of, no_name, job_ref}
use Rattle.refs.specs.Laws.{none_is, job_is}
use Rattle.refs.specs.declared.Ref.{Ref}

-- ---- texts that are made: a name that is none

module _ (n l : Name) (c p : Bool) (k at len : ℕ) where
  pub made_last : l ≡ no_name → ref_of n c k p l at len ≡ ref_of n c k p no_name at len
  made_last e = ap (λ (x : Name). ref_of n c k p x at len) e

  pub made_both : n ≡ no_name → l ≡ no_name → ref_of n c k p l at len ≡ ref_of no_name c k p no_name at len
  made_both d e = ap (λ (x : Name). ref_of x c k p l at len) d ∙ ap (λ (x : Name). ref_of no_name c k p x at len) e

pub ruleset made = (rules, made_last, made_both)

-- ---- a part of the job

part_first : (job : Bytes) (at len : ℕ) → (len ≡ 0 → ⊥) → at < length job → take len (drop at job) ≡ get_or job at 0 ∷ take (len - 1) (drop (at + 1) job)
part_first job at zero h g = absurd (h refl)
part_first job at (suc l) h g = rw (drop-cons job at 0 g, add-one, sub-one)

module _ (job : Bytes) (at len : ℕ) where
  pub starts_none : len ≡ 0 → Starts job at len None
  starts_none h = record { is = λ mem. rw h }

  pub starts_past : length job ≤ at → Starts job at len None
  starts_past h = record { is = λ mem. rw (drop_of_length-le job {i = at} h) (take_none len) }

  pub starts_byte : (r : Ref) → (len ≡ 0 → ⊥) → at < length job → r ≡ job_ref (at + 1) (len - 1) → Starts job at len (Some ((get_or job at 0), r))
  starts_byte r h g e = record { is = λ mem. part_first job at len h g ∙ rw (e, job_is job mem (at + 1) (len - 1)) }

pub ruleset starts = (rules, starts_none, starts_past, starts_byte)

-- ---- behind the name

module _ (job mem : Bytes) where
  module _ (n : Name) (at len : ℕ) (p : Option (ℕ × Name)) (e : name_of mem n ≡ name_step mem p) where
    pub last_end_lem : (u : Option (ℕ × Ref)) → p ≡ None → Starts job at len u → name_of mem n ++ take len (drop at job) ≡ step_of job mem u
    last_end_lem u h g = rw (e, h) (g.is mem)

    pub last_byte : (b : ℕ) (x : Ref) (t : Name) → p ≡ Some (b, t) → x ≡ job_ref at len → name_of mem n ++ take len (drop at job) ≡ b ∷ text_of job mem (ref_of x.name x.cut x.upto x.sep t x.at x.len)
    unfolding text_of
    last_byte b x t h g = rw (e, h, g, none_is mem)

  pub behind_sep : (s : Bool) (n : Name) (x : Ref) (at len : ℕ) → s ≡ true → x ≡ job_ref at len → slash s ++ (name_of mem n ++ take len (drop at job)) ≡ byte "/" ∷ text_of job mem (ref_of x.name x.cut x.upto x.sep n x.at x.len)
  unfolding text_of
  behind_sep s n x at len h g = rw (h, g, none_is mem)

  pub behind_none : (s : Bool) (w : Bytes) (u : Option (ℕ × Ref)) → w ≡ step_of job mem u → s ≡ false → slash s ++ w ≡ step_of job mem u
  behind_none s w u e h = rw h e

pub ruleset behinds = (rules, last_end_lem, last_byte, behind_sep, behind_none)

-- ---- the whole

pub front_none : (c : Bool) (k : ℕ) (n : Bytes) → c && eqb k 0 ≡ true → front_of c k n ≡ []
front_none c k n h =
    let b = both c (eqb k 0) h in
    let e : k ≡ 0 = eqb-true k 0 b.1 in
    rw (b.0, e)

pub front_empty : (c : Bool) (k : ℕ) → front_of c k [] ≡ []
front_empty true k = take_none k
front_empty false k = refl

pub front_byte : (c : Bool) (k b : ℕ) (n : Bytes) → c && eqb k 0 ≡ false → front_of c k (b ∷ n) ≡ b ∷ front_of c (k - 1) n
front_byte true zero b n h = absurd (no_true (sym h))
front_byte true (suc k) b n h = rw sub-one
front_byte false k b n h = refl

module _ (job mem : Bytes) (r : Ref) where
  pub next_cut : (u : Option (ℕ × Ref)) → slash r.sep ++ (name_of mem r.last ++ take r.len (drop r.at job)) ≡ step_of job mem u → (r.cut && eqb r.upto 0) ≡ true → text_of job mem r ≡ step_of job mem u
  unfolding text_of
  next_cut u e h = rw (front_none r.cut r.upto (name_of mem r.name) h) e

  module _ (p : Option (ℕ × Name)) (f : name_of mem r.name ≡ name_step mem p) where
    pub next_end : (u : Option (ℕ × Ref)) → slash r.sep ++ (name_of mem r.last ++ take r.len (drop r.at job)) ≡ step_of job mem u → p ≡ None → text_of job mem r ≡ step_of job mem u
    unfolding text_of
    next_end u e h = rw (f, h, front_empty r.cut r.upto) e

    pub next_byte : (b k : ℕ) (t : Name) → p ≡ Some (b, t) → k ≡ r.upto - 1 → (r.cut && eqb r.upto 0) ≡ false → text_of job mem r ≡ b ∷ text_of job mem (ref_of t r.cut k r.sep r.last r.at r.len)
    unfolding text_of
    next_byte b k t h g z = rw (f, h, g, front_byte r.cut r.upto b (name_of mem t) z)

pub ruleset nexts = (rules, next_cut, next_end, next_byte)
