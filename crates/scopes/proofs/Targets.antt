-- Laws: where a word moves the scope. Assumes nothing.
use Rattle.std.specs.Prelude.{Option, Some, None}
use Prim.Native.Nat.{ℕ, suc, ◌+◌, ◌-◌, ◌*◌, ◌≤◌, ◌<◌, ◌^◌}
use native.Mathlib.Omega.{arith}
use mathlib.Core.Path.{◌≡◌, refl, sym, ap, ◌∙◌}
use mathlib.Core.Bool.{Bool, true, false, cond, ◌||◌}
use mathlib.Core.List.{[], ◌∷◌, ◌++◌}
use lib.Dec.{eqb}
use lib.ListN.{length, take, drop, length-take, length-drop, length-append}
use lib.Seq.{take-take, drop-drop}
use borrow.Author.Rules.{rules}
use borrow.Author.Tests.{eq-eqb, ne_eqb}
use Rattle.text.specs.Ascii.{Bytes, byte}
use Rattle.text.specs.Compare.{same}
use Rattle.text.specs.Lists.{drop_take, no_bytes}
use Rattle.text.specs.Scan.{any}
use Rattle.text.specs.Sames.{differ}
use Rattle.spans.specs.Span.{◌⋯◌, bytes}
use Rattle.spans.specs.Reach.{reach, Held, filed, stored, reach_held, held_by, reach_end}
use Rattle.spans.specs.declared.span.Span.{Span}
use Rattle.spans.specs.Span.{got_of}
use Rattle.model.specs.Scope.{scoped, up, moved, entered}
use Rattle.model.specs.Up.{slashed, up_size, up_is, up_short, size_step}
use Rattle.scopes.specs.Target.{Rooted, Targets}

-- ---- the last slash: i bytes are passed, the last of them that is a slash stands at `last`, and x is left
pub record Passed (mem : Bytes) (s : Span) (i last : ℕ) (x : Span) : Type 0 where
  pub size : up_size (bytes mem s) ≡ cond (slashed (bytes mem x)) (i + up_size (bytes mem x)) last
  pub left : i + length (bytes mem x) ≡ length (bytes mem s)

module _ (mem : Bytes) (s : Span) where
  start_by : (t : Bytes) → up_size t ≡ cond (slashed t) (0 + up_size t) 0
  unfolding up_size any
  start_by [] = refl
  start_by (x ∷ t) = go (eqb x (byte "/")) (slashed t)
    where
      go : (p q : Bool) → cond q (suc (up_size t)) 0 ≡ cond (p || q) (0 + cond q (suc (up_size t)) 0) 0
      go true true = omega arith
      go true false = omega arith
      go false true = omega arith
      go false false = refl

  pub passed_start : Passed mem s 0 0 s
  passed_start = record { size = start_by (bytes mem s); left = omega arith }

  module _ (i last : ℕ) (x : Span) (v : Passed mem s i last x) where
    pub passed_end : (p : Option (ℕ × Span)) → bytes mem x ≡ got_of mem p → p ≡ None → last ≡ up_size (bytes mem s)
    unfolding any
    passed_end p e h = sym (v.size ∙ rw (e, h))

    module _ (p : Option (ℕ × Span)) (e₀ : bytes mem x ≡ got_of mem p) (b : ℕ) (t : Span) (h : p ≡ Some (b, t)) where
      pub passed_step : (r : ℕ) → r ≡ cond (eqb b 47) i last → Passed mem s (i + 1) r t
      passed_step r g =
          let e : bytes mem x ≡ got_of mem (Some (b, t)) = e₀ ∙ ap (got_of mem) h in
          record {
            size = v.size ∙ rw (e, g) (size_step i last b (bytes mem t));
            left = omega (arith, v.left, ap length e);
          }

pub passed_le : (files area : Bytes) (s : Span) (i last : ℕ) (x : Span) → Passed (files ++ area) s i last x → i ≤ length files + length area
unfolding bytes
passed_le files area s i last x v =
    omega (arith, v.left, length-take s.len (drop s.at (files ++ area)), length-drop s.at (files ++ area), length-append files area)

pub passed_add : (files area : Bytes) (s : Span) (i last : ℕ) (x : Span) → Passed (files ++ area) s i last x → length files * 1 < 2 ^ 63 → length area * 1 < 2 ^ 63 → i + 1 < 2 ^ 64
passed_add files area s i last x v h g = omega (arith, passed_le files area s i last x v)

pub passed_less : (mem : Bytes) (x : Span) (p : Option (ℕ × Span)) (b : ℕ) (t : Span) → bytes mem x ≡ got_of mem p → p ≡ Some (b, t) → length (bytes mem t) < length (bytes mem x)
passed_less mem x p b t e h = let g : bytes mem x ≡ b ∷ bytes mem t = e ∙ ap (got_of mem) h in omega (arith, ap length g)

pub later_slash : (last i b : ℕ) → b ≡ 47 → i ≡ cond (eqb b 47) i last
later_slash last i b h = rw (eq-eqb b 47 h)

pub later_other : (last i b : ℕ) → (b ≡ 47 → ⊥) → last ≡ cond (eqb b 47) i last
later_other last i b h = rw (ne_eqb b 47 h)

pub ruleset passes = (rules, passed_start, passed_end, passed_add, passed_less, passed_step, later_slash, later_other)

-- ---- how far parts of a string reach
module _ (long n : ℕ) (s : Span) (small : n < 2 ^ 32) (h : reach long s ≤ n) where
  ends : s.at + s.len ≤ n
  ends = omega (arith, reach_end long s)

  pub front_reach : (k : ℕ) → k ≤ s.len → reach long (s.at ⋯ k) ≤ n
  front_reach k g = go (held_by long n s small h)
    where
      go : Held long s → reach long (s.at ⋯ k) ≤ n
      go (filed q) = omega (arith, reach_held long (s.at ⋯ k) (filed (omega arith)), ends)
      go (stored q) = omega (arith, reach_held long (s.at ⋯ k) (stored q), ends)

  pub rest_reach : 0 < s.len → reach long ((s.at + 1) ⋯ (s.len - 1)) ≤ n
  rest_reach g = go (held_by long n s small h)
    where
      go : Held long s → reach long ((s.at + 1) ⋯ (s.len - 1)) ≤ n
      go (filed q) = omega (arith, reach_held long ((s.at + 1) ⋯ (s.len - 1)) (filed (omega arith)), ends)
      go (stored q) = omega (arith, reach_held long ((s.at + 1) ⋯ (s.len - 1)) (stored (omega arith)), ends)

-- ---- the first byte of a name
module _ (mem : Bytes) (name : Span) where
  module _ (p : Option (ℕ × Span)) (e₀ : bytes mem name ≡ got_of mem p) (b : ℕ) (t : Span) (k : p ≡ Some (b, t)) where
    e : bytes mem name ≡ b ∷ bytes mem t
    e = e₀ ∙ ap (got_of mem) k

    long : 0 < length (take name.len (drop name.at mem))
    unfolding bytes
    long = omega (arith, ap length e)

    pub first_len : 1 ≤ name.len
    first_len = omega (arith, long, length-take name.len (drop name.at mem))

    pub first_at_lem : name.at < length mem
    first_at_lem = omega (arith, long, length-take name.len (drop name.at mem), length-drop name.at mem)

    rest_is : bytes mem ((name.at + 1) ⋯ (name.len - 1)) ≡ drop 1 (bytes mem name)
    unfolding bytes
    rest_is = sym (drop_take 1 name.len (drop name.at mem) ∙ rw drop-drop)

    pub rooted_slash : b ≡ 47 → Rooted mem name (Some ((name.at + 1) ⋯ (name.len - 1)))
    unfolding same
    rooted_slash g =
        record {
          is = λ scope. rest_is ∙ rw (e, eq-eqb b 47 g);
          within = λ l n small h. rest_reach l n name small h first_len;
        }

    pub rooted_other : (b ≡ 47 → ⊥) → Rooted mem name None
    unfolding same
    rooted_other g = record { is = λ scope. rw (e, ne_eqb b 47 g); within = λ l n small h. omega arith }

  pub rooted_none : (p : Option (ℕ × Span)) → bytes mem name ≡ got_of mem p → p ≡ None → Rooted mem name None
  unfolding same
  rooted_none p e h = record { is = λ scope. rw (e, h); within = λ l n small h. omega arith }

-- its place is within the slices
pub first_two : (files area : Bytes) (name : Span) (p : Option (ℕ × Span)) (b : ℕ) (t : Span) → bytes (files ++ area) name ≡ got_of (files ++ area) p → p ≡ Some (b, t) → name.at < length files + length area
first_two files area name p b t e k = omega (arith, first_at_lem (files ++ area) name p e b t k, length-append files area)

-- and can be counted on
pub first_add : (files area : Bytes) (name : Span) (p : Option (ℕ × Span)) (b : ℕ) (t : Span) → bytes (files ++ area) name ≡ got_of (files ++ area) p → p ≡ Some (b, t) → length files * 1 < 2 ^ 63 → length area * 1 < 2 ^ 63 → name.at + 1 < 2 ^ 64
first_add files area name p b t e k h g = omega (arith, first_two files area name p b t e k)

pub ruleset roots = (rules, first_len, first_add, rooted_slash, rooted_other, rooted_none)

-- ---- set_scope, load_upf -scope
none_is : (mem : Bytes) → bytes mem (0 ⋯ 0) ≡ []
unfolding bytes
none_is mem = refl

none_within : (long n : ℕ) → reach long (0 ⋯ 0) ≤ n
none_within long n = omega (arith, reach_held long (0 ⋯ 0) (filed (omega arith)))

front_is : (mem : Bytes) (s : Span) (k : ℕ) → k ≡ up_size (bytes mem s) → bytes mem (s.at ⋯ k) ≡ up (bytes mem s)
unfolding bytes
front_is mem s k e =
    let l : k ≤ s.len = omega (arith, e, up_short (take s.len (drop s.at mem)), length-take s.len (drop s.at mem)) in
    sym (up_is (take s.len (drop s.at mem)) ∙ rw (← e, take-take k s.len (drop s.at mem) l))

module _ (mem : Bytes) (scope name : Span) where
  module _ (t : Bool) (e : t ≡ same (bytes mem name) (46 ∷ [])) where
    pub moved_dot : t ≡ true → Targets mem scope name (moved (bytes mem scope) (bytes mem name)) (Some (0 ⋯ 0))
    unfolding moved
    moved_dot h = record { is = none_is mem ∙ rw (← e, h); within = λ l n small g k. none_within l n }

    pub entered_dot : t ≡ true → Targets mem scope name (entered (bytes mem scope) (bytes mem name)) (Some scope)
    unfolding entered
    entered_dot h = record { is = rw (← e, h); within = λ l n small g k. g }

    module _ (h : t ≡ false) where
      pub entered_slash : (t' : Bool) → t' ≡ same (bytes mem name) (47 ∷ []) → t' ≡ true → Targets mem scope name (entered (bytes mem scope) (bytes mem name)) (Some scope)
      unfolding entered
      entered_slash t' e' h' = record { is = rw (← e, h, ← e', h'); within = λ l n small g k. g }

      pub entered_on : (t' : Bool) → t' ≡ same (bytes mem name) (47 ∷ []) → t' ≡ false → (r : Option Span) → Rooted mem name r → Targets mem scope name (entered (bytes mem scope) (bytes mem name)) r
      unfolding entered scoped
      entered_on t' e' h' r v = record { is = v.is (bytes mem scope) ∙ rw (← e, h, ← e', h'); within = λ l n small g k. v.within l n small k }

      module _ (k : ℕ) (ek : k ≡ length (bytes mem name)) where
        pub moved_empty : k ≡ 0 → Targets mem scope name (moved (bytes mem scope) (bytes mem name)) (Some (0 ⋯ 0))
        unfolding moved same
        moved_empty z = record { is = none_is mem ∙ rw (no_bytes (bytes mem name) (sym ek ∙ z)); within = λ l n small g q. none_within l n }

        module _ (z : k ≡ 0 → ⊥) (t' : Bool) (e' : t' ≡ same (bytes mem name) (46 ∷ 46 ∷ [])) where
          some_bytes : same (bytes mem name) [] ≡ false
          some_bytes = sym (differ (bytes mem name) [] (λ q. z (ek ∙ q)))

          pub moved_up : t' ≡ true → (u : ℕ) → u ≡ up_size (bytes mem scope) → Targets mem scope name (moved (bytes mem scope) (bytes mem name)) (Some (scope.at ⋯ u))
          unfolding moved bytes
          moved_up h' u eu =
              let l : u ≤ scope.len = omega (arith, eu, up_short (take scope.len (drop scope.at mem)), length-take scope.len (drop scope.at mem)) in
              record { is = front_is mem scope u eu ∙ rw (← e, h, some_bytes, ← e', h'); within = λ l' n small g q. front_reach l' n scope small g u l }

          pub moved_on_lem : t' ≡ false → (r : Option Span) → Rooted mem name r → Targets mem scope name (moved (bytes mem scope) (bytes mem name)) r
          unfolding moved scoped
          moved_on_lem h' r v = record { is = v.is (bytes mem scope) ∙ rw (← e, h, some_bytes, ← e', h'); within = λ l n small g q. v.within l n small q }

pub ruleset moves = (rules, moved_dot, moved_empty, moved_up, moved_on_lem)

pub ruleset enters = (rules, entered_dot, entered_slash, entered_on)
