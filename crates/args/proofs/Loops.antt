-- The loops over a command's words: what is left has the answer. Laws as the needs ask them. Assumes nothing.
use Prim.Native.Nat.{ℕ, suc, ◌+◌, ◌-◌, ◌≤◌, ◌<◌, ◌^◌}
use mathlib.Core.Path.{◌≡◌, refl}
use mathlib.Core.Bool.{Bool, true, false, cond, ◌||◌}
use mathlib.Core.List.{List, [], ◌∷◌}
use Rattle.std.specs.Prelude.{Option, None, Some}
use Rattle.std.specs.Option.{unwrap_or}
use native.Mathlib.Omega.{arith}
use lib.ListN.{length}
use lib.Dec.{leb}
use borrow.Author.Rules.{rules}
use borrow.Author.Tests.{leb-true, leb-false}
use Rattle.text.specs.Ascii.{Bytes}
use Rattle.text.specs.Compare.{same}
use Rattle.spans.specs.Span.{◌⋯◌, bytes, found_of, pair_at, pairs}
use Rattle.spans.specs.Reach.{last_of, one_of}
use Rattle.spans.specs.declared.span.Span.{Span}
use Rattle.tcl.specs.Arguments.{is_option, role_of, positionals_from, option_from, has_flag_from, first_or, last_or, later}
use Rattle.tcl.specs.Arguments as arguments
use Rattle.args.specs.View.{words_from, role_as, pick, found_by, Reads, Finds}
use Rattle.args.specs.Laws.{words_none, words_here}
use Rattle.args.specs.declared.role.Role.{Role}
use Rattle.args.specs.declared.role.Role.TheVariants.{Positional, Flag, Option as Role-as-Option}

-- ---- a turn

-- an option has a word behind it
no_option : (w v : Bytes) → role_of w [] ≡ arguments.Role.option v → ◌≡◌ {A = ℕ} 0 1
unfolding role_of
no_option w v e = go (is_option w) e
  where
    go : (t : Bool) → cond t arguments.Role.flag arguments.Role.positional ≡ arguments.Role.option v → ◌≡◌ {A = ℕ} 0 1
    go true q = cc
    go false q = cc

module _ (mem : Bytes) (words : List ℕ) (n i : ℕ) (r : Role)
    (e : role_of (bytes mem (pair_at words i)) (words_from mem words n (i + 1)) ≡ role_as (bytes mem (pair_at words (i + 1))) r) where
  two : r ≡ Role-as-Option → i + 1 < n
  two g = go (leb n (i + 1)) refl
    where
      go : (t : Bool) → leb n (i + 1) ≡ t → i + 1 < n
      go true q =
          let l : n ≤ i + 1 = leb-true n (i + 1) q in
          let z : ◌≡◌ {A = ℕ} 0 1 = no_option (bytes mem (pair_at words i)) (bytes mem (pair_at words (i + 1))) (rw (words_none mem words n (i + 1) l, g) at e) in
          absurd (omega arith)
      go false q = leb-false n (i + 1) q

  pub two_fits : n < 2 ^ 64 → r ≡ Role-as-Option → i + 2 < 2 ^ 64
  two_fits f g = let h : i + 1 < n = two g in omega arith

  pub two_less : r ≡ Role-as-Option → n - (i + 2) < n - i
  two_less g = let h : i + 1 < n = two g in omega arith

  pub key_fits : n < 2 ^ 64 → r ≡ Role-as-Option → i + 1 < 2 ^ 64
  key_fits f g = let h : i + 1 < n = two g in omega arith

  module _ (h : i < n) where
    pos_flag : r ≡ Flag → positionals_from false (words_from mem words n i) ≡ positionals_from false (words_from mem words n (i + 1))
    unfolding positionals_from
    pos_flag g = rw (words_here mem words n i h, e, g)

    pos_word : r ≡ Positional → positionals_from false (words_from mem words n i) ≡ bytes mem (pair_at words i) ∷ positionals_from false (words_from mem words n (i + 1))
    unfolding positionals_from
    pos_word g = rw (words_here mem words n i h, e, g)

    pos_option : r ≡ Role-as-Option → positionals_from false (words_from mem words n i) ≡ positionals_from false (words_from mem words n (i + 2))
    unfolding positionals_from
    pos_option g =
        let q : i + 1 + 1 ≡ i + 2 = omega arith in
        rw (words_here mem words n i h, e, g) (rw (words_here mem words n (i + 1) (two g), q))

    opt_flag : (key : Bytes) → r ≡ Flag → option_from false key (words_from mem words n i) ≡ option_from false key (words_from mem words n (i + 1))
    unfolding option_from
    opt_flag key g = rw (words_here mem words n i h, e, g) (last (option_from false key (words_from mem words n (i + 1))))
      where
        last : (a : Option Bytes) → later a None ≡ a
        last None = refl
        last (Some v) = refl

    opt_word : (key : Bytes) → r ≡ Positional → option_from false key (words_from mem words n i) ≡ option_from false key (words_from mem words n (i + 1))
    unfolding option_from
    opt_word key g = rw (words_here mem words n i h, e, g) (last (option_from false key (words_from mem words n (i + 1))))
      where
        last : (a : Option Bytes) → later a None ≡ a
        last None = refl
        last (Some v) = refl

    opt_option : (key : Bytes) → r ≡ Role-as-Option → option_from false key (words_from mem words n i) ≡ later (option_from false key (words_from mem words n (i + 2))) (cond (same (bytes mem (pair_at words i)) key) (Some (bytes mem (pair_at words (i + 1)))) None)
    unfolding option_from
    opt_option key g =
        let q : i + 1 + 1 ≡ i + 2 = omega arith in
        rw (words_here mem words n i h, e, g) (rw (words_here mem words n (i + 1) (two g), q))

    flag_flag : (key : Bytes) → r ≡ Flag → has_flag_from false key (words_from mem words n i) ≡ same (bytes mem (pair_at words i)) key || has_flag_from false key (words_from mem words n (i + 1))
    unfolding has_flag_from
    flag_flag key g = rw (words_here mem words n i h, e, g)

    flag_word : (key : Bytes) → r ≡ Positional → has_flag_from false key (words_from mem words n i) ≡ has_flag_from false key (words_from mem words n (i + 1))
    unfolding has_flag_from
    flag_word key g = rw (words_here mem words n i h, e, g)

    flag_option : (key : Bytes) → r ≡ Role-as-Option → has_flag_from false key (words_from mem words n i) ≡ has_flag_from false key (words_from mem words n (i + 2))
    unfolding has_flag_from
    flag_option key g =
        let q : i + 1 + 1 ≡ i + 2 = omega arith in
        rw (words_here mem words n i h, e, g) (rw (words_here mem words n (i + 1) (two g), q))

-- ---- positional word k

pub record Picks (mem : Bytes) (words : List ℕ) (n : ℕ) (t : Option Bytes) (i left : ℕ) : Type 0 where
  pub keeps : pick left (positionals_from false (words_from mem words n i)) ≡ t

module _ (mem : Bytes) (words : List ℕ) (n : ℕ) (t : Option Bytes) (i left : ℕ) (inv : Picks mem words n t i left) where
  pub pick_end : n ≤ i → Finds mem words n t None
  unfolding pick positionals_from
  pick_end h = record { is = rw (words_none mem words n i h) at inv.keeps; within = λ d q. omega arith }

  module _ (h : i < n) (r : Role) (e : role_of (bytes mem (pair_at words i)) (words_from mem words n (i + 1)) ≡ role_as (bytes mem (pair_at words (i + 1))) r) where
    pub pick_flag : r ≡ Flag → Picks mem words n t (i + 1) left
    pick_flag g = record { keeps = rw (pos_flag mem words n i r e h g) at inv.keeps }

    pub pick_option : r ≡ Role-as-Option → Picks mem words n t (i + 2) left
    pick_option g = record { keeps = rw (pos_option mem words n i r e h g) at inv.keeps }

    pub pick_here : (s : Span) → s ≡ pair_at words i → r ≡ Positional → left ≡ 0 → Finds mem words n t (Some s)
    unfolding pick
    pick_here s z g q = record { is = rw z (rw (pos_word mem words n i r e h g, q) at inv.keeps); within = λ d y. rw z (one_of d words n i h) }

    pub pick_on : r ≡ Positional → (left ≡ 0 → ⊥) → Picks mem words n t (i + 1) (left - 1)
    unfolding pick
    pick_on g q =
        let l : left ≡ suc (left - 1) = omega arith in
        let k : pick left (bytes mem (pair_at words i) ∷ positionals_from false (words_from mem words n (i + 1))) ≡ t = rw (pos_word mem words n i r e h g) at inv.keeps in
        record { keeps = rw l at k }

pub ruleset picks = (rules, two_fits, two_less, pick_end, pick_flag, pick_option, pick_here, pick_on)

-- ---- how many there are

pub record Counts (mem : Bytes) (words : List ℕ) (n t i found : ℕ) : Type 0 where
  pub keeps : found + length (positionals_from false (words_from mem words n i)) ≡ t

module _ (mem : Bytes) (words : List ℕ) (n t i found : ℕ) (inv : Counts mem words n t i found) where
  pub count_end : n ≤ i → found ≡ t
  unfolding positionals_from
  count_end h = omega (arith, rw (words_none mem words n i h) at inv.keeps)

  module _ (h : i < n) (r : Role) (e : role_of (bytes mem (pair_at words i)) (words_from mem words n (i + 1)) ≡ role_as (bytes mem (pair_at words (i + 1))) r) where
    pub count_flag : r ≡ Flag → Counts mem words n t (i + 1) found
    count_flag g = record { keeps = rw (pos_flag mem words n i r e h g) at inv.keeps }

    pub count_option : r ≡ Role-as-Option → Counts mem words n t (i + 2) found
    count_option g = record { keeps = rw (pos_option mem words n i r e h g) at inv.keeps }

    pub count_word : r ≡ Positional → Counts mem words n t (i + 1) (found + 1)
    count_word g = record { keeps = omega (arith, rw (pos_word mem words n i r e h g) at inv.keeps) }

pub ruleset counts = (rules, two_fits, two_less, count_end, count_flag, count_option, count_word)

-- ---- the first and the last one

first_is : (x : Bytes) (ps : List Bytes) → Some x ≡ pick 0 ps → x ≡ first_or ps
unfolding pick
first_is x [] e = absurd (let z : ◌≡◌ {A = ℕ} 0 1 = cc in omega arith)
first_is x (p ∷ ps) e = cc

first_none : (ps : List Bytes) → None ≡ pick 0 ps → [] ≡ first_or ps
unfolding pick
first_none [] e = refl
first_none (p ∷ ps) e = absurd (let z : ◌≡◌ {A = ℕ} 0 1 = cc in omega arith)

module _ (mem : Bytes) (words : List ℕ) (n : ℕ) (ps : List Bytes) (r : Option Span) (f : Finds mem words n (pick 0 ps) r) where
  name_at_lem : (s : Span) → r ≡ Some s → Reads mem words n (first_or ps) s
  name_at_lem s g = record { is = first_is (bytes mem s) ps (rw g at f.is); within = λ d q. rw g at (f.within d q) }

  name_none : r ≡ None → Reads mem words n (first_or ps) (0 ⋯ 0)
  unfolding bytes
  name_none g = record { is = first_none ps (rw g at f.is); within = λ d q. omega (arith, q) }

pub name_is : (mem : Bytes) (words : List ℕ) (n : ℕ) (ps : List Bytes) (r : Option Span) → Finds mem words n (pick 0 ps) r → (s : Span) → s ≡ unwrap_or r (0 ⋯ 0) → Reads mem words n (first_or ps) s
name_is mem words n ps None f s e = rw e (name_none mem words n ps None f refl)
name_is mem words n ps (Some x) f s e = rw e (name_at_lem mem words n ps (Some x) f x refl)

pub record Lasts (mem : Bytes) (words : List ℕ) (n : ℕ) (t : Bytes) (i : ℕ) (found : Span) : Type 0 where
  pub keeps : last_or (bytes mem found) (positionals_from false (words_from mem words n i)) ≡ t
  pub within : (d : Span → ℕ) → d (0 ⋯ 0) ≡ 0 → d found ≤ last_of d (pairs words 0 n)

module _ (mem : Bytes) (words : List ℕ) (n : ℕ) (t : Bytes) (i : ℕ) (found : Span) (inv : Lasts mem words n t i found) where
  pub last_end_lem : n ≤ i → Reads mem words n t found
  unfolding positionals_from
  last_end_lem h = record { is = rw (words_none mem words n i h) at inv.keeps; within = inv.within }

  module _ (h : i < n) (r : Role) (e : role_of (bytes mem (pair_at words i)) (words_from mem words n (i + 1)) ≡ role_as (bytes mem (pair_at words (i + 1))) r) where
    pub last_flag : r ≡ Flag → Lasts mem words n t (i + 1) found
    last_flag g = record { keeps = rw (pos_flag mem words n i r e h g) at inv.keeps; within = inv.within }

    pub last_option : r ≡ Role-as-Option → Lasts mem words n t (i + 2) found
    last_option g = record { keeps = rw (pos_option mem words n i r e h g) at inv.keeps; within = inv.within }

    pub last_word : (s : Span) → s ≡ pair_at words i → r ≡ Positional → Lasts mem words n t (i + 1) s
    last_word s z g = record { keeps = rw z (rw (pos_word mem words n i r e h g) at inv.keeps); within = λ d q. rw z (one_of d words n i h) }

pub last_start : (mem : Bytes) (words : List ℕ) (n : ℕ) → Lasts mem words n (last_or [] (positionals_from false (words_from mem words n 1))) 1 (0 ⋯ 0)
unfolding bytes
last_start mem words n = record { keeps = refl; within = λ d q. omega (arith, q) }

pub ruleset lasts = (rules, two_fits, two_less, last_start, last_end_lem, last_flag, last_option, last_word)

-- ---- the value of an option

pub record Values (mem : Bytes) (words : List ℕ) (n : ℕ) (key : Bytes) (t : Option Bytes) (i : ℕ) (found : Option Span) : Type 0 where
  pub keeps : later (option_from false key (words_from mem words n i)) (found_of mem found) ≡ t
  pub within : (d : Span → ℕ) → d (0 ⋯ 0) ≡ 0 → found_by d found ≤ last_of d (pairs words 0 n)

later_later : (mem v : Bytes) (s : Span) (u : Bool) (a : Option Bytes) (f : Option Span) → v ≡ bytes mem s → later (later a (cond u (Some v) None)) (found_of mem f) ≡ later a (found_of mem (cond u (Some s) f))
later_later mem v s u (Some x) f e = refl
later_later mem v s true None f e = rw e
later_later mem v s false None f e = refl

pub value_start : (mem : Bytes) (words : List ℕ) (n : ℕ) (key : Bytes) → Values mem words n key (option_from false key (words_from mem words n 1)) 1 None
value_start mem words n key = record { keeps = go (option_from false key (words_from mem words n 1)); within = λ d q. omega arith }
  where
    go : (a : Option Bytes) → later a None ≡ a
    go None = refl
    go (Some v) = refl

module _ (mem : Bytes) (words : List ℕ) (n : ℕ) (key : Bytes) (t : Option Bytes) (i : ℕ) (found : Option Span) (inv : Values mem words n key t i found) where
  pub value_end : n ≤ i → Finds mem words n t found
  unfolding option_from
  value_end h = record { is = rw (words_none mem words n i h) at inv.keeps; within = inv.within }

  module _ (h : i < n) (r : Role) (e : role_of (bytes mem (pair_at words i)) (words_from mem words n (i + 1)) ≡ role_as (bytes mem (pair_at words (i + 1))) r) where
    pub value_flag : r ≡ Flag → Values mem words n key t (i + 1) found
    value_flag g = record { keeps = rw (opt_flag mem words n i r e h key g) at inv.keeps; within = inv.within }

    pub value_word : r ≡ Positional → Values mem words n key t (i + 1) found
    value_word g = record { keeps = rw (opt_word mem words n i r e h key g) at inv.keeps; within = inv.within }

    pub value_option : (q : Option Span) → q ≡ cond (same (bytes mem (pair_at words i)) key) (Some (pair_at words (i + 1))) found → r ≡ Role-as-Option → Values mem words n key t (i + 2) q
    value_option q z g =
        record {
          keeps = rw (z, ← (later_later mem (bytes mem (pair_at words (i + 1))) (pair_at words (i + 1)) (same (bytes mem (pair_at words i)) key) (option_from false key (words_from mem words n (i + 2))) found refl)) (rw (opt_option mem words n i r e h key g) at inv.keeps);
          within = λ d x. rw z (go d x (same (bytes mem (pair_at words i)) key));
        }
      where
        go : (d : Span → ℕ) → d (0 ⋯ 0) ≡ 0 → (u : Bool) → found_by d (cond u (Some (pair_at words (i + 1))) found) ≤ last_of d (pairs words 0 n)
        go d x true = one_of d words n (i + 1) (two mem words n i r e g)
        go d x false = inv.within d x

-- the value of option word i, or what was found before
module _ (mem : Bytes) (words : List ℕ) (key : Bytes) (i : ℕ) (found : Option Span) (s : Span) (z : s ≡ pair_at words i) (u : Bool) (f : u ≡ same (bytes mem s) key) where
  pub newer_here : (v : Span) → v ≡ pair_at words (i + 1) → u ≡ true → Some v ≡ cond (same (bytes mem (pair_at words i)) key) (Some (pair_at words (i + 1))) found
  newer_here v y t = rw (← z, ← f, t, y)

  pub newer_none : u ≡ false → found ≡ cond (same (bytes mem (pair_at words i)) key) (Some (pair_at words (i + 1))) found
  newer_none t = rw (← z, ← f, t)

pub ruleset newers = (rules, newer_here, newer_none)

pub ruleset values = (rules, two_fits, two_less, key_fits, value_start, value_end, value_flag, value_word, value_option)

-- ---- whether a flag is there

pub record Flags (mem : Bytes) (words : List ℕ) (n : ℕ) (key : Bytes) (t : Bool) (i : ℕ) : Type 0 where
  pub keeps : has_flag_from false key (words_from mem words n i) ≡ t

module _ (mem : Bytes) (words : List ℕ) (n : ℕ) (key : Bytes) (t : Bool) (i : ℕ) (inv : Flags mem words n key t i) where
  pub flag_end : n ≤ i → false ≡ t
  unfolding has_flag_from
  flag_end h = rw (words_none mem words n i h) at inv.keeps

  module _ (h : i < n) (r : Role) (e : role_of (bytes mem (pair_at words i)) (words_from mem words n (i + 1)) ≡ role_as (bytes mem (pair_at words (i + 1))) r) where
    pub flag_pass : r ≡ Positional → Flags mem words n key t (i + 1)
    flag_pass g = record { keeps = rw (flag_word mem words n i r e h key g) at inv.keeps }

    pub flag_two : r ≡ Role-as-Option → Flags mem words n key t (i + 2)
    flag_two g = record { keeps = rw (flag_option mem words n i r e h key g) at inv.keeps }

    module _ (s : Span) (z : s ≡ pair_at words i) (u : Bool) (f : u ≡ same (bytes mem s) key) where
      pub flag_here : r ≡ Flag → u ≡ true → true ≡ t
      flag_here g q = rw (flag_flag mem words n i r e h key g, ← z, ← f, q) at inv.keeps

      pub flag_on : r ≡ Flag → u ≡ false → Flags mem words n key t (i + 1)
      flag_on g q = record { keeps = rw (flag_flag mem words n i r e h key g, ← z, ← f, q) at inv.keeps }

pub ruleset flags = (rules, two_fits, two_less, flag_end, flag_pass, flag_two, flag_here, flag_on)
