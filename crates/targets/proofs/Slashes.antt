-- The last slash of a name, byte by byte: laws as the needs ask them. Assumes nothing.
use Rattle.std.specs.Prelude.{Option, Some, None, is_some}
use Prim.Native.Nat.{ℕ, suc, ◌+◌, ◌≤◌, ◌<◌, ◌^◌}
use native.Mathlib.Omega.{arith}
use mathlib.Core.Path.{◌≡◌, refl, sym, ap, ◌∙◌}
use mathlib.Core.Bool.{Bool, true, false, cond, ◌||◌}
use mathlib.Core.List.{List, [], ◌∷◌, ◌++◌, append_assoc, append-nil}
use lib.Dec.{eqb}
use lib.ListN.{length, take, length-append}
use lib.Seq.{take_at, length-take-le}
use borrow.Author.Rules.{rules}
use borrow.Author.Tests.{ne_eqb}
use Rattle.text.specs.Ascii.{Bytes, ascii, byte}
use Rattle.text.specs.Sames.{no_true}
use Rattle.text.specs.Scan.{any, is, onto, split_at}
use Rattle.names.specs.Name.{name_of, step_of}
use Rattle.names.specs.Parts.{parts}
use Rattle.names.specs.declared.name.Name.{Name}
use Rattle.paths.specs.Sizes.{name_short}
use Rattle.texts.specs.Isolation.{last_part}
use Rattle.targets.specs.Seen.{SlashSeen}
use Rattle.targets.specs.declared.Slash.{Slash}

abbrev slash_in : Bytes → Bool
slash_in s = any (is (byte "/")) s

-- ---- laws of parts

no_slash : (s : Bytes) → slash_in s ≡ false → parts s ≡ s ∷ []
unfolding any split_at
no_slash [] h = refl
no_slash (x ∷ s) h = go (eqb x (byte "/")) h (λ g. no_slash s g)
  where
    go : (t : Bool) → t || slash_in s ≡ false → (slash_in s ≡ false → parts s ≡ s ∷ []) → cond t ([] ∷ parts s) (onto x (parts s)) ≡ (x ∷ s) ∷ []
    go true g k = absurd (no_true (sym g))
    go false g k = rw (k g)

-- two parts or more, the last of them m
record Ends (m : Bytes) (ps : List Bytes) : Type 0 where
  first : Bytes
  second : Bytes
  more : List Bytes
  are : ps ≡ first ∷ second ∷ more
  last : last_part (second ∷ more) ≡ m

behind_slash : (front m : Bytes) → slash_in m ≡ false → Ends m (parts (front ++ byte "/" ∷ m))
unfolding split_at
behind_slash [] m h = record { first = []; second = m; more = []; are = rw (no_slash m h); last = refl }
behind_slash (x ∷ front) m h = go (eqb x (byte "/")) (behind_slash front m h)
  where
    go : (t : Bool) → Ends m (parts (front ++ byte "/" ∷ m)) → Ends m (cond t ([] ∷ parts (front ++ byte "/" ∷ m)) (onto x (parts (front ++ byte "/" ∷ m))))
    go true e = record { first = []; second = e.first; more = e.second ∷ e.more; are = rw e.are; last = e.last }
    go false e = record { first = x ∷ e.first; second = e.second; more = e.more; are = rw e.are; last = e.last }

last_behind : (front m : Bytes) → slash_in m ≡ false → last_part (parts (front ++ byte "/" ∷ m)) ≡ m
last_behind front m h = let e = behind_slash front m h in rw e.are e.last

any_behind : (front m : Bytes) → slash_in (front ++ byte "/" ∷ m) ≡ true
unfolding any
any_behind [] m = refl
any_behind (x ∷ front) m = go (eqb x (byte "/")) (any_behind front m)
  where
    go : (t : Bool) → slash_in (front ++ byte "/" ∷ m) ≡ true → t || slash_in (front ++ byte "/" ∷ m) ≡ true
    go true e = refl
    go false e = e

clean_push : (m : Bytes) (b : ℕ) → slash_in m ≡ false → (b ≡ byte "/" → ⊥) → slash_in (m ++ (b ∷ [])) ≡ false
unfolding any
clean_push [] b h g = rw (ne_eqb b (byte "/") g)
clean_push (x ∷ m) b h g = go (eqb x (byte "/")) h (λ k. clean_push m b k g)
  where
    go : (t : Bool) → t || slash_in m ≡ false → (slash_in m ≡ false → slash_in (m ++ (b ∷ [])) ≡ false) → t || slash_in (m ++ (b ∷ [])) ≡ false
    go true k r = absurd (no_true (sym k))
    go false k r = r k

-- ---- the loop: n bytes are read, `mid` since the last slash

-- how many bytes stand up to it, and what is behind it
abbrev upto_of : Option Slash → ℕ
upto_of None = 0
upto_of (Some s) = s.upto

abbrev rest_of : Name → Option Slash → Name
rest_of e None = e
rest_of e (Some s) = s.rest

pub record Scans (files area : Bytes) (e : Name) (s : Option Slash) (x : Name) (n : ℕ) : Type 0 where
  pub small : length files + length area < 2 ^ 32
  pub mid : Bytes
  pub clean : slash_in mid ≡ false
  pub rest_is : name_of (files ++ area) (rest_of e s) ≡ mid ++ name_of (files ++ area) x
  pub whole : take (upto_of s) (name_of (files ++ area) e) ++ name_of (files ++ area) (rest_of e s) ≡ name_of (files ++ area) e
  pub inside : upto_of s ≤ length (name_of (files ++ area) e)
  pub counted : n ≡ upto_of s + length mid
  pub slash : is_some s ≡ true → (front : Bytes) × (take (upto_of s) (name_of (files ++ area) e) ≡ front ++ ascii "/")

pub scan_start : (files area : Bytes) (e : Name) → length files + length area < 2 ^ 32 → Scans files area e None e 0
unfolding any
scan_start files area e h =
    record {
      small = h;
      mid = [];
      clean = refl;
      rest_is = refl;
      whole = refl;
      inside = omega arith;
      counted = refl;
      slash = λ z. absurd (no_true z);
    }

module _ (files area : Bytes) (e : Name) (x : Name) (n : ℕ) where
  pub scan_end : (s : Option Slash) → Scans files area e s x n → name_of (files ++ area) x ≡ step_of (files ++ area) None → SlashSeen (files ++ area) e s
  scan_end None inv q =
      let w : name_of (files ++ area) e ≡ inv.mid = inv.rest_is ∙ rw (q, append-nil) in
      rw w inv.clean
  scan_end (Some s) inv q =
      let left : name_of (files ++ area) s.rest ≡ inv.mid = inv.rest_is ∙ rw (q, append-nil) in
      let f = inv.slash refl in
      let w : name_of (files ++ area) e ≡ f.0 ++ byte "/" ∷ inv.mid = sym inv.whole ∙ rw (f.1, left, append_assoc) in
      record { there = rw w (any_behind f.0 inv.mid); whole = inv.whole; inside = inv.inside; last = left ∙ sym (rw w (last_behind f.0 inv.mid inv.clean)); slash = f }

module _ (files area : Bytes) (e : Name) (s : Option Slash) (x : Name) (n : ℕ) (inv : Scans files area e s x n) where
  abbrev whole_name : Bytes
  whole_name = name_of (files ++ area) e

  up_long : length (take (upto_of s) whole_name) ≡ upto_of s
  up_long = length-take-le (upto_of s) whole_name inv.inside

  -- all of it: up to the last slash, since then, what is left
  all_is : take (upto_of s) whole_name ++ (inv.mid ++ name_of (files ++ area) x) ≡ whole_name
  all_is = rw (← inv.rest_is) inv.whole

  module _ (b : ℕ) (u : Name) (q : name_of (files ++ area) x ≡ step_of (files ++ area) (Some (b, u))) where
    next_is : name_of (files ++ area) x ≡ b ∷ name_of (files ++ area) u
    next_is = q

    size : length whole_name ≡ n + suc (length (name_of (files ++ area) u))
    size =
        let a : length (take (upto_of s) whole_name ++ (inv.mid ++ name_of (files ++ area) x)) ≡ length whole_name = ap length all_is in
        let c : length (take (upto_of s) whole_name ++ (inv.mid ++ name_of (files ++ area) x)) ≡ upto_of s + (length inv.mid + suc (length (name_of (files ++ area) u))) = rw (length-append, length-append, up_long, next_is) in
        omega (arith, inv.counted)

    pub scan_fits : n + 1 < 2 ^ 64
    scan_fits = omega (arith, size, inv.small, name_short (files ++ area) e, length-append files area)

    pub scan_less : length (name_of (files ++ area) u) < length (name_of (files ++ area) x)
    scan_less = rw next_is (omega arith)

    pub scan_slash : b ≡ byte "/" → Scans files area e (Some (record { upto = n + 1; rest = u })) u (n + 1)
    unfolding any
    scan_slash g =
        let f : Bytes = take (upto_of s) whole_name ++ inv.mid in
        let l : length (f ++ ascii "/") ≡ n + 1 = rw (length-append, length-append, up_long) (omega (arith, inv.counted)) in
        let w : whole_name ≡ (f ++ ascii "/") ++ name_of (files ++ area) u = sym all_is ∙ rw (next_is, g, append_assoc, append_assoc) in
        let t : take (n + 1) whole_name ≡ f ++ ascii "/" = ap (take (n + 1)) w ∙ take_at (f ++ ascii "/") (name_of (files ++ area) u) (n + 1) l in
        record {
          small = inv.small;
          mid = [];
          clean = refl;
          rest_is = refl;
          whole = rw t (sym w);
          inside = omega (arith, size);
          counted = omega arith;
          slash = λ z. (f, t);
        }

    pub scan_step : (b ≡ byte "/" → ⊥) → Scans files area e s u (n + 1)
    scan_step g =
        record {
          small = inv.small;
          mid = inv.mid ++ (b ∷ []);
          clean = clean_push inv.mid b inv.clean g;
          rest_is = inv.rest_is ∙ rw (next_is, append_assoc);
          whole = inv.whole;
          inside = inv.inside;
          counted = rw length-append (omega (arith, inv.counted));
          slash = inv.slash;
        }

pub ruleset slashes = (rules, scan_start, scan_end, scan_fits, scan_less, scan_slash, scan_step)
