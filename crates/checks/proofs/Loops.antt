-- The checks of a domain, gathered from the last port on, and written: laws as the needs ask them. Assumes nothing.
use Rattle.store.specs.declared.state.Few.{Few}
use Rattle.store.specs.declared.state.Isolation.{Isolation}
use Prim.Native.Nat.{ℕ, suc, ◌+◌, ◌-◌, ◌≤◌, ◌<◌, ◌^◌}
use native.Mathlib.Omega.{arith}
use native.Mathlib.Numerals.{add-one}
use mathlib.Core.Path.{◌≡◌, refl, sym, ap, ◌∙◌}
use mathlib.Core.Bool.{Bool, true, false, cond, not}
use mathlib.Core.List.{List, [], ◌∷◌}
use lib.ListN.{length, take, drop, get_or, drop_of_length-le}
use lib.Seq.{drop-cons, get_or-take, length-take-le}
use borrow.Author.Rules.{rules}
use Rattle.text.specs.Ascii.{Bytes, ascii}
use Rattle.text.specs.Scan.{any, all}
use Rattle.text.specs.Sames.{same_refl}
use Rattle.out.specs.Bytewise.{dotted}
use Rattle.out.specs.Emit.{Out, ◌▸◌, emit, emit_append}
use Rattle.out.specs.Fill.{fill}
use Rattle.out.specs.Items.{each}
use Rattle.names.specs.Name.{name_of}
use Rattle.names.specs.declared.name.Name.{Name}
use Rattle.design.specs.Lists.{those}
use Rattle.design.specs.Paths.{element_path}
use Rattle.model.specs.Records.{Isolation as Isolationʳ}
use Rattle.store.specs.Strings.{string}
use Rattle.store.specs.View.{isolation_of}
use Rattle.store.specs.Order.{Sized}
use Rattle.store.specs.declared.stored.Stored.{Stored}
use Rattle.texts.specs.Isolation.{active_of}
use Rattle.format.specs.Args.{arg_of, name_arg}
use Rattle.format.specs.Laws.{name_arg_lem}
use Rattle.format.specs.declared.arg.Arg.{Arg}
use Rattle.isolated.specs.Table.{port_row}
use Rattle.alike.specs.Strategies.{isolation_at, strategy_at, signal_of, are_alike}
use Rattle.alike.specs.Numbers.{numbers_from, numbers_next}
use Rattle.portargs.specs.Args.{strategy_arg, signal_arg, active_arg, strategy_is, signal_is, active_is}
use Rattle.checks.specs.Sorted.{are_same, is_earlier, is_own, is_own_number, inserted_in, sorted_in, own_in, Known, Adds, Sorts, Found, check_text}
use Rattle.checks.proofs.Inserts.{number_at}

-- ---- gathered: those of the ports from row k on are sorted; strategy s would add nothing

abbrev own_of : Bytes → Few Isolation → Stored → List ℕ → List ℕ
own_of mem t domain l = sorted_in (strategy_at mem t) (those (is_own_number mem t domain) l)

-- a strategy that is put in again
same_self : (x : Isolationʳ) → are_same x x ≡ true
unfolding are_same are_alike
same_self x = rw (same_refl (dotted (signal_of x)), same_refl (active_of x), same_refl x.name)

put_again : (f : ℕ → Isolationʳ) (i : ℕ) (l : List ℕ) → inserted_in f i (inserted_in f i l) ≡ inserted_in f i l
unfolding inserted_in
put_again f i [] = rw (same_self (f i))
put_again f i (j ∷ l) = go (are_same (f i) (f j)) refl (is_earlier (f i) (f j)) refl (put_again f i l)
  where
    go : (b : Bool) → are_same (f i) (f j) ≡ b → (c : Bool) → is_earlier (f i) (f j) ≡ c → inserted_in f i (inserted_in f i l) ≡ inserted_in f i l
        → inserted_in f i (cond b (j ∷ l) (cond c (i ∷ j ∷ l) (j ∷ inserted_in f i l))) ≡ cond b (j ∷ l) (cond c (i ∷ j ∷ l) (j ∷ inserted_in f i l))
    go true e c d r = rw e
    go false e true d r = rw (same_self (f i))
    go false e false d r = rw (e, d) (ap (λ (m : List ℕ). j ∷ m) r)

twice : (mem : Bytes) (t : Few Isolation) (domain : Stored) (i : ℕ) (l : List ℕ) → own_of mem t domain (i ∷ i ∷ l) ≡ own_of mem t domain (i ∷ l)
unfolding those sorted_in
twice mem t domain i l = go (is_own_number mem t domain i)
  where
    go : (b : Bool) → sorted_in (strategy_at mem t) (cond b (i ∷ cond b (i ∷ those (is_own_number mem t domain) l) (those (is_own_number mem t domain) l)) (cond b (i ∷ those (is_own_number mem t domain) l) (those (is_own_number mem t domain) l))) ≡ sorted_in (strategy_at mem t) (cond b (i ∷ those (is_own_number mem t domain) l) (those (is_own_number mem t domain) l))
    go true = put_again (strategy_at mem t) i (sorted_in (strategy_at mem t) (those (is_own_number mem t domain) l))
    go false = refl

pub record Gathers (mem : Bytes) (t : Few Isolation) (domain : Stored) (ports : List ℕ) (n : ℕ) (found₀ found : List ℕ) (m k s : ℕ) : Type 0 where
  pub before : k ≤ n
  pub settled : s < 32 → own_of mem t domain (s ∷ numbers_from ports k (n - k)) ≡ own_of mem t domain (numbers_from ports k (n - k))
  pub so_far : Found (sorted_in (strategy_at mem t) (those (is_own_number mem t domain) (numbers_from ports k (n - k)))) (n - k) found₀ found m

module _ (mem : Bytes) (t : Few Isolation) (domain : Stored) (ports : List ℕ) (n : ℕ) (found₀ : List ℕ) where
  pub gather_start : Gathers mem t domain ports n found₀ found₀ 0 n 32
  unfolding numbers_from those sorted_in all
  gather_start =
      let z : n - n ≡ 0 = omega arith in
      record { before = omega arith; settled = λ h. absurd (omega (arith, h)); so_far = rw z (record { are = refl; count = omega arith; known = record { few = omega arith; long = omega arith; numbers = refl }; size = refl }) }

  module _ (w : Sorts mem t ports n found₀) (found : List ℕ) (m k s : ℕ) (inv : Gathers mem t domain ports n found₀ found m k s) where
    pub gather_end : k ≤ 0 → Found (own_in mem t domain ports n) n found₀ found m
    gather_end h =
        let e : k ≡ 0 = omega arith in
        let z : n - 0 ≡ n = omega arith in
        rw (e, z) at inv.so_far

    module _ (h : 0 < k) where
      pub gather_row : k - 1 < 256
      gather_row = omega (arith, inv.before, w.ruled.few)

      module _ (i : ℕ) (e : i ≡ (port_row ports (k - 1)).strategy) where
        pub gather_number : i < 32
        gather_number = rw e (w.ruled.strategies (k - 1) (omega (arith, inv.before)))

        pub gather_adds : Adds found m i
        gather_adds =
            record {
              number = gather_number;
              known = inv.so_far.known;
              few = omega (arith, inv.so_far.count, inv.before, w.ruled.few);
              room = omega (arith, inv.so_far.size, w.room);
            }

        row_is_lem : numbers_from ports (k - 1) (n - (k - 1)) ≡ i ∷ numbers_from ports k (n - k)
        row_is_lem =
            let z : n - (k - 1) ≡ suc (n - k) = omega (arith, inv.before) in
            let y : k - 1 + 1 ≡ k = omega arith in
            rw (z, numbers_next ports (k - 1) (n - k), y, ← e)

        settles : i < 32 → own_of mem t domain (i ∷ numbers_from ports (k - 1) (n - (k - 1))) ≡ own_of mem t domain (numbers_from ports (k - 1) (n - (k - 1)))
        settles l = rw row_is_lem (twice mem t domain i (numbers_from ports k (n - k)))

        module _ (b : Bool) (o : b ≡ any (is_own mem (string mem (isolation_at t i).name) (string mem domain)) (take t.n t.all)) where
          g : b ≡ is_own_number mem t domain i
          unfolding isolation_of
          g = o

          abbrev f : ℕ → Isolationʳ
          f = strategy_at mem t

          abbrev own : List ℕ
          own = those (is_own_number mem t domain) (numbers_from ports k (n - k))

          opened : those (is_own_number mem t domain) (numbers_from ports (k - 1) (n - (k - 1))) ≡ cond b (i ∷ own) own
          unfolding those
          opened = rw (row_is_lem, ← g)

          pub gather_other : not b ≡ true → Gathers mem t domain ports n found₀ found m (k - 1) i
          gather_other d =
              record {
                before = omega (arith, inv.before);
                settled = settles;
                so_far =
                    rw (opened, is_false b d)
                    (record { are = inv.so_far.are; count = omega (arith, inv.so_far.count); known = inv.so_far.known; size = inv.so_far.size });
              }
            where
              is_false : (b : Bool) → not b ≡ true → b ≡ false
              is_false true e = sym e
              is_false false e = refl

          pub gather_one : not b ≡ false → (found' : List ℕ) (r : ℕ) → Found (inserted_in (strategy_at mem t) i (take m found)) (m + 1) found found' r → Gathers mem t domain ports n found₀ found' r (k - 1) i
          unfolding sorted_in
          gather_one d found' r a =
              record {
                before = omega (arith, inv.before);
                settled = settles;
                so_far =
                    rw (opened, is_true b d)
                    (record {
                      are = a.are ∙ ap (inserted_in f i) inv.so_far.are;
                      count = omega (arith, a.count, inv.so_far.count, inv.before);
                      known = a.known;
                      size = a.size ∙ inv.so_far.size;
                    });
              }
            where
              is_true : (b : Bool) → not b ≡ false → b ≡ true
              is_true true e = refl
              is_true false e = sym e

        pub gather_skip : i ≡ s → Gathers mem t domain ports n found₀ found m (k - 1) s
        gather_skip d =
            let l : s < 32 = rw d at gather_number in
            let y : own_of mem t domain (numbers_from ports (k - 1) (n - (k - 1))) ≡ own_of mem t domain (numbers_from ports k (n - k)) = rw (row_is_lem, d) (inv.settled l) in
            record {
              before = omega (arith, inv.before);
              settled = rw d at settles;
              so_far = rw y (record { are = inv.so_far.are; count = omega (arith, inv.so_far.count); known = inv.so_far.known; size = inv.so_far.size });
            }

pub sorts_sized : (mem : Bytes) (t : Few Isolation) (ports : List ℕ) (n : ℕ) (found : List ℕ) → Sorts mem t ports n found → Sized 32 t.n t.all
sorts_sized mem t ports n found w = w.sized

pub ruleset gathers = (rules, sorts_sized, gather_end, gather_row, gather_number, gather_adds, gather_other, gather_one, gather_skip)

-- ---- written

pub check_written : (job mem : Bytes) (scope : List Bytes) (top : Bytes) (t : Few Isolation) (i : ℕ) (domain : Name) (a b c d : Arg) (o w : Out)
    → w ≡ emit o (fill (ascii "      if ({0} !== {1}) $display(\"[UPF] Warning: Time: %0t, Isolation control '{0}' (%b) is not enabled when power domain '{2}' is switched OFF (strategy {3})\", $time, {0});\n") (arg_of job mem scope top a) (arg_of job mem scope top b) (arg_of job mem scope top c) (arg_of job mem scope top d) [])
    → a ≡ signal_arg t i → b ≡ active_arg mem t i → c ≡ name_arg domain → d ≡ strategy_arg t i → w ≡ emit o (check_text scope (strategy_at mem t) (name_of mem domain) i)
check_written job mem scope top t i domain a b c d o w e ea eb ec ed =
    let p : arg_of job mem scope top a ≡ element_path scope (signal_of (strategy_at mem t i)) = rw ea (signal_is job mem scope top t i) in
    let q : arg_of job mem scope top b ≡ active_of (strategy_at mem t i) = rw eb (active_is job mem scope top t i) in
    let r : arg_of job mem scope top c ≡ name_of mem domain = rw ec (name_arg_lem job mem scope top domain) in
    let s : arg_of job mem scope top d ≡ (strategy_at mem t i).name = rw ed (strategy_is job mem scope top t i) in
    e ∙ rw (p, q, r, s)

pub ruleset lines = (rules, check_written)

-- what is left to write, written from here, is the answer w
pub record Writes (g : ℕ → Bytes) (found : List ℕ) (n : ℕ) (w o : Out) (k : ℕ) : Type 0 where
  pub known : Known found n
  pub keeps : emit o (each g (drop k (take n found))) ≡ w

module _ (g : ℕ → Bytes) (found : List ℕ) (n : ℕ) (w o : Out) (k : ℕ) (inv : Writes g found n w o k) where
  s : Known found n
  s = inv.known

  pub writes_number : k < n → (i : ℕ) → i ≡ get_or found k 0 → i < 32
  writes_number h i e = number_at found n k s h i e

  pub writes_end : n ≤ k → o ≡ w
  unfolding each emit
  writes_end h = rw (drop_of_length-le (take n found) {i = k} (rw (length-take-le n found s.long) h)) at inv.keeps

  pub writes_one : k < n → (i : ℕ) → i ≡ get_or found k 0 → (o' : Out) → o' ≡ emit o (g i) → Writes g found n w o' (k + 1)
  unfolding each
  writes_one h i e o' f =
      let l : k < length (take n found) = rw (length-take-le n found s.long) h in
      let d : drop k (take n found) ≡ i ∷ drop (k + 1) (take n found) = drop-cons (take n found) k 0 l ∙ rw (get_or-take n found k 0 h, ← add-one k, e) in
      record { known = s; keeps = rw f (rw (d, emit_append) at inv.keeps) }

  pub writes_more : k < n → k + 1 < 2 ^ 64
  writes_more h = omega (arith, s.few)

pub ruleset writes = (rules, writes_number, writes_end, writes_one, writes_more)
