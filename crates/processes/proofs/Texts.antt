-- The processes: laws as the needs ask them. A port leads a process where none before it is of a strategy like its own. Assumes nothing.
use Rattle.store.specs.declared.state.Few.{Few}
use Rattle.store.specs.declared.state.Isolation.{Isolation}
use Prim.Native.Nat.{ℕ, suc, ◌+◌, ◌-◌, ◌≤◌, ◌<◌}
use native.Mathlib.Omega.{arith}
use mathlib.Core.Path.{◌≡◌, refl, sym, ap, ap₂, ◌∙◌}
use mathlib.Core.Bool.{Bool, true, false, cond, ◌||◌}
use mathlib.Core.List.{List, [], ◌∷◌, ◌++◌, map}
use borrow.Author.Rules.{rules}
use Rattle.text.specs.Ascii.{Bytes, ascii}
use Rattle.text.specs.Compare.{same}
use Rattle.text.specs.Scan.{any}
use Rattle.text.specs.Sames.{same_eq, same_refl, both}
use Rattle.out.specs.Bytewise.{dotted}
use Rattle.out.specs.Emit.{Out, emit, emit_append, wrote, ◌then◌}
use Rattle.out.specs.Fill.{fill, filled, adds, turns, arg, pick}
use Rattle.out.specs.Items.{each}
use Rattle.design.specs.Lists.{those}
use Rattle.model.specs.Records.{Isolation as Isolationʳ}
use Rattle.texts.specs.Isolation.{Isolated as Isolatedʳ, active_of, alike, leaders, clamp_on, clamp_off, process, processes}
use Rattle.isolated.specs.Table.{port_row, Kept, kept_of, kept_from, kept_in}
use Rattle.isolated.specs.Laws.{kept_next, kept_none}
use Rattle.alike.specs.Strategies.{strategy_at, signal_of, are_alike}
use Rattle.alike.specs.Shown.{shown, shown_alike}
use Rattle.alike.specs.Ruled.{Ruled, row_small}
use Rattle.alike.specs.Numbers.{numbers_from, numbers_in, numbers_one}
use Rattle.processes.specs.Ports.{is_like, port_text, ports_text, head_text, process_text}
use Rattle.processes.proofs.Led.{number_small}

-- ---- the text of a process

abbrev on_text : Bytes
on_text = ascii "      force {0} = '{1};\n      $display(\"[UPF] Time: %0t, Isolation enabled (strategy {2}) on port '{3}', clamp {1}\", $time);\n"

abbrev off_text : Bytes
off_text = ascii "      release {0};\n      $display(\"[UPF] Time: %0t, Isolation disabled (strategy {2}) on port '{3}'\", $time);\n"

-- in one piece
pub process_written : (mem : Bytes) (t : Few Isolation) (scope : List Bytes) (top : Bytes) (l : List Kept) (i : ℕ) (o o₁ o₂ o₃ o₄ o₅ : Out) → o₁ ≡ emit o (head_text scope (strategy_at mem t i)) → o₂ ≡ emit o₁ (ports_text on_text scope top (strategy_at mem t) i l) → o₃ ≡ emit o₂ (ascii "    end else begin\n")
    → o₄ ≡ emit o₃ (ports_text off_text scope top (strategy_at mem t) i l) → o₅ ≡ emit o₄ (ascii "    end\n  end\n") → o₅ ≡ emit o (process_text scope top (strategy_at mem t) l i)
unfolding process_text
process_written mem t scope top l i o o₁ o₂ o₃ o₄ o₅ a b c d e = (wrote a then wrote b then wrote c then wrote d then wrote e).is

-- ---- as the definitions have it

module _ (scope : List Bytes) (top : Bytes) (f : ℕ → Isolationʳ) where
  abbrev show : Kept → Isolatedʳ
  show = shown scope top f

  on_is : (x : Kept) → port_text on_text scope top f x ≡ clamp_on (show x)
  unfolding port_text
  on_is x = refl

  off_by : (a b c d : Bytes) → fill off_text a b c d [] ≡ fill (ascii "      release {0};\n      $display(\"[UPF] Time: %0t, Isolation disabled (strategy {1}) on port '{2}'\", $time);\n") a c d [] []
  unfolding fill filled adds turns arg pick
  off_by a b c d = refl

  off_is : (x : Kept) → port_text off_text scope top f x ≡ clamp_off (show x)
  unfolding port_text
  off_is x = off_by (show x).parent (show x).clamp (show x).strategy (show x).port

  module _ (k : Kept) (g : Kept → Bytes) (h : Isolatedʳ → Bytes) (is : (x : Kept) → g x ≡ h (show x)) where
    each_by : (x : Kept) (b : Bool) → alike (show k) (show x) ≡ b → (l : List Kept) → each g (those (λ (y : Kept). is_like f k.strategy y.strategy) l) ≡ each h (those (alike (show k)) (map show l))
        → each g (cond b (x ∷ those (λ (y : Kept). is_like f k.strategy y.strategy) l) (those (λ (y : Kept). is_like f k.strategy y.strategy) l)) ≡ each h (cond (alike (show k) (show x)) (show x ∷ those (alike (show k)) (map show l)) (those (alike (show k)) (map show l)))
    unfolding each
    each_by x true e l r = rw e (ap₂ (λ (a b : Bytes). a ++ b) (is x) r)
    each_by x false e l r = rw e r

    each_is : (l : List Kept) → each g (those (λ (y : Kept). is_like f k.strategy y.strategy) l) ≡ each h (those (alike (show k)) (map show l))
    unfolding those each
    each_is [] = refl
    each_is (x ∷ l) = each_by x (is_like f k.strategy x.strategy) (shown_alike scope top (f k.strategy) (f x.strategy) k x) l (each_is l)

  process_is : (l : List Kept) (k : Kept) → process_text scope top f l k.strategy ≡ process (map show l) (show k)
  unfolding process_text ports_text head_text
  process_is l k = rw (each_is k (port_text on_text scope top f) clamp_on on_is l, each_is k (port_text off_text scope top f) clamp_off off_is l)

  -- ---- which ports lead

  like_by : (i j m : ℕ) → is_like f i j ≡ true → is_like f i m ≡ is_like f j m
  unfolding are_alike
  like_by i j m h =
      let b = both (same (dotted (signal_of (f i))) (dotted (signal_of (f j)))) (same (active_of (f i)) (active_of (f j))) h in
      rw (same_eq (dotted (signal_of (f i))) (dotted (signal_of (f j))) b.0, same_eq (active_of (f i)) (active_of (f j)) b.1)

  any_by : (i j : ℕ) → is_like f i j ≡ true → (l : List ℕ) → any (is_like f i) l ≡ any (is_like f j) l
  unfolding any
  any_by i j h [] = refl
  any_by i j h (m ∷ l) = rw (like_by i j m h, any_by i j h l)

  -- the ports in `seen` tell as much as the strategies before
  pub record Tells (seen : List Isolatedʳ) (l : List ℕ) : Type 0 where
    pub tells : (k : Kept) → any (alike (show k)) seen ≡ any (is_like f k.strategy) l

any_snoc : (t : ℕ → Bool) (l : List ℕ) (x : ℕ) → any t (l ++ (x ∷ [])) ≡ any t l || t x
unfolding any
any_snoc t [] x = or_false (t x)
  where
    or_false : (b : Bool) → b || false ≡ b
    or_false true = refl
    or_false false = refl
any_snoc t (y ∷ l) x = ap (λ (b : Bool). t y || b) (any_snoc t l x) ∙ assoc (t y) (any t l) (t x)
  where
    assoc : (a b c : Bool) → a || (b || c) ≡ (a || b) || c
    assoc true b c = refl
    assoc false b c = refl

or_true : (b : Bool) → b || true ≡ true
or_true true = refl
or_true false = refl

self_like : (f : ℕ → Isolationʳ) (i : ℕ) → is_like f i i ≡ true
unfolding are_alike
self_like f i = rw (same_refl (dotted (signal_of (f i))), same_refl (active_of (f i)))

-- the ports before are in order too
ruled_front : (mem : Bytes) (t : Few Isolation) (ports : List ℕ) (n k : ℕ) → Ruled mem t ports n → k < n → Ruled mem t ports k
ruled_front mem t ports n k r h = record { few = omega (arith, r.few); strategies = λ j l. r.strategies j (omega arith); clamps = λ j l. r.clamps j (omega arith) }

-- what is left to write, written from here, is the answer w; s is a strategy like one of those before
pub record Leads (job mem : Bytes) (scope : List Bytes) (top : Bytes) (t : Few Isolation) (ports : List ℕ) (n : ℕ) (w o : Out) (k s : ℕ) : Type 0 where
  pub ruled : Ruled mem t ports n
  pub before : k ≤ n
  pub led : s < 32 → any (is_like (strategy_at mem t) s) (numbers_in ports k) ≡ true
  pub seen : List Isolatedʳ
  pub tells : Tells scope top (strategy_at mem t) seen (numbers_in ports k)
  pub keeps : emit o (each (process (map (shown scope top (strategy_at mem t)) (kept_in job mem ports n))) (leaders seen (map (shown scope top (strategy_at mem t)) (kept_from job mem ports k (n - k))))) ≡ w

module _ (job mem : Bytes) (scope : List Bytes) (top : Bytes) (t : Few Isolation) (ports : List ℕ) (n : ℕ) where
  pub leads_start : (o : Out) → Ruled mem t ports n → Leads job mem scope top t ports n (emit o (processes (map (shown scope top (strategy_at mem t)) (kept_in job mem ports n)))) o 0 32
  unfolding any numbers_from
  leads_start o r = let z : n - 0 ≡ n = omega arith in record { ruled = r; before = omega arith; led = λ h. absurd (omega (arith, h)); seen = []; tells = record { tells = λ k. refl }; keeps = rw z }

  module _ (w o : Out) (k s : ℕ) (inv : Leads job mem scope top t ports n w o k s) where
    pub leads_end : n ≤ k → o ≡ w
    unfolding leaders each emit
    leads_end h = let z : n - k ≡ 0 = omega arith in rw (z, kept_none job mem ports k) at inv.keeps

    pub leads_row : k < n → k < 256
    leads_row h = row_small mem t ports n inv.ruled k h

    pub leads_front : k < n → Ruled mem t ports k
    leads_front h = ruled_front mem t ports n k inv.ruled h

    pub leads_number : k < n → (i : ℕ) → i ≡ (port_row ports k).strategy → i < 32
    leads_number h i e = number_small mem t ports n inv.ruled k h i e

    module _ (h : k < n) (i : ℕ) (e : i ≡ (port_row ports k).strategy) (b : Bool) (g : b ≡ any (is_like (strategy_at mem t) i) (numbers_in ports k)) where
      abbrev f : ℕ → Isolationʳ
      f = strategy_at mem t

      abbrev row : Kept
      row = kept_of job mem (port_row ports k)

      abbrev rest : List Isolatedʳ
      rest = map (shown scope top f) (kept_from job mem ports (k + 1) (n - (k + 1)))

      led : any (alike (shown scope top f row)) inv.seen ≡ b
      led = inv.tells.tells row ∙ sym (rw e at g)

      opened : emit o (each (process (map (shown scope top f) (kept_in job mem ports n))) (cond b (leaders inv.seen rest) (shown scope top f row ∷ leaders (shown scope top f row ∷ inv.seen) rest))) ≡ w
      unfolding leaders
      opened = let z : n - k ≡ suc (n - (k + 1)) = omega arith in rw (← led) (rw (z, kept_next job mem ports k (n - (k + 1))) at inv.keeps)

      -- with this row among those before
      more : (i : ℕ) → any (is_like f i) (numbers_in ports (k + 1)) ≡ any (is_like f i) (numbers_in ports k) || is_like f i (port_row ports k).strategy
      more i = rw (numbers_one ports k) (any_snoc (is_like f i) (numbers_in ports k) (port_row ports k).strategy)

      -- its own strategy is like one of them
      own : any (is_like f i) (numbers_in ports (k + 1)) ≡ true
      own = more i ∙ rw (← e, self_like f i) (or_true (any (is_like f i) (numbers_in ports k)))

      pub leads_other : b ≡ true → Leads job mem scope top t ports n w o (k + 1) i
      leads_other d = record { ruled = inv.ruled; before = omega arith; led = λ _. own; seen = inv.seen; tells = record { tells = λ y. inv.tells.tells y ∙ sym (more y.strategy ∙ go y.strategy (is_like f y.strategy (port_row ports k).strategy) refl) }; keeps = rw d at opened }
        where
          go : (i : ℕ) (c : Bool) → is_like f i (port_row ports k).strategy ≡ c → any (is_like f i) (numbers_in ports k) || c ≡ any (is_like f i) (numbers_in ports k)
          go i true q = let u : any (is_like f i) (numbers_in ports k) ≡ true = any_by scope top f i (port_row ports k).strategy q (numbers_in ports k) ∙ sym (rw e at g) ∙ d in rw u
          go i false q = or_false (any (is_like f i) (numbers_in ports k))
            where
              or_false : (b : Bool) → b || false ≡ b
              or_false true = refl
              or_false false = refl

      pub leads_one : b ≡ false → (o' : Out) → o' ≡ emit o (process_text scope top (strategy_at mem t) (kept_in job mem ports n) i) → Leads job mem scope top t ports n w o' (k + 1) i
      unfolding any each
      leads_one d o' q =
          let p : o' ≡ emit o (process (map (shown scope top f) (kept_in job mem ports n)) (shown scope top f row)) = (rw e at q) ∙ ap (emit o) (process_is scope top f (kept_in job mem ports n) row) in
          record {
            ruled = inv.ruled;
            before = omega arith;
            led = λ _. own;
            seen = shown scope top f row ∷ inv.seen;
            tells = record { tells = λ y. rw (shown_alike scope top (f y.strategy) (f row.strategy) y row, inv.tells.tells y, more y.strategy) (swap (is_like f y.strategy row.strategy) (any (is_like f y.strategy) (numbers_in ports k))) };
            keeps = rw p (rw (d, emit_append) at opened);
          }
        where
          swap : (a b : Bool) → a || b ≡ b || a
          swap true true = refl
          swap true false = refl
          swap false true = refl
          swap false false = refl

    pub leads_skip : (h : k < n) (i : ℕ) → i ≡ (port_row ports k).strategy → i ≡ s → Leads job mem scope top t ports n w o (k + 1) s
    leads_skip h i e d =
        let l : s < 32 = rw d at (leads_number h i e) in
        let g : true ≡ any (is_like (strategy_at mem t) i) (numbers_in ports k) = sym (rw d (inv.led l)) in
        rw d at (leads_other h i e true g refl)

pub ruleset leads = (rules, leads_row, leads_front, leads_number, leads_end, leads_other, leads_one, leads_skip)
