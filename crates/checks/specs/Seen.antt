-- Laws: the strategies found are the checks that the definitions have. Assumes nothing.
use Rattle.store.specs.declared.state.Few.{Few}
use Rattle.std.specs.Prelude.{ℕ, ◌+◌, ◌≡◌, Bool, cond, ◌&&◌, take}
use Rattle.std.proofs.Math.Path.{refl, ap}
use Rattle.std.proofs.Common.{sym, ◌∙◌}
use Rattle.std.proofs.Math.Bool.{true, false}
use mathlib.Core.List.{List, [], ◌∷◌, ◌++◌, map}
use Rattle.text.specs.Ascii.{Bytes}
use Rattle.text.specs.Compare.{same}
use Rattle.text.specs.Scan.{any}
use Rattle.out.specs.Bytewise.{dotted}
use Rattle.out.specs.Items.{each}
use Rattle.design.specs.Lists.{those}
use Rattle.design.specs.Paths.{element_path}
use Rattle.model.specs.Records.{Domain as Domainʳ, Isolation as Isolationʳ}
use Rattle.store.specs.Strings.{string}
use Rattle.store.specs.View.{isolation_of}
use Rattle.store.specs.declared.stored.Stored.{Stored}
use Rattle.store.specs.declared.state.Isolation.{Isolation}
use Rattle.texts.specs.Setting.{Setting}
use Rattle.texts.specs.Isolation.{Isolated, active_of}
use Rattle.texts.specs.Domains.{Check, earlier, is_same, sorted_in_lem, sorted, check_of, belongs, checks, check_line}
use Rattle.isolated.specs.Table.{Kept, kept_in}
use Rattle.alike.specs.Strategies.{strategy_at, signal_of, are_alike}
use Rattle.alike.specs.Shown.{shown, scope_same, scope_less}
use Rattle.alike.specs.Numbers.{numbers_in, numbers_kept}
use Rattle.checks.specs.Sorted.{are_same, is_earlier, is_own, is_own_number, inserted_in, sorted_in, own_in, check_text}

-- a strategy's check
abbrev pub check_by : List Bytes → Isolationʳ → Check
check_by scope i = record { signal = element_path scope (signal_of i); active = active_of i; strategy = i.name }

module _ (scope : List Bytes) where
  same_by : (a b : Isolationʳ) → is_same (check_by scope a) (check_by scope b) ≡ are_same a b
  unfolding are_same are_alike
  same_by a b = ap (λ (x : Bool). x && (same (active_of a) (active_of b) && same a.name b.name)) (scope_same scope (signal_of a) (signal_of b)) ∙ assoc (same (dotted (signal_of a)) (dotted (signal_of b))) (same (active_of a) (active_of b)) (same a.name b.name)
    where
      assoc : (x y z : Bool) → x && (y && z) ≡ (x && y) && z
      assoc true y z = refl
      assoc false y z = refl

  earlier_by : (a b : Isolationʳ) → earlier (check_by scope a) (check_by scope b) ≡ is_earlier a b
  unfolding is_earlier
  earlier_by a b = rw (scope_same scope (signal_of a) (signal_of b), scope_less scope (signal_of a) (signal_of b))

  module _ (f : ℕ → Isolationʳ) where
    abbrev show : ℕ → Check
    show i = check_by scope (f i)

    inserted_step : (i j : ℕ) (js : List ℕ) (b c : Bool) → map show (inserted_in f i js) ≡ sorted_in_lem (show i) (map show js) → map show (cond b (j ∷ js) (cond c (i ∷ j ∷ js) (j ∷ inserted_in f i js))) ≡ cond b (map show (j ∷ js)) (cond c (show i ∷ map show (j ∷ js)) (show j ∷ sorted_in_lem (show i) (map show js)))
    inserted_step i j js true c r = refl
    inserted_step i j js false true r = refl
    inserted_step i j js false false r = ap (λ (l : List Check). show j ∷ l) r

    inserted_is : (i : ℕ) (l : List ℕ) → map show (inserted_in f i l) ≡ sorted_in_lem (show i) (map show l)
    unfolding inserted_in sorted_in_lem
    inserted_is i [] = refl
    inserted_is i (j ∷ js) = rw (same_by (f i) (f j), earlier_by (f i) (f j)) (inserted_step i j js (are_same (f i) (f j)) (is_earlier (f i) (f j)) (inserted_is i js))

    sorted_is : (l : List ℕ) → map show (sorted_in f l) ≡ sorted (map show l)
    unfolding sorted_in sorted
    sorted_is [] = refl
    sorted_is (i ∷ is) = inserted_is i (sorted_in f is) ∙ ap (sorted_in_lem (show i)) (sorted_is is)

own_any : (mem name domain : Bytes) (l : List Isolation) → any (λ (i : Isolationʳ). same i.name name && same i.domain domain) (map (isolation_of mem) l) ≡ any (is_own mem name domain) l
unfolding any is_own isolation_of
own_any mem name domain [] = refl
own_any mem name domain (x ∷ l) = rw (own_any mem name domain l)

module _ (mem : Bytes) (t : Few Isolation) (s : Setting) (domain : Stored) (d : Domainʳ) (named : d.name ≡ string mem domain) (are : s.records.isolations ≡ map (isolation_of mem) (take t.n t.all)) where
  abbrev f : ℕ → Isolationʳ
  f = strategy_at mem t

  abbrev port : Kept → Isolated
  port = shown s.scope s.top f

  belongs_is : (x : Kept) → belongs s d (port x) ≡ is_own_number mem t domain x.strategy
  belongs_is x = rw (are, named) (own_any mem (f x.strategy).name (string mem domain) (take t.n t.all))

  those_step : (x : Kept) (b : Bool) (l : List Isolated) (is : List ℕ) → map check_of l ≡ map (λ (i : ℕ). check_by s.scope (f i)) is → map check_of (cond b (port x ∷ l) l) ≡ map (λ (i : ℕ). check_by s.scope (f i)) (cond b (x.strategy ∷ is) is)
  those_step x true l is r = ap (λ (c : List Check). check_of (port x) ∷ c) r
  those_step x false l is r = r

  those_is : (l : List Kept) → map check_of (those (belongs s d) (map port l)) ≡ map (λ (i : ℕ). check_by s.scope (f i)) (those (is_own_number mem t domain) (map (λ (x : Kept). x.strategy) l))
  unfolding those
  those_is [] = refl
  those_is (x ∷ l) = rw (belongs_is x) (those_step x (is_own_number mem t domain x.strategy) (those (belongs s d) (map port l)) (those (is_own_number mem t domain) (map (λ (y : Kept). y.strategy) l)) (those_is l))

  -- the checks
  pub checks_are : (job : Bytes) (ports : List ℕ) (n : ℕ) → map (λ (i : ℕ). check_by s.scope (f i)) (own_in mem t domain ports n) ≡ checks s (map port (kept_in job mem ports n)) d
  checks_are job ports n =
      sorted_is s.scope f (those (is_own_number mem t domain) (numbers_in ports n))
      ∙ ap sorted (ap (λ (l : List ℕ). map (λ (i : ℕ). check_by s.scope (f i)) (those (is_own_number mem t domain) l)) (sym (numbers_kept job mem ports 0 n)) ∙ sym (those_is (kept_in job mem ports n)))

  lines_are : (l : List ℕ) → each (check_text s.scope f d.name) l ≡ each (check_line d) (map (λ (i : ℕ). check_by s.scope (f i)) l)
  unfolding each
  lines_are [] = refl
  lines_are (i ∷ is) = ap (λ (b : Bytes). check_text s.scope f d.name i ++ b) (lines_are is)

  -- and their texts
  pub check_lines : (job : Bytes) (ports : List ℕ) (n : ℕ) → each (check_text s.scope f d.name) (own_in mem t domain ports n) ≡ each (check_line d) (checks s (map port (kept_in job mem ports n)) d)
  check_lines job ports n = lines_are (own_in mem t domain ports n) ∙ ap (each (check_line d)) (checks_are job ports n)
