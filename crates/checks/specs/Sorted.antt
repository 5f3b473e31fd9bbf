-- The checks of a domain as strategies by their numbers, sorted as a set. f has the strategies by their numbers. Assumes nothing.
use Rattle.store.specs.declared.state.Few.{Few}
use Rattle.std.specs.Prelude.{Option, None, Some, ℕ, ◌+◌, ◌≤◌, ◌<◌, ◌≡◌, Bool, true, cond, ◌&&◌, List, [], ◌∷◌, ◌++◌, ltb, length, take, drop}
use Rattle.text.specs.Ascii.{Bytes}
use Rattle.text.specs.Compare.{same, less}
use Rattle.text.specs.Scan.{any, all}
use Rattle.out.specs.Bytewise.{dotted}
use Rattle.out.specs.Fill.{format4}
use Rattle.design.specs.Lists.{those}
use Rattle.design.specs.Paths.{element_path}
use Rattle.model.specs.Records.{Isolation as Isolationʳ}
use Rattle.store.specs.Strings.{string}
use Rattle.store.specs.Order.{Sized}
use Rattle.store.specs.declared.stored.Stored.{Stored}
use Rattle.store.specs.declared.state.Isolation.{Isolation}
use Rattle.texts.specs.Isolation.{active_of}
use Rattle.alike.specs.Strategies.{strategy_at, signal_of, are_alike}
use Rattle.alike.specs.Numbers.{numbers_in}
use Rattle.alike.specs.Ruled.{Ruled}

-- ---- two strategies: the same check, or one before the other, with `/` as `.` in the signals
unfoldable pub are_same : Isolationʳ → Isolationʳ → Bool
are_same a b = are_alike a b && same a.name b.name

unfoldable pub is_earlier : Isolationʳ → Isolationʳ → Bool
is_earlier a b =
    cond (same (dotted (signal_of a)) (dotted (signal_of b)))
    (cond (same (active_of a) (active_of b)) (less a.name b.name) (less (active_of a) (active_of b)))
    (less (dotted (signal_of a)) (dotted (signal_of b)))

-- ---- a strategy is of a domain, by its name
unfoldable pub is_own : Bytes → Bytes → Bytes → Isolation → Bool
is_own mem name domain x = same (string mem x.name) name && same (string mem x.domain) domain

abbrev pub is_own_number : Bytes → Few Isolation → Stored → ℕ → Bool
is_own_number mem t domain i = any (is_own mem (strategy_at mem t i).name (string mem domain)) (take t.n t.all)

-- ---- sorted as a set

-- a place as a number: one more than it, 0 where there is none
abbrev pub place_number : Option ℕ → ℕ
place_number None = 0
place_number (Some k) = k + 1

-- where strategy i goes behind k others: one more than the place, 0 where its check is there
unfoldable pub spot_in : (ℕ → Isolationʳ) → ℕ → List ℕ → ℕ → ℕ
spot_in f i [] k = k + 1
spot_in f i (j ∷ js) k = cond (are_same (f i) (f j)) 0 (cond (is_earlier (f i) (f j)) (k + 1) (spot_in f i js (k + 1)))

unfoldable pub inserted_in : (ℕ → Isolationʳ) → ℕ → List ℕ → List ℕ
inserted_in f i [] = i ∷ []
inserted_in f i (j ∷ js) = cond (are_same (f i) (f j)) (j ∷ js) (cond (is_earlier (f i) (f j)) (i ∷ j ∷ js) (j ∷ inserted_in f i js))

unfoldable pub sorted_in : (ℕ → Isolationʳ) → List ℕ → List ℕ
sorted_in f [] = []
sorted_in f (i ∷ is) = inserted_in f i (sorted_in f is)

-- the strategies of a domain among those of n ports
abbrev pub own_in : Bytes → Few Isolation → Stored → List ℕ → ℕ → List ℕ
own_in mem t domain ports n = sorted_in (strategy_at mem t) (those (is_own_number mem t domain) (numbers_in ports n))

-- ---- numbers in a table

-- x put at place k of the first n, those from there on behind it
unfoldable pub inserted_at : List ℕ → ℕ → ℕ → ℕ → List ℕ
inserted_at l n k x = take k l ++ (x ∷ (drop k (take n l) ++ drop (n + 1) l))

abbrev pub is_number : ℕ → Bool
is_number i = ltb i 32

-- the first n are numbers of strategies
pub record Known (found : List ℕ) (n : ℕ) : Type 0 where
  pub few : n ≤ 256
  pub long : n ≤ length found
  pub numbers : all is_number (take n found) ≡ true

-- there is room for one more
pub record Adds (found : List ℕ) (n i : ℕ) : Type 0 where
  pub number : i < 32
  pub known : Known found n
  pub few : n < 256
  pub room : 256 ≤ length found

pub record Sorts (mem : Bytes) (t : Few Isolation) (ports : List ℕ) (n : ℕ) (found : List ℕ) : Type 0 where
  pub ruled : Ruled mem t ports n
  pub sized : Sized 32 t.n t.all
  pub room : 256 ≤ length found

-- the first r are l, m at most
pub record Found (l : List ℕ) (m : ℕ) (found₀ found : List ℕ) (r : ℕ) : Type 0 where
  pub are : take r found ≡ l
  pub count : r ≤ m
  pub known : Known found r
  pub size : length found ≡ length found₀

-- ---- the text of a check
abbrev pub check_text : List Bytes → (ℕ → Isolationʳ) → Bytes → ℕ → Bytes
check_text scope f domain i =
    format4 "      if ({0} !== {1}) $display(\"[UPF] Warning: Time: %0t, Isolation control '{0}' (%b) is not enabled when power domain '{2}' is switched OFF (strategy {3})\", $time, {0});\n"
    (element_path scope (signal_of (f i))) (active_of (f i)) domain (f i).name
