-- The walk over the table of a job's modules is the walk of the definitions, and the table is sound. Assumes nothing.
use Prim.Native.Nat.{ℕ, zero, suc, ◌+◌, ◌≤◌, ◌<◌}
use mathlib.Core.Path.{◌≡◌, refl, sym, ap, ap₂, subst, ◌∙◌}
use mathlib.Core.Logic.{⊎_elim}
use mathlib.Core.Bool.{cond}
use Rattle.std.specs.Prelude.{Option, None, Some}
use mathlib.Core.List.{List, [], ◌∷◌, ◌++◌, map, flat_map, append_assoc, append-nil}
use mathlib.Core.List.Memᴰ.{cases_cons}
use mathlib.Core.List.Memᴰ.{head as here}
use mathlib.Core.List.Memᴰ.{not-nil}
use mathlib.Core.List.Memᴰ.{tail as there}
use mathlib.Core.List.{Memᴰ as Mem}
use native.Mathlib.Omega.{arith}
use lib.ListN.{length}
use Rattle.text.specs.Ascii.{Bytes}
use Rattle.joblines.specs.Job.{Inst, Module}
use Rattle.jobindex.specs.Index.{num, module_row, rows}
use Rattle.lookup.specs.Rows.{modules}
use Rattle.design.specs.Lists.{on_some, is_in}
use Rattle.design.specs.Paths.{child_path}
use Rattle.walk.specs.Walk.{entered, own, corruptible, modules_entered, sum_over}
use Rattle.modtable.specs.Table.{ways_at, way_place, Way, way_in, way_name, Down, down_in, ways_down, Tabled}
use Rattle.corrupt.specs.Corrupt.{Short}
use Rattle.corrupt.specs.OverTable.{own_of, lost_below, entered_below, RowSound, Sound}
use Rattle.corrupt.specs.RowMem.{row_mem}

-- ---- over rows

flat_on : {A : Type 0} (f : A → List Bytes) (l : List A) (a : A) → flat_map f (l ++ (a ∷ [])) ≡ flat_map f l ++ f a
unfolding flat_map
flat_on f [] a = append-nil (f a)
flat_on f (x ∷ l) a = ap (λ (y : List Bytes). f x ++ y) (flat_on f l a) ∙ sym (append_assoc (f x) (flat_map f l) (f a))

sum_on : {A : Type 0} (f : A → ℕ) (l : List A) (a : A) → sum_over f (l ++ (a ∷ [])) ≡ sum_over f l + f a
unfolding sum_over
sum_on f [] a = omega arith
sum_on f (x ∷ l) a = let h : sum_over f (l ++ (a ∷ [])) ≡ sum_over f l + f a = sum_on f l a in omega (arith, h)

module _ {A B : Type 0} (a : ℕ → A) (b : ℕ → B) where
  flat_rows : (f : A → List Bytes) (g : B → List Bytes) (n : ℕ) → ((j : ℕ) → j < n → f (a j) ≡ g (b j)) → flat_map f (rows a n) ≡ flat_map g (rows b n)
  unfolding rows flat_map
  flat_rows f g zero h = refl
  flat_rows f g (suc n) h = flat_on f (rows a n) (a n) ∙ ap₂ ◌++◌ (flat_rows f g n (λ j l. h j (omega (arith, l)))) (h n (omega arith)) ∙ sym (flat_on g (rows b n) (b n))

  sum_rows : (f : A → ℕ) (g : B → ℕ) (n : ℕ) → ((j : ℕ) → j < n → f (a j) ≡ g (b j)) → sum_over f (rows a n) ≡ sum_over g (rows b n)
  unfolding rows sum_over
  sum_rows f g zero h = refl
  sum_rows f g (suc n) h = sum_on f (rows a n) (a n) ∙ ap₂ ◌+◌ (sum_rows f g n (λ j l. h j (omega (arith, l)))) (h n (omega arith)) ∙ sym (sum_on g (rows b n) (b n))

-- ---- the instances that are entered

module _ (d : List Module) where
  lists_down : (f : Module → Bytes → List Bytes) (is : List Inst) → flat_map (λ (i : Inst). on_some (entered d i) [] λ m. f m i.name) is ≡ flat_map (λ (w : Way). f w.into w.name) (ways_down d is)
  unfolding flat_map ways_down
  lists_down f [] = refl
  lists_down f (i ∷ is) = go (entered d i) (lists_down f is)
    where
      go : (o : Option Module) → flat_map (λ (i : Inst). on_some (entered d i) [] λ m. f m i.name) is ≡ flat_map (λ (w : Way). f w.into w.name) (ways_down d is)
          → on_some o [] (λ m. f m i.name) ++ flat_map (λ (i : Inst). on_some (entered d i) [] λ m. f m i.name) is ≡ flat_map (λ (w : Way). f w.into w.name) (on_some o (ways_down d is) λ m. record { name = i.name; into = m } ∷ ways_down d is)
      go None h = h
      go (Some m) h = ap (λ (y : List Bytes). f m i.name ++ y) h

  sums_down : (f : Module → Bytes → ℕ) (is : List Inst) → sum_over (λ (i : Inst). on_some (entered d i) 0 λ m. f m i.name) is ≡ sum_over (λ (w : Way). f w.into w.name) (ways_down d is)
  unfolding sum_over ways_down
  sums_down f [] = refl
  sums_down f (i ∷ is) = go (entered d i) (sums_down f is)
    where
      go : (o : Option Module) → sum_over (λ (i : Inst). on_some (entered d i) 0 λ m. f m i.name) is ≡ sum_over (λ (w : Way). f w.into w.name) (ways_down d is)
          → on_some o 0 (λ m. f m i.name) + sum_over (λ (i : Inst). on_some (entered d i) 0 λ m. f m i.name) is ≡ sum_over (λ (w : Way). f w.into w.name) (on_some o (ways_down d is) λ m. record { name = i.name; into = m } ∷ ways_down d is)
      go None h = omega (arith, h)
      go (Some m) h = ap (λ y. f m i.name + y) h

  ways_short : (n : ℕ) (is : List Inst) → ((i : Inst) → Mem i is → length i.name ≤ n) → (w : Way) → Mem w (ways_down d is) → length w.name ≤ n
  unfolding ways_down
  ways_short n [] h w m = absurd (not-nil m)
  ways_short n (i ∷ is) h w m = go (entered d i) (ways_short n is (λ x y. h x (there y)) w) m
    where
      go : (o : Option Module) → (Mem w (ways_down d is) → length w.name ≤ n) → Mem w (on_some o (ways_down d is) λ m. record { name = i.name; into = m } ∷ ways_down d is) → length w.name ≤ n
      go None r m = r m
      go (Some x) r m = ⊎_elim (λ e. omega (arith, ap (λ (y : Way). length y.name) e, h i (here refl))) r (cases_cons m)

-- ---- the walk

module _ (job : Bytes) (index : List ℕ) (count : ℕ) (table : List ℕ) (tb : Tabled job index count table) where
  abbrev d : List Module
  d = modules job index count

  module _ (R : List Bytes) where
    own_is : (k : ℕ) → k < count → (path : Bytes) → own_of job table k path ≡ own (module_row job index k) path
    own_is k h path = ap (map (child_path path)) (tb k h).names

    pub lost_is : (left k : ℕ) → k < count → (path : Bytes) → lost_below job table R left k path ≡ corruptible d R left (module_row job index k) path
    unfolding lost_below corruptible
    lost_is zero k h path = ap (cond (is_in path R) []) (own_is k h path)
    lost_is (suc left) k h path =
        ap (cond (is_in path R) []) (ap₂ ◌++◌ (own_is k h path)
        (flat_rows (down_in job table k) (way_in job index table k) (λ (w : Down). lost_below job table R left w.row (child_path path w.name)) (λ (w : Way). corruptible d R left w.into (child_path path w.name)) (num table (ways_at k))
        (λ j l. lost_is left (num table (way_place k j + 2)) ((tb k h).within j l) (child_path path (way_name job table k j)))
        ∙ ap (flat_map (λ (w : Way). corruptible d R left w.into (child_path path w.name))) (tb k h).ways
        ∙ sym (lists_down d (λ m n. corruptible d R left m (child_path path n)) (module_row job index k).insts)))

    pub entered_is : (left k : ℕ) → k < count → (path : Bytes) → entered_below job table R left k path ≡ modules_entered d R left (module_row job index k) path
    unfolding entered_below modules_entered
    entered_is zero k h path = refl
    entered_is (suc left) k h path =
        ap (λ n. cond (is_in path R) 0 (1 + n))
        (sum_rows (down_in job table k) (way_in job index table k) (λ (w : Down). entered_below job table R left w.row (child_path path w.name)) (λ (w : Way). modules_entered d R left w.into (child_path path w.name)) (num table (ways_at k))
        (λ j l. entered_is left (num table (way_place k j + 2)) ((tb k h).within j l) (child_path path (way_name job table k j)))
        ∙ ap (sum_over (λ (w : Way). modules_entered d R left w.into (child_path path w.name))) (tb k h).ways
        ∙ sym (sums_down d (λ m n. modules_entered d R left m (child_path path n)) (module_row job index k).insts))

  row_sound : Short job index count → (k : ℕ) → k < count → RowSound job table count k
  row_sound sh k h =
      record {
        names_few = (tb k h).names_few;
        ways_few = (tb k h).ways_few;
        within = (tb k h).within;
        short = λ j l. ways_short d 64 (module_row job index k).insts (sh k h) (way_in job index table k j) (subst (λ (x : List Way). Mem (way_in job index table k j) x) (tb k h).ways (row_mem (way_in job index table k) (num table (ways_at k)) j l));
      }

  pub table_sound : Short job index count → count ≤ 128 → (k : ℕ) → k < count → Sound job table k
  table_sound sh few k h = record { count = count; few = few; row = h; rows = row_sound sh }
