-- Laws: rows in order, the row with a name, and the rows of an index after one is put.
-- Assumes nothing.
use Rattle.std.specs.Prelude.{◌≡◌, Bool, cond, ◌||◌, List, [], ◌∷◌, ◌++◌, map, length, drop, set, eqb, Option, None, Some, is_some}
use Rattle.std.proofs.Math.Path.{refl, ap, sym}
use Rattle.std.proofs.Common.{◌∙◌, add-one, add-zero, length-append, length-set, drop_of_length-le, get_or-set_same, get_or-set_other, drop-set-lt, drop_at, rules, eqb-true}
use Prim.Native.Nat.{ℕ, zero, suc, ◌+◌, ◌-◌, ◌*◌, ◌<◌, ◌≤◌}
use native.Mathlib.Omega.{arith}
use Rattle.std.proofs.Math.Bool.{true, false, or-false, or-true}
use Rattle.std.proofs.lemmas.List.{map-append, drop-append-le}
use Rattle.std.proofs.lemmas.Bool.{eqb-false}
use Rattle.text.specs.Ascii.{Bytes}
use Rattle.text.specs.Compare.{same}
use Rattle.text.specs.Scan.{any}
use Rattle.text.specs.Sames.{same_eq, no_true}
use Rattle.fields.specs.Meant.{style_number}
use Rattle.jobindex.specs.declared.Open.{Open}
use Rattle.jobindex.specs.Index.{num, bytes_at, path_at, body_at, file_at, module_of, row_at, module_row, inst_at, rows, row_of}
use Rattle.jobindex.specs.Stores.{with_file, with_module, with_name}

-- ---- rows
pub rows_more : {A : Type 0} (f : ℕ → A) (n : ℕ) → rows f (n + 1) ≡ rows f n ++ (f n ∷ [])
unfolding rows
rows_more f n = rw add-one

pub rows_length : {A : Type 0} (f : ℕ → A) (n : ℕ) → length (rows f n) ≡ n
unfolding rows
rows_length f zero = refl
rows_length f (suc n) = length-append (rows f n) (f n ∷ []) ∙ rw (rows_length f n, add-one)

pub rows_same : {A : Type 0} (f g : ℕ → A) (n : ℕ) → ((k : ℕ) → k < n → f k ≡ g k) → rows f n ≡ rows g n
unfolding rows
rows_same f g zero h = refl
rows_same f g (suc n) h = rw (rows_same f g n (λ k l. h k (omega arith)), h n (omega arith))

pub rows_map : {A B : Type 0} (f : ℕ → A) (g : A → B) (n : ℕ) → map g (rows f n) ≡ rows (λ k. g (f k)) n
unfolding rows
rows_map f g zero = refl
rows_map f g (suc n) = map-append g (rows f n) (f n ∷ []) ∙ rw (rows_map f g n)

-- row k, in the order of the list
pub rows_here : {A : Type 0} (f : ℕ → A) (n k : ℕ) → k < n → drop k (rows f n) ≡ f k ∷ drop (k + 1) (rows f n)
unfolding rows
rows_here f zero k h = absurd (omega arith)
rows_here f (suc n) k h = go (eqb k n) refl (λ l. rows_here f n k l)
  where
    go : (q : Bool) → eqb k n ≡ q → (k < n → drop k (rows f n) ≡ f k ∷ drop (k + 1) (rows f n))
        → drop k (rows f n ++ (f n ∷ [])) ≡ f k ∷ drop (k + 1) (rows f n ++ (f n ∷ []))
    go true e r =
        let z : k ≡ n = eqb-true k n e in
        rw (z, drop_at (rows f n) (f n ∷ []) n (rows_length f n), drop_of_length-le (rows f n ++ (f n ∷ [])) {i = n + 1} (omega (arith, length-append (rows f n) (f n ∷ []), rows_length f n)))
    go false e r =
        let l : k < n = omega (arith, eqb-false k n e) in
        rw (drop-append-le k (rows f n) (f n ∷ []) (omega (arith, rows_length f n)), r l, drop-append-le (k + 1) (rows f n) (f n ∷ []) (omega (arith, rows_length f n)))

any_append : {A : Type 0} (t : A → Bool) (xs : List A) (x : A) → any t (xs ++ (x ∷ [])) ≡ any t xs || t x
unfolding any
any_append t [] x = or-false (t x)
any_append t (y ∷ xs) x = rw (any_append t xs x) (go (t y))
  where
    go : (b : Bool) → b || (any t xs || t x) ≡ (b || any t xs) || t x
    go true = refl
    go false = refl

-- ---- the row with a name
module _ (f : ℕ → Bytes) (name : Bytes) (a : Option ℕ) (k : ℕ) (inv : a ≡ row_of f name k) where
  pub row_end : k ≤ 0 → None ≡ a
  unfolding row_of
  row_end h = sym (inv ∙ go k h)
    where
      go : (n : ℕ) → n ≤ 0 → row_of f name n ≡ None
      go zero h = refl
      go (suc n) h = absurd (omega arith)

  module _ (h : 0 < k) (p : Bytes) (t : Bool) (ep : p ≡ f (k - 1)) (et : t ≡ same p name) where
    test : same (f (k - 1)) name ≡ t
    test = ap (λ q. same q name) (sym ep) ∙ sym et

    pub row_stop : t ≡ true → Some (k - 1) ≡ a
    unfolding row_of
    row_stop g = sym (inv ∙ go k h (test ∙ g))
      where
        go : (n : ℕ) → 0 < n → same (f (n - 1)) name ≡ true → row_of f name n ≡ Some (n - 1)
        go zero h e = absurd (omega arith)
        go (suc n) h e = let z : suc n - 1 ≡ n = omega arith in rw (z, rw z at e)

    pub row_step : t ≡ false → a ≡ row_of f name (k - 1)
    unfolding row_of
    row_step g = inv ∙ go k h (test ∙ g)
      where
        go : (n : ℕ) → 0 < n → same (f (n - 1)) name ≡ false → row_of f name n ≡ row_of f name (n - 1)
        go zero h e = absurd (omega arith)
        go (suc n) h e = let z : suc n - 1 ≡ n = omega arith in rw z (rw (rw z at e))

pub ruleset row_loops = (rules, row_end, row_stop, row_step)

-- it is there, or no row has the name
pub row_any : (f : ℕ → Bytes) (name : Bytes) (n : ℕ) → any (λ q. same q name) (rows f n) ≡ is_some (row_of f name n)
unfolding rows row_of any
row_any f name zero = refl
row_any f name (suc n) = any_append (λ q. same q name) (rows f n) (f n) ∙ go (same (f n) name) (row_any f name n)
  where
    go : (b : Bool) → any (λ q. same q name) (rows f n) ≡ is_some (row_of f name n) → any (λ q. same q name) (rows f n) || b ≡ is_some (cond b (Some n) (row_of f name n))
    go true e = or-true (any (λ q. same q name) (rows f n))
    go false e = or-false (any (λ q. same q name) (rows f n)) ∙ e

-- it is one of the first n, and has the name
pub row_within : (f : ℕ → Bytes) (name : Bytes) (n k : ℕ) → Some k ≡ row_of f name n → k < n
unfolding row_of
row_within f name zero k h = absurd (no_true (ap is_some (sym h)))
row_within f name (suc n) k h = go (same (f n) name) (λ g. row_within f name n k g) h
  where
    go : (b : Bool) → (Some k ≡ row_of f name n → k < n) → Some k ≡ cond b (Some n) (row_of f name n) → k < suc n
    go true r g = let z : k ≡ n = cc in omega arith
    go false r g = let z : k < n = r g in omega arith

pub row_is_lem : (f : ℕ → Bytes) (name : Bytes) (n k : ℕ) → Some k ≡ row_of f name n → f k ≡ name
unfolding row_of
row_is_lem f name zero k h = absurd (no_true (ap is_some (sym h)))
row_is_lem f name (suc n) k h = go (same (f n) name) refl (λ g. row_is_lem f name n k g) h
  where
    go : (b : Bool) → same (f n) name ≡ b → (Some k ≡ row_of f name n → f k ≡ name) → Some k ≡ cond b (Some n) (row_of f name n) → f k ≡ name
    go true e r g = let z : k ≡ n = cc in rw z (same_eq (f n) name e)
    go false e r g = r g

-- counted from 1 it is at most n
pub row_le : (f : ℕ → Bytes) (name : Bytes) (n k : ℕ) → Some k ≡ row_of f name n → k + 1 ≤ n
row_le f name n k h = omega (arith, row_within f name n k h)

-- ---- after a row is put: what stands before it, behind it and in it
-- stores one after the other, from i on
abbrev pub puts : List ℕ → ℕ → List ℕ → List ℕ
puts l i [] = l
puts l i (v ∷ vs) = puts (set l i v) (i + 1) vs

puts_before : (l : List ℕ) (i : ℕ) (vs : List ℕ) (j : ℕ) → j < i → num (puts l i vs) j ≡ num l j
puts_before l i [] j h = refl
puts_before l i (v ∷ vs) j h = puts_before (set l i v) (i + 1) vs j (omega arith) ∙ get_or-set_other l i j v 0 (λ e. omega arith)

puts_behind : (l : List ℕ) (i : ℕ) (vs : List ℕ) (j : ℕ) → i + length vs ≤ j → num (puts l i vs) j ≡ num l j
puts_behind l i [] j h = refl
puts_behind l i (v ∷ vs) j h = puts_behind (set l i v) (i + 1) vs j (omega arith) ∙ get_or-set_other l i j v 0 (λ e. omega arith)

puts_long : (l : List ℕ) (i : ℕ) (vs : List ℕ) → length (puts l i vs) ≡ length l
puts_long l i [] = refl
puts_long l i (v ∷ vs) = puts_long (set l i v) (i + 1) vs ∙ length-set l i v

puts_in : (l : List ℕ) (i : ℕ) (vs : List ℕ) (c : ℕ) → c < length vs → i + length vs ≤ length l → num (puts l i vs) (i + c) ≡ num vs c
puts_in l i [] c h g = absurd (omega arith)
puts_in l i (v ∷ vs) zero h g =
    let z : i + 0 ≡ i = omega arith in
    rw z (puts_before (set l i v) (i + 1) vs i (omega arith) ∙ get_or-set_same l i v 0 (omega arith))
puts_in l i (v ∷ vs) (suc c) h g =
    let z : i + suc c ≡ i + 1 + c = omega arith in
    rw z (puts_in (set l i v) (i + 1) vs c (omega arith) (omega (arith, length-set l i v)))

puts_drop : (n : ℕ) (l : List ℕ) (i : ℕ) (vs : List ℕ) → i + length vs ≤ n → drop n (puts l i vs) ≡ drop n l
puts_drop n l i [] h = refl
puts_drop n l i (v ∷ vs) h = puts_drop n (set l i v) (i + 1) vs (omega arith) ∙ drop-set-lt n l i v (omega arith)

-- ---- rows that read the same numbers
module _ (job : Bytes) (l l' : List ℕ) where
  pub file_same : (k : ℕ) → ((i : ℕ) → 4 * k ≤ i → i < 4 * k + 4 → num l' i ≡ num l i) → file_at job l' k ≡ file_at job l k
  unfolding path_at body_at
  file_same k h =
      rw (h (4 * k) (omega arith) (omega arith), h (4 * k + 1) (omega arith) (omega arith), h (4 * k + 2) (omega arith) (omega arith), h (4 * k + 3) (omega arith) (omega arith))

  pub files_same : (n : ℕ) → ((i : ℕ) → i < 4 * n → num l' i ≡ num l i) → rows (file_at job l') n ≡ rows (file_at job l) n
  files_same n h = rows_same (file_at job l') (file_at job l) n (λ k g. file_same k (λ i a b. h i (omega arith)))

  pub module_same : (k : ℕ) → ((i : ℕ) → row_at k ≤ i → i < row_at k + 8 → num l' i ≡ num l i) → module_row job l' k ≡ module_row job l k
  unfolding module_row
  module_same k h =
      rw (
        h (row_at k) (omega arith) (omega arith),
        h (row_at k + 1) (omega arith) (omega arith),
        h (row_at k + 2) (omega arith) (omega arith),
        h (row_at k + 3) (omega arith) (omega arith),
        h (row_at k + 4) (omega arith) (omega arith),
        h (row_at k + 5) (omega arith) (omega arith),
        h (row_at k + 6) (omega arith) (omega arith),
      )

  pub modules_same : (n : ℕ) → ((i : ℕ) → 128 ≤ i → i < row_at n → num l' i ≡ num l i) → rows (module_row job l') n ≡ rows (module_row job l) n
  modules_same n h = rows_same (module_row job l') (module_row job l) n (λ k g. module_same k (λ i a b. h i (omega arith) (omega arith)))

  pub insts_same : (n : ℕ) → ((i : ℕ) → 1152 ≤ i → i < 1152 + 2 * n → num l' i ≡ num l i) → rows (inst_at job l') n ≡ rows (inst_at job l) n
  unfolding inst_at
  insts_same n h = rows_same (inst_at job l') (inst_at job l) n (λ k g. rw (h (1152 + 2 * k) (omega arith) (omega arith), h (1152 + 2 * k + 1) (omega arith) (omega arith)))

-- ---- a file is put
module _ (job : Bytes) (index : List ℕ) (k at len body size : ℕ) (few : k < 32) (room : 1280 ≤ length index) where
  abbrev filed : List ℕ
  filed = with_file index k at len body size

  file_puts : filed ≡ puts index (4 * k) (at ∷ len ∷ body ∷ size ∷ [])
  file_puts = let z : 4 * k + 1 + 1 ≡ 4 * k + 2 = omega arith in let y : 4 * k + 2 + 1 ≡ 4 * k + 3 = omega arith in rw (z, y)

  file_in : (c : ℕ) → c < 4 → num filed (4 * k + c) ≡ num (at ∷ len ∷ body ∷ size ∷ []) c
  file_in c h = rw file_puts (puts_in index (4 * k) (at ∷ len ∷ body ∷ size ∷ []) c h (omega arith))

  file_new : file_at job filed k ≡ record { path = bytes_at job at len; body = bytes_at job body size }
  unfolding path_at body_at
  file_new =
      let z : num filed (4 * k) ≡ at = ap (num filed) (sym (add-zero (4 * k))) ∙ file_in 0 (omega arith) in
      rw (z, file_in 1 (omega arith), file_in 2 (omega arith), file_in 3 (omega arith))

  pub files_put : rows (file_at job filed) (k + 1) ≡ rows (file_at job index) k ++ (record { path = bytes_at job at len; body = bytes_at job body size } ∷ [])
  files_put =
      rows_more (file_at job filed) k
      ∙ rw (files_same job index filed k (λ i h. rw file_puts (puts_before index (4 * k) (at ∷ len ∷ body ∷ size ∷ []) i h)), file_new)

  pub file_modules : (n : ℕ) → rows (module_row job filed) n ≡ rows (module_row job index) n
  file_modules n = modules_same job index filed n (λ i h g. rw file_puts (puts_behind index (4 * k) (at ∷ len ∷ body ∷ size ∷ []) i (omega arith)))

  pub file_long : length filed ≡ length index
  file_long = rw file_puts (puts_long index (4 * k) (at ∷ len ∷ body ∷ size ∷ []))

  pub file_kept : drop 1280 filed ≡ drop 1280 index
  file_kept = rw file_puts (puts_drop 1280 index (4 * k) (at ∷ len ∷ body ∷ size ∷ []) (omega arith))

-- ---- a module is put
module _ (job : Bytes) (index : List ℕ) (k : ℕ) (o : Open) (few : k < 128) (room : 1280 ≤ length index) where
  abbrev moduled : List ℕ
  moduled = with_module index k o

  abbrev numbers : List ℕ
  numbers = o.name.at ∷ o.name.len ∷ style_number o.style ∷ o.ports ∷ o.decls ∷ o.insts ∷ o.end ∷ o.ninsts ∷ []

  module_puts : moduled ≡ puts index (row_at k) numbers
  module_puts =
      let z : row_at k + 1 + 1 ≡ row_at k + 2 = omega arith in
      let y : row_at k + 2 + 1 ≡ row_at k + 3 = omega arith in
      let x : row_at k + 3 + 1 ≡ row_at k + 4 = omega arith in
      let w : row_at k + 4 + 1 + 1 ≡ row_at k + 4 + 2 = omega arith in
      let v : row_at k + 4 + 2 + 1 ≡ row_at k + 4 + 3 = omega arith in
      rw (z, y, x, w, v)

  pub module_in : (c : ℕ) → c < 8 → num moduled (row_at k + c) ≡ num numbers c
  module_in c h = rw module_puts (puts_in index (row_at k) numbers c h (omega arith))

  pub module_before : (i : ℕ) → i < row_at k → num moduled i ≡ num index i
  module_before i h = rw module_puts (puts_before index (row_at k) numbers i h)

  pub module_new : module_row job moduled k ≡ module_of job o.name.at o.name.len (style_number o.style) o.ports o.decls o.insts o.end
  unfolding module_row
  module_new =
      let z : num moduled (row_at k) ≡ o.name.at = ap (num moduled) (sym (add-zero (row_at k))) ∙ module_in 0 (omega arith) in
      rw (z, module_in 1 (omega arith), module_in 2 (omega arith), module_in 3 (omega arith), module_in 4 (omega arith), module_in 5 (omega arith), module_in 6 (omega arith))

  pub modules_put : rows (module_row job moduled) (k + 1) ≡ rows (module_row job index) k ++ (module_of job o.name.at o.name.len (style_number o.style) o.ports o.decls o.insts o.end ∷ [])
  modules_put = rows_more (module_row job moduled) k ∙ rw (modules_same job index moduled k (λ i h g. module_before i g), module_new)

  pub module_files : (n : ℕ) → n ≤ 32 → rows (file_at job moduled) n ≡ rows (file_at job index) n
  module_files n h = files_same job index moduled n (λ i g. module_before i (omega arith))

  pub module_long : length moduled ≡ length index
  module_long = rw module_puts (puts_long index (row_at k) numbers)

  pub module_kept : drop 1280 moduled ≡ drop 1280 index
  module_kept = rw module_puts (puts_drop 1280 index (row_at k) numbers (omega arith))

-- ---- an instance's name is put
module _ (job : Bytes) (index : List ℕ) (k at len : ℕ) (few : k < 64) (room : 1280 ≤ length index) where
  abbrev named : List ℕ
  named = with_name index k at len

  name_before : (i : ℕ) → i < 1152 + 2 * k → num named i ≡ num index i
  name_before i h = puts_before index (1152 + 2 * k) (at ∷ len ∷ []) i h

  name_new : inst_at job named k ≡ bytes_at job at len
  unfolding inst_at
  name_new =
      let z : num named (1152 + 2 * k) ≡ at = ap (num named) (sym (add-zero (1152 + 2 * k))) ∙ puts_in index (1152 + 2 * k) (at ∷ len ∷ []) 0 (omega arith) (omega arith) in
      rw (z, puts_in index (1152 + 2 * k) (at ∷ len ∷ []) 1 (omega arith) (omega arith))

  pub names_put_lem : rows (inst_at job named) (k + 1) ≡ rows (inst_at job index) k ++ (bytes_at job at len ∷ [])
  names_put_lem = rows_more (inst_at job named) k ∙ rw (insts_same job index named k (λ i h g. name_before i g), name_new)

  pub name_files : (n : ℕ) → n ≤ 32 → rows (file_at job named) n ≡ rows (file_at job index) n
  name_files n h = files_same job index named n (λ i g. name_before i (omega arith))

  pub name_modules : (n : ℕ) → n ≤ 128 → rows (module_row job named) n ≡ rows (module_row job index) n
  name_modules n h = modules_same job index named n (λ i g f. name_before i (omega arith))

  pub name_long : length named ≡ length index
  name_long = puts_long index (1152 + 2 * k) (at ∷ len ∷ [])

  pub name_kept : drop 1280 named ≡ drop 1280 index
  name_kept = puts_drop 1280 index (1152 + 2 * k) (at ∷ len ∷ []) (omega arith)
