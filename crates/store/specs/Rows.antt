-- How numbers stand for rows and words: a row has five, the first of which holds its kind and its scope; a word has two. Assumes nothing.
use Prim.Native.Nat.{ℕ, zero, suc, ◌+◌, ◌*◌, ◌/◌, ◌%◌, ◌≤◌, ◌<◌}
use Rattle.std.specs.Prelude.{◌≡◌, List, [], ◌∷◌, ◌++◌, ◌⊎◌, length, set}
use Rattle.std.proofs.Math.Path.{refl}
use Rattle.std.proofs.Common.{◌∙◌, inl, inr, arith, add-one, get_or-set_other}
use Rattle.std.proofs.Math.ListN.{get_or, length-set}
use Rattle.std.proofs.Math.Seq.{get_or-set_same}
use Rattle.store.specs.View.{Store}
use Rattle.store.specs.declared.stored.Stored.{Stored}
use Rattle.store.specs.declared.row.Row.{Row}
use Rattle.store.specs.declared.state.State.{State}

abbrev pub stored_at : List ℕ → ℕ → Stored
stored_at nums i = record { at = get_or nums i 0; len = get_or nums (i + 1) 0 }

-- where row k and word k begin
abbrev pub row_place : ℕ → ℕ
row_place k = 1472 + 5 * k

abbrev pub word_place : ℕ → ℕ
word_place k = 6592 + 2 * k

-- kind and scope in one number
abbrev pub code : Row → ℕ
code r = (r.scope.at * 1024 + r.scope.len) * 16 + r.kind

unfoldable pub row_at : List ℕ → ℕ → Row
row_at nums k =
    record {
      kind = get_or nums (row_place k) 0 % 16;
      scope = record { at = get_or nums (row_place k) 0 / 16 / 1024; len = get_or nums (row_place k) 0 / 16 % 1024 };
      name = stored_at nums (row_place k + 1);
      value = stored_at nums (row_place k + 3);
    }

unfoldable pub word_at : List ℕ → ℕ → Stored
word_at nums k = stored_at nums (word_place k)

-- the first k of them
unfoldable pub rows_in : List ℕ → ℕ → List Row
rows_in nums zero = []
rows_in nums (suc k) = rows_in nums k ++ (row_at nums k ∷ [])

unfoldable pub words_in : List ℕ → ℕ → List Stored
words_in nums zero = []
words_in nums (suc k) = words_in nums k ++ (word_at nums k ∷ [])

-- the store of a state
abbrev pub store_of : List ℕ → State → Store
store_of nums s = record { rows = rows_in nums s.fill.rows; words = words_in nums s.fill.words }

-- ---- as the code leaves them

abbrev pub row_put_lem : List ℕ → ℕ → Row → List ℕ
row_put_lem l k r =
    set (set (set (set (set l (row_place k) (code r)) (row_place k + 1) r.name.at) (row_place k + 2) r.name.len) (row_place k + 3) r.value.at) (row_place k + 4) r.value.len

abbrev pub word_put : List ℕ → ℕ → Stored → List ℕ
word_put l k w = set (set l (word_place k) w.at) (word_place k + 1) w.len

-- a row can be held in five numbers
pub record Packs (r : Row) : Type 0 where
  pub kind : r.kind < 16
  pub at : r.scope.at < 262144
  pub len : r.scope.len < 1024

-- ---- laws

pub code_kind : (r : Row) → Packs r → code r % 16 ≡ r.kind
code_kind r p = omega (arith, p.kind)

pub code_len : (r : Row) → Packs r → code r / 16 % 1024 ≡ r.scope.len
code_len r p = omega (arith, p.kind, p.len)

pub code_at : (r : Row) → Packs r → code r / 16 / 1024 ≡ r.scope.at
code_at r p = omega (arith, p.kind, p.len)

-- what is read where numbers are kept
module _ (l l' : List ℕ) where
  row_same : (k : ℕ) → ((i : ℕ) → row_place k ≤ i → i < row_place k + 5 → get_or l' i 0 ≡ get_or l i 0) → row_at l' k ≡ row_at l k
  unfolding row_at
  row_same k e =
      rw (e (row_place k) (omega arith) (omega arith), e (row_place k + 1) (omega arith) (omega arith), e (row_place k + 1 + 1) (omega arith) (omega arith), e (row_place k + 3) (omega arith) (omega arith), e (row_place k + 3 + 1) (omega arith) (omega arith))

  pub rows_same : (k : ℕ) → ((i : ℕ) → 1472 ≤ i → i < row_place k → get_or l' i 0 ≡ get_or l i 0) → rows_in l' k ≡ rows_in l k
  unfolding rows_in
  rows_same zero e = refl
  rows_same (suc k) e =
      rw (rows_same k (λ i h g. e i h (omega arith)), row_same k (λ i h g. e i (omega arith) (omega arith)))

  word_same : (k : ℕ) → ((i : ℕ) → word_place k ≤ i → i < word_place k + 2 → get_or l' i 0 ≡ get_or l i 0) → word_at l' k ≡ word_at l k
  unfolding word_at
  word_same k e = rw (e (word_place k) (omega arith) (omega arith), e (word_place k + 1) (omega arith) (omega arith))

  pub words_same : (k : ℕ) → ((i : ℕ) → 6592 ≤ i → i < word_place k → get_or l' i 0 ≡ get_or l i 0) → words_in l' k ≡ words_in l k
  unfolding words_in
  words_same zero e = refl
  words_same (suc k) e =
      rw (words_same k (λ i h g. e i h (omega arith)), word_same k (λ i h g. e i (omega arith) (omega arith)))

-- a number is stored elsewhere
pub elsewhere : (l : List ℕ) (j v i : ℕ) → (i < j) ⊎ (j < i) → get_or (set l j v) i 0 ≡ get_or l i 0
elsewhere l j v i (inl h) = get_or-set_other l j i v 0 (λ e. absurd (omega arith))
elsewhere l j v i (inr h) = get_or-set_other l j i v 0 (λ e. absurd (omega arith))

module _ (l : List ℕ) (k : ℕ) (r : Row) where
  pub row_put_before : (i : ℕ) → i < row_place k → get_or (row_put_lem l k r) i 0 ≡ get_or l i 0
  row_put_before i h =
      elsewhere (set (set (set (set l (row_place k) (code r)) (row_place k + 1) r.name.at) (row_place k + 2) r.name.len) (row_place k + 3) r.value.at) (row_place k + 4) r.value.len i (inl (omega arith))
      ∙ elsewhere (set (set (set l (row_place k) (code r)) (row_place k + 1) r.name.at) (row_place k + 2) r.name.len) (row_place k + 3) r.value.at i (inl (omega arith))
      ∙ elsewhere (set (set l (row_place k) (code r)) (row_place k + 1) r.name.at) (row_place k + 2) r.name.len i (inl (omega arith))
      ∙ elsewhere (set l (row_place k) (code r)) (row_place k + 1) r.name.at i (inl (omega arith))
      ∙ elsewhere l (row_place k) (code r) i (inl h)

  pub row_put_behind : (i : ℕ) → row_place k + 4 < i → get_or (row_put_lem l k r) i 0 ≡ get_or l i 0
  row_put_behind i h =
      elsewhere (set (set (set (set l (row_place k) (code r)) (row_place k + 1) r.name.at) (row_place k + 2) r.name.len) (row_place k + 3) r.value.at) (row_place k + 4) r.value.len i (inr h)
      ∙ elsewhere (set (set (set l (row_place k) (code r)) (row_place k + 1) r.name.at) (row_place k + 2) r.name.len) (row_place k + 3) r.value.at i (inr (omega arith))
      ∙ elsewhere (set (set l (row_place k) (code r)) (row_place k + 1) r.name.at) (row_place k + 2) r.name.len i (inr (omega arith))
      ∙ elsewhere (set l (row_place k) (code r)) (row_place k + 1) r.name.at i (inr (omega arith))
      ∙ elsewhere l (row_place k) (code r) i (inr (omega arith))

  pub row_put_long : length (row_put_lem l k r) ≡ length l
  row_put_long = simp length-set

  module _ (h : row_place k + 4 < length l) where
    put_code : get_or (row_put_lem l k r) (row_place k) 0 ≡ code r
    put_code =
        elsewhere (set (set (set (set l (row_place k) (code r)) (row_place k + 1) r.name.at) (row_place k + 2) r.name.len) (row_place k + 3) r.value.at) (row_place k + 4) r.value.len (row_place k) (inl (omega arith))
        ∙ elsewhere (set (set (set l (row_place k) (code r)) (row_place k + 1) r.name.at) (row_place k + 2) r.name.len) (row_place k + 3) r.value.at (row_place k) (inl (omega arith))
        ∙ elsewhere (set (set l (row_place k) (code r)) (row_place k + 1) r.name.at) (row_place k + 2) r.name.len (row_place k) (inl (omega arith))
        ∙ elsewhere (set l (row_place k) (code r)) (row_place k + 1) r.name.at (row_place k) (inl (omega arith))
        ∙ get_or-set_same l (row_place k) (code r) 0 (omega arith)

    put_1 : get_or (row_put_lem l k r) (row_place k + 1) 0 ≡ r.name.at
    put_1 =
        elsewhere (set (set (set (set l (row_place k) (code r)) (row_place k + 1) r.name.at) (row_place k + 2) r.name.len) (row_place k + 3) r.value.at) (row_place k + 4) r.value.len (row_place k + 1) (inl (omega arith))
        ∙ elsewhere (set (set (set l (row_place k) (code r)) (row_place k + 1) r.name.at) (row_place k + 2) r.name.len) (row_place k + 3) r.value.at (row_place k + 1) (inl (omega arith))
        ∙ elsewhere (set (set l (row_place k) (code r)) (row_place k + 1) r.name.at) (row_place k + 2) r.name.len (row_place k + 1) (inl (omega arith))
        ∙ get_or-set_same (set l (row_place k) (code r)) (row_place k + 1) r.name.at 0 (simp length-set (omega arith))

    put_2 : get_or (row_put_lem l k r) (row_place k + 1 + 1) 0 ≡ r.name.len
    put_2 =
        let q : row_place k + 1 + 1 ≡ row_place k + 2 = omega arith in
        rw q
        (elsewhere (set (set (set (set l (row_place k) (code r)) (row_place k + 1) r.name.at) (row_place k + 2) r.name.len) (row_place k + 3) r.value.at) (row_place k + 4) r.value.len (row_place k + 2) (inl (omega arith))
        ∙ elsewhere (set (set (set l (row_place k) (code r)) (row_place k + 1) r.name.at) (row_place k + 2) r.name.len) (row_place k + 3) r.value.at (row_place k + 2) (inl (omega arith))
        ∙ get_or-set_same (set (set l (row_place k) (code r)) (row_place k + 1) r.name.at) (row_place k + 2) r.name.len 0 (simp length-set (omega arith)))

    put_3 : get_or (row_put_lem l k r) (row_place k + 3) 0 ≡ r.value.at
    put_3 =
        elsewhere (set (set (set (set l (row_place k) (code r)) (row_place k + 1) r.name.at) (row_place k + 2) r.name.len) (row_place k + 3) r.value.at) (row_place k + 4) r.value.len (row_place k + 3) (inl (omega arith))
        ∙ get_or-set_same (set (set (set l (row_place k) (code r)) (row_place k + 1) r.name.at) (row_place k + 2) r.name.len) (row_place k + 3) r.value.at 0 (simp length-set (omega arith))

    put_4 : get_or (row_put_lem l k r) (row_place k + 3 + 1) 0 ≡ r.value.len
    put_4 =
        let q : row_place k + 3 + 1 ≡ row_place k + 4 = omega arith in
        rw q
        (get_or-set_same (set (set (set (set l (row_place k) (code r)) (row_place k + 1) r.name.at) (row_place k + 2) r.name.len) (row_place k + 3) r.value.at) (row_place k + 4) r.value.len 0 (simp length-set h))

    put_at : Packs r → row_at (row_put_lem l k r) k ≡ r
    unfolding row_at
    put_at p = rw (put_code, put_1, put_2, put_3, put_4, code_kind r p, code_at r p, code_len r p)

    -- a row more, and no other word
    pub rows_put : Packs r → rows_in (row_put_lem l k r) (k + 1) ≡ rows_in l k ++ (r ∷ [])
    unfolding rows_in
    rows_put p = rw (add-one k, rows_same l (row_put_lem l k r) k (λ i a b. row_put_before i b), put_at p)

  pub words_kept : k < 1024 → (j : ℕ) → words_in (row_put_lem l k r) j ≡ words_in l j
  words_kept h j = words_same l (row_put_lem l k r) j (λ i a b. row_put_behind i (omega arith))

module _ (l : List ℕ) (k : ℕ) (w : Stored) where
  pub word_put_before : (i : ℕ) → i < word_place k → get_or (word_put l k w) i 0 ≡ get_or l i 0
  word_put_before i h = elsewhere (set l (word_place k) w.at) (word_place k + 1) w.len i (inl (omega arith)) ∙ elsewhere l (word_place k) w.at i (inl h)

  pub word_put_behind : (i : ℕ) → word_place k + 1 < i → get_or (word_put l k w) i 0 ≡ get_or l i 0
  word_put_behind i h = elsewhere (set l (word_place k) w.at) (word_place k + 1) w.len i (inr h) ∙ elsewhere l (word_place k) w.at i (inr (omega arith))

  pub word_put_long : length (word_put l k w) ≡ length l
  word_put_long = simp length-set

  pub words_put_lem : word_place k + 1 < length l → words_in (word_put l k w) (k + 1) ≡ words_in l k ++ (w ∷ [])
  unfolding words_in word_at
  words_put_lem h =
      let a : get_or (word_put l k w) (word_place k) 0 ≡ w.at = elsewhere (set l (word_place k) w.at) (word_place k + 1) w.len (word_place k) (inl (omega arith)) ∙ get_or-set_same l (word_place k) w.at 0 (omega arith) in
      let b : get_or (word_put l k w) (word_place k + 1) 0 ≡ w.len = get_or-set_same (set l (word_place k) w.at) (word_place k + 1) w.len 0 (simp length-set h) in
      rw (add-one k, words_same l (word_put l k w) k (λ i p q. word_put_before i q), a, b)

  pub rows_kept : (j : ℕ) → j ≤ 1024 → rows_in (word_put l k w) j ≡ rows_in l j
  rows_kept j h = rows_same l (word_put l k w) j (λ i p q. word_put_before i (omega arith))
